-- What a ticket's hints tell of the history.
use Rattle.std.proofs.Common.{◌≡◌, ℕ, ◌+◌, ◌-◌, List, length, take, drop, refl, sym, ◌∙◌, ap, subst, arith}
use Rattle.std.specs.Prelude.{Some}
use Rattle.std.proofs.Math.Seq.{take-length}
use Rattle.boxcar.specs.Table.{Shelves}
use Rattle.page_store.specs.House.{House}
use Rattle.node_store.specs.UpdateRows.{UpdateRow}
use Rattle.tree_geom.specs.declared.touch.Touch.{Touch}
use Rattle.range_log.specs.Extents.{touches}
use Rattle.range_log.specs.Updates.{extents}
use Rattle.snapshot.specs.Versions.{Version, IsVersion, IsVersionIn}
use Rattle.snapshot.specs.Laws.{TellUpdates}
use Rattle.border_hints.specs.Numbered.{NumberedUpdate}
use Rattle.publisher.specs.Windows.{Numbered, leading, version_of, waiting_of, published_of, opens_from}
use Rattle.blob_model.specs.Limits.{Bounds}
use Rattle.blob_model.specs.Content.{Update}
use Rattle.blob_model.specs.Store.{Blob, blob_at}
use Rattle.blob_model.specs.History.{store_of}
use Rattle.version_manager.specs.Desks.{DeskState, HasHints, HasHintsBelow, updates_in, updates_or_none, published_in, published_or_none}
use Rattle.version_manager.specs.DeskInvariant.{Keeps}
use Rattle.version_manager.specs.Origins.{LieUnderOrigins}
use Rattle.version_manager.proofs.Blobs.{published_is, leads, tells_all}
use Rattle.version_manager.proofs.Houses.{AreRowsIn, older_in}
use Rattle.version_manager.proofs.Reissuing.{opens_taken, drop-taken}

all_in : (nodes : List Shelves) (houses : List House) (w : Numbered) → AreRowsIn nodes houses w → IsVersionIn nodes houses (version_of w)
all_in nodes houses w h =
    let V : List UpdateRow → Type 0 = λ l. IsVersionIn nodes houses record { blob = w.blob; page_size = w.page_size; rows = l } in
    subst V (take-length (leading w.rows)) (older_in nodes houses w (length (leading w.rows)) h)

pub has_hints : (d : DeskState) (on : ℕ) (t : NumberedUpdate) (b : Blob) (w : Numbered) (limits : Bounds) → blob_at (store_of d.limits d.history) on ≡ Some b → w.blob ≡ on → w.page_size ≡ d.page_size → Keeps limits w b
    → length w.rows ≡ length w.log → IsVersion (version_of w) → t.snapshot ≡ version_of w → t.waiting ≡ waiting_of w → AreRowsIn d.nodes d.houses w → LieUnderOrigins d.history on (leading w.rows) → HasHints d on t
has_hints d on t b w limits at id page k even is snapshot waiting lies under =
    let count : published_of w ≡ published_in d on = published_is limits w b k ∙ sym (ap published_or_none at) in
    let us : b.updates ≡ updates_in d on = sym (ap updates_or_none at) in
    let log : w.log ≡ touches d.page_size (extents (updates_in d on)) =
    k.stands.log ∙ ap (λ (p : ℕ). touches p (extents b.updates)) page ∙ ap (λ (l : List Update). touches d.page_size (extents l)) us in
    let rows : t.snapshot.rows ≡ leading w.rows = ap (λ (v : Version). v.rows) snapshot in
    let T : List UpdateRow → Type 0 = λ l. TellUpdates d.page_size (updates_in d on) l in
    let U : List Update → Type 0 = λ l. TellUpdates d.page_size l (leading w.rows) in
    let P : ℕ → Type 0 = λ p. TellUpdates p b.updates (leading w.rows) in
    let V : Version → Type 0 = λ v. IsVersionIn d.nodes d.houses v in
    let O : List UpdateRow → Type 0 = λ l. LieUnderOrigins d.history on l in
    record {
      blob_is = ap (λ (v : Version). v.blob) snapshot ∙ id;
      rows = ap length rows ∙ leads limits w b k even ∙ count;
      tells = subst T (sym rows) (subst U us (subst P page (tells_all limits w b k even is)));
      waiting = waiting ∙ ap (λ (l : List Touch). opens_from (published_of w + 1) (drop (published_of w) l)) log
          ∙ ap (λ (n : ℕ). opens_from (n + 1) (drop n (touches d.page_size (extents (updates_in d on))))) count;
      here = subst V (sym snapshot) (all_in d.nodes d.houses w lies);
      origins = subst O (sym rows) under;
    }

-- the hints of a version that waits
pub has_hints_below : (d : DeskState) (on : ℕ) (t : NumberedUpdate) (b : Blob) (w : Numbered) (limits : Bounds) → blob_at (store_of d.limits d.history) on ≡ Some b → w.blob ≡ on → w.page_size ≡ d.page_size → Keeps limits w b
    → length w.rows ≡ length w.log → IsVersion (version_of w) → t.snapshot ≡ version_of w → t.waiting ≡ take (t.version - published_of w - 1) (waiting_of w) → AreRowsIn d.nodes d.houses w
    → LieUnderOrigins d.history on (leading w.rows) → HasHintsBelow d on t
has_hints_below d on t b w limits at id page k even is snapshot waiting lies under =
    let all : HasHints d on record t { waiting = waiting_of w } = has_hints d on record t { waiting = waiting_of w } b w limits at id page k even is snapshot refl lies under in
    let n : ℕ = published_of w in
    let m : ℕ = t.version - 1 in
    let count : n ≡ published_in d on = published_is limits w b k ∙ sym (ap published_or_none at) in
    let log : w.log ≡ touches d.page_size (extents (updates_in d on)) =
    k.stands.log ∙ ap (λ (p : ℕ). touches p (extents b.updates)) page ∙ ap (λ (l : List Update). touches d.page_size (extents l)) (sym (ap updates_or_none at)) in
    let few : t.version - n - 1 ≡ m - n = omega arith in
    record {
      blob_is = all.blob_is;
      rows = all.rows;
      tells = all.tells;
      waiting = waiting
          ∙ ap (λ (i : ℕ). take i (waiting_of w)) few
          ∙ opens_taken (m - n) (n + 1) (drop n w.log)
          ∙ ap (opens_from (n + 1)) (sym (drop-taken n m w.log))
          ∙ ap (λ (l : List Touch). opens_from (n + 1) (drop n (take m l))) log
          ∙ ap (λ (i : ℕ). opens_from (i + 1) (drop i (take m (touches d.page_size (extents (updates_in d on)))))) count;
      here = all.here;
      origins = all.origins;
    }
