-- What holds of a blob goes on.
use Rattle.std.proofs.Common.{◌≡◌, ℕ, ◌+◌, ◌-◌, ◌^◌, ◌≤◌, List, [], ◌∷◌, ◌++◌, length, take, drop, map, max, None, Some, Result, Ok, Err, ◌⊎◌, inl, inr, arith, ap, sym, ◌∙◌, subst, length-append, length-set}
use Rattle.std.specs.Prelude.{IfOk, IfErr}
use Rattle.std.proofs.lemmas.List.{length-map, length-take-le, map-append, take-append-drop}
use Rattle.std.proofs.lemmas.List.Elements.{All-push, All-set}
use Rattle.boxcar.specs.Table.{Shelves}
use Rattle.blob_model.specs.Content.{Update, size_of}
use Rattle.tree_geom.specs.declared.touch.Touch.{Touch}
use Rattle.tree_geom.specs.Geometry.{touched_by}
use Rattle.range_log.specs.Log.{size_at}
use Rattle.range_log.specs.Rows.{folds_of, row_of}
use Rattle.range_log.specs.Updates.{extents, page_bytes}
use Rattle.range_log.specs.Laws.{TouchesAre, EachTouchIs, SizesAre, ExtentsStand}
use Rattle.page_store.specs.Stored.{Stored, bytes_of_pages}
use Rattle.node_store.specs.House.{IsIn}
use Rattle.node_store.specs.UpdateRows.{UpdateRow}
use Rattle.snapshot.specs.Versions.{IsRowOf}
use Rattle.snapshot.specs.Laws.{OwnRowsStay}
use Rattle.border_hints.specs.Numbered.{NumberedUpdate, own_touch, IsValidTicket}
use Rattle.tree_weaver.specs.Laws.{StoredRowsAreRows}
use Rattle.publisher.specs.Windows.{Numbered, WindowState, with_numbered, with_finished, WindowHolds}
use Rattle.publisher.specs.Laws.{NumberedStands, FinishedStands}
use Rattle.tree_tests.specs.Blobs.{OneBlob, IsOneBlob, IsRowIfAnyIn, Start, update_of, updates_in, IsTicketOf}
use Rattle.tree_tests.proofs.Updates.{is_next, size_told}

abbrev pub blob_of : List Shelves → Numbered → List Touch → List Start → OneBlob
blob_of nodes w touches starts = record { nodes = nodes; window = w; touches = touches; starts = starts }

-- ---- one update more
module _ (are : TouchesAre) (each : EachTouchIs) (sizes : SizesAre) (stand : ExtentsStand) (law : NumberedStands) where
  pub size_is : (b : OneBlob) → IsOneBlob b → size_at b.touches (length b.touches) ≡ size_of (updates_in b) (length (updates_in b))
  size_is b is =
      let us : List Update = updates_in b in
      let n : length b.touches ≡ length us = ap length is.touches ∙ sym is.stands.counted in
      ap (size_at b.touches) n
      ∙ ap (λ l. size_at l (length us)) (is.touches ∙ is.stands.log)
      ∙ size_told each sizes stand b.window.page_size us (length us) is.stands.replayable (omega arith)

  pub numbered_blob : (b : OneBlob) → IsOneBlob b → (s : Start) (len size : ℕ) (touch : Touch) (w : Numbered) (touches : List Touch) (starts : List Start)
      → s.pages.page_size ≡ b.window.page_size → len ≡ length (bytes_of_pages s.pages.pages) → 1 ≤ len → s.at ≤ size_at b.touches (length b.touches)
      → size ≡ max (size_at b.touches (length b.touches)) (s.at + len) → size ≤ 2 ^ 40 → touch ≡ touched_by b.window.page_size s.at len size
      → w ≡ with_numbered b.window touch → touches ≡ b.touches ++ touch ∷ [] → starts ≡ b.starts ++ s ∷ [] → IsOneBlob (blob_of b.nodes w touches starts)
  numbered_blob b is s len size touch w touches starts alike long some begins whole fits is_touch w_is touches_are starts_are =
      let us : List Update = updates_in b in
      let before = size_is b is in
      let next = is_next are each stand b.window.page_size us s len size touch is.stands.replayable (omega arith) long some (whole ∙ ap (λ n. max n (s.at + len)) before) fits is_touch in
      let T : List Touch → Type 0 = λ l. IsOneBlob (blob_of b.nodes w l starts) in
      let S : List Start → Type 0 = λ l. IsOneBlob (blob_of b.nodes w (b.touches ++ touch ∷ []) l) in
      let W : Numbered → Type 0 = λ x. IsOneBlob (blob_of b.nodes x (b.touches ++ touch ∷ []) (b.starts ++ s ∷ [])) in
      let U : List Update → Type 0 = λ l. WindowHolds l (with_numbered b.window touch) in
      subst T (sym touches_are) (subst S (sym starts_are) (subst W (sym w_is) record {
        page_size = is.page_size;
        stands = subst U (sym (map-append update_of b.starts (s ∷ []))) (law us (update_of s) b.window touch is.paired is.stands next);
        paired = omega (arith, length-append b.window.rows (None ∷ []), length-append b.window.log (touch ∷ []), is.paired);
        touches = ap (λ l. l ++ touch ∷ []) is.touches;
        cut = All-push (λ (x : Start). x.pages.page_size ≡ b.window.page_size) b.starts s is.cut alike;
        lies = All-push (IsRowIfAnyIn b.nodes) b.window.rows None is.lies tt;
      }))

-- ---- one update finished
-- the row of one of the first updates is that of the update
pub row_in_all : OwnRowsStay → (p v : ℕ) (us : List Update) (row : UpdateRow) → v ≤ length (take v us) → IsRowOf p (take v us) v row → IsRowOf p us v row
row_in_all stay p v us row le is =
    let U : List Update → Type 0 = λ l. IsRowOf p l v row in
    subst U (take-append-drop v us) (stay p v (take v us) (drop v us) row le is)

-- a row that was stored by the plan of a ticket is that of the ticket's update
pub own_row : StoredRowsAreRows → OwnRowsStay → (b : OneBlob) (t : NumberedUpdate) (row : UpdateRow) → IsTicketOf b t → IsValidTicket t
    → row.version ≡ t.version → row.offset ≡ t.at → row.touch ≡ own_touch t → row.pages ≡ t.pages
    → row.nodes ≡ row_of b.window.page_size (extents (take t.version (updates_in b))) t.version
    → row.folds ≡ [] → folds_of b.window.page_size (extents (take t.version (updates_in b))) t.version ≡ [] → IsRowOf b.window.page_size (updates_in b) t.version row
own_row law stay b t row k is version offset touch pages nodes none_stored none_told =
    let us : List Update = updates_in b in
    let first : List Update = take t.version us in
    let P : ℕ → Type 0 = λ p. IsRowOf p first t.version row in
    let count : length first ≡ t.version = length-take-le t.version us (omega (arith, k.numbered, length-map b.starts update_of)) in
    let none : folds_of t.snapshot.page_size (extents first) t.version ≡ [] = ap (λ p. folds_of p (extents first) t.version) k.page_size ∙ none_told in
    let folds = ap (map (λ (s : Stored). s.bytes)) none_stored ∙ sym (ap (map (λ i. page_bytes t.snapshot.page_size first t.version i)) none) in
    let own : IsRowOf t.snapshot.page_size first t.version row =
    law t row first is version offset touch pages k.stands (nodes ∙ ap (λ p. row_of p (extents first) t.version) (sym k.page_size)) k.bytes folds in
    row_in_all stay b.window.page_size t.version us row (omega arith) (subst P k.page_size own)

-- it was finished, or the window is as before
pub finished_or_not : {A E U : Type 0} (result : Result A E) (w old : WindowState U) (version : ℕ) (row : UpdateRow) (Same : E → Type 0) → IfOk result (λ _. w.numbered ≡ with_finished old.numbered version row)
    → IfErr result (λ e. Same e × (w ≡ old)) → (w.numbered ≡ with_finished old.numbered version row) ⊎ (w.numbered ≡ old.numbered)
finished_or_not (Ok a) w old version row Same ok err = inl ok
finished_or_not {U = U} (Err e) w old version row Same ok err = inr (ap (λ (x : WindowState U). x.numbered) err.1)

pub is_counted : (b : OneBlob) → IsOneBlob b → length b.starts ≡ length b.window.log
is_counted b is = sym (length-map b.starts update_of) ∙ is.stands.counted

finished_blob : FinishedStands → (b : OneBlob) → IsOneBlob b → (version : ℕ) (row : UpdateRow) (w : Numbered) → 1 ≤ version → version ≤ length b.window.log
    → IsRowOf b.window.page_size (updates_in b) version row → IsIn b.nodes row.spot → w ≡ with_finished b.window version row → IsOneBlob (blob_of b.nodes w b.touches b.starts)
finished_blob law b is version row w some le own here w_is =
    let W : Numbered → Type 0 = λ x. IsOneBlob (blob_of b.nodes x b.touches b.starts) in
    subst W (sym w_is) record {
      page_size = is.page_size;
      stands = law (updates_in b) b.window version row some (omega (arith, is.paired)) is.stands own;
      paired = length-set b.window.rows (version - 1) (Some row) ∙ is.paired;
      touches = is.touches;
      cut = is.cut;
      lies = All-set (IsRowIfAnyIn b.nodes) b.window.rows (version - 1) (Some row) here is.lies;
    }

pub still_blob : FinishedStands → (b : OneBlob) → IsOneBlob b → (version : ℕ) (row : UpdateRow) (w : Numbered) → 1 ≤ version → version ≤ length b.window.log
    → IsRowOf b.window.page_size (updates_in b) version row → IsIn b.nodes row.spot → (w ≡ with_finished b.window version row) ⊎ (w ≡ b.window) → IsOneBlob (blob_of b.nodes w b.touches b.starts)
still_blob law b is version row w some le own here next =
    let W : Numbered → Type 0 = λ x. IsOneBlob (blob_of b.nodes x b.touches b.starts) in
    elim next [
      | inl done ↦ finished_blob law b is version row w some le own here done
      | inr same ↦ subst W (sym same) is
    ]
