-- The next update of a blob.
use Rattle.std.proofs.Common.{◌≡◌, ℕ, suc, ◌+◌, ◌≤◌, false, List, [], ◌∷◌, ◌++◌, length, take, drop, map, max, arith, refl, ap, sym, subst, inl, inr, ◌∙◌, None, is_some, length-append, take-append-drop}
use Rattle.std.proofs.lemmas.Bool.{cases_lt}
use Rattle.std.proofs.lemmas.List.{map-append}
use Rattle.std.proofs.Math.Seq.{get_or-append_seam, take-length}
use Rattle.blob_model.specs.Content.{Update, offset_of, size_of}
use Rattle.blob_model.specs.Limits.{Bounds}
use Rattle.blob_model.specs.Store.{Blob, waiting, size_now, size_with, and_update}
use Rattle.blob_model.specs.declared.call.Place.{Place}
use Rattle.tree_geom.specs.declared.touch.Touch.{Touch}
use Rattle.tree_geom.specs.Geometry.{touched_by}
use Rattle.range_log.specs.declared.open.OpenTouch.{OpenTouch}
use Rattle.range_log.specs.Log.{touch_at}
use Rattle.range_log.specs.Extents.{Extent, extent_at, size_after, touches}
use Rattle.range_log.specs.Updates.{no_update, extent_of, extents, Replayable}
use Rattle.range_log.proofs.Bytes.{size_is, length-extents, extent_is, bounds_hold}
use Rattle.range_log.proofs.Grown.{touch-touches}
use Rattle.range_log.proofs.Growth.{rows_stay, extents_grow}
use Rattle.node_store.specs.UpdateRows.{UpdateRow}
use Rattle.snapshot.specs.Versions.{Version, updates, IsVersion}
use Rattle.snapshot.proofs.Growing.{IsRowOf-longer}
use Rattle.snapshot.proofs.Telling.{told}
use Rattle.tree_geom.proofs.Spans.{page_pos}
use Rattle.border_hints.specs.Numbered.{NumberedUpdate, log_of, log_with, own_touch}
use Rattle.border_hints.specs.Numbered.{IsTicketAmong}
use Rattle.publisher.specs.Windows.{Numbered, leading, published_of, version_of, waiting_of, with_numbered, WindowHolds}
use Rattle.publisher.proofs.Growing.{numbered_stands, log_published}
use Rattle.range_log.proofs.Growth.{size_front, extent_of_front}
use Rattle.version_manager.specs.Blobs.{Takes}
use Rattle.version_manager.specs.DeskInvariant.{Keeps}
use Rattle.version_manager.proofs.BlobsSizes.{prefix_more, opens_touches}
use Rattle.version_manager.proofs.Blobs.{leads}

-- one update more, that begins within the size and has a byte
module _ (us : List Update) (u : Update) (ok : Replayable us) (begins : offset_of u.place (size_of us (length us)) ≤ size_of us (length us)) (some : 1 ≤ length u.bytes) where
  abbrev all : List Update
  all = us ++ u ∷ []

  abbrev at : ℕ
  at = offset_of u.place (size_of us (length us))

  pub one_more : length all ≡ length us + 1
  one_more = length-append us (u ∷ [])

  extent_new : extent_of all (suc (length us)) ≡ record { at = at; len = length u.bytes }
  extent_new =
      let made : Update → ℕ → Extent = λ v n. record { at = offset_of v.place n; len = length v.bytes } in
      ap (λ v. made v (size_of all (length us))) (get_or-append_seam us u [] no_update)
      ∙ ap (made u) (size_front us (u ∷ []) (length us) (omega arith))

  pub replayable_more : Replayable all
  replayable_more k lt = elim (cases_lt k (length us)) [
    | inl old ↦
        let same = extent_of_front us (u ∷ []) k (omega arith) in
        let here = ok k old in
        let a = ap (λ (x : Extent). x.at) same in
        let l = ap (λ (x : Extent). x.len) same in (
          omega (arith, here.0, a, size_front us (u ∷ []) k (omega arith)),
          omega (arith, here.1, l),
        )
    | inr new ↦
        let e : length us ≡ k = omega (arith, one_more) in
        let P : ℕ → Type 0 = λ n. ((extent_of all (suc n)).at ≤ size_of all n) × (1 ≤ (extent_of all (suc n)).len) in
        let a = ap (λ (x : Extent). x.at) extent_new in
        let l = ap (λ (x : Extent). x.len) extent_new in
        subst P e (omega (arith, a, begins, size_front us (u ∷ []) (length us) (omega arith)), omega (arith, l, some))
  ]

  extent_last : extent_at (extents all) (suc (length us)) ≡ record { at = at; len = length u.bytes }
  extent_last = extent_is all (length us) (omega (arith, one_more)) ∙ extent_new

  pub size_more : size_of all (suc (length us)) ≡ max (size_of us (length us)) (at + length u.bytes)
  size_more =
      let xs : List Extent = extents all in
      let before : size_after xs (length us) ≡ size_of us (length us) = size_is all (length us) replayable_more (omega (arith, one_more)) ∙ size_front us (u ∷ []) (length us) (omega arith) in
      sym (size_is all (suc (length us)) replayable_more (omega (arith, one_more)))
      ∙ ap (λ (x : Extent). max (size_after xs (length us)) (x.at + x.len)) extent_last
      ∙ ap (λ n. max n (at + length u.bytes)) before

  pub touch_more : (p : ℕ) → touch_at (touches p (extents all)) (suc (length us)) ≡ touched_by p at (length u.bytes) (max (size_of us (length us)) (at + length u.bytes))
  touch_more p =
      let xs : List Extent = extents all in
      let size : size_after xs (suc (length us)) ≡ max (size_of us (length us)) (at + length u.bytes) = size_is all (suc (length us)) replayable_more (omega (arith, one_more)) ∙ size_more in
      touch-touches p xs (length us) (omega (arith, length-extents all, one_more))
      ∙ ap (λ (x : Extent). touched_by p x.at x.len (size_after xs (suc (length us)))) extent_last
      ∙ ap (λ n. touched_by p at (length u.bytes) n) size

  pub stands_more : (p : ℕ) (t : NumberedUpdate) (log : List Touch) → t.snapshot.page_size ≡ p → t.version ≡ length us + 1 → t.at ≡ at → t.len ≡ length u.bytes
      → log_with t.snapshot t.waiting ≡ log → log ++ own_touch t ∷ [] ≡ touches p (extents all) → IsTicketAmong t (extents all)
  stands_more p t log pages version begin len old whole =
      let v : t.version ≡ suc (length us) = omega arith in
      record {
        in_bounds = bounds_hold all replayable_more;
        touches =
            ap (λ n. touches n (extents all)) pages ∙ sym whole ∙ ap (λ l. l ++ own_touch t ∷ []) (sym old);
        own =
            ap (extent_at (extents all)) v
            ∙ extent_last
            ∙ ap (λ n. record { at = n; len = length u.bytes }) (sym begin)
            ∙ ap (λ n. record { at = t.at; len = n }) (sym len);
      }

-- what a window and its published version tell of the log
module _ (limits : Bounds) (w : Numbered) (b : Blob) (k : Keeps limits w b) (even : length w.rows ≡ length w.log) (is : IsVersion (version_of w)) where
  pub front : log_of (version_of w) ≡ take (published_of w) w.log
  front =
      let rows : List UpdateRow = leading w.rows in
      let whole : take (length rows) rows ≡ rows = take-length rows in
      ap (λ l. touches w.page_size (extents (updates l))) (sym whole)
      ∙ log_published rows_stay (told rows_stay) b.updates w (length rows) (page_pos w.page_size is.page_size) even k.stands (omega arith)
      ∙ ap (λ m. take m w.log) (leads limits w b k even)

  pub log_whole : log_with (version_of w) (waiting_of w) ≡ w.log
  log_whole =
      let n : ℕ = published_of w in
      ap (λ l. l ++ map (λ (o : OpenTouch). o.touch) (waiting_of w)) front
      ∙ ap (λ l. take n w.log ++ l) (opens_touches (n + 1) (drop n w.log))
      ∙ take-append-drop n w.log

-- the same place and bytes
pub takes_as : (limits : Bounds) (w : Numbered) (b : Blob) (u : Update) (place : Place) (bytes : List ℕ) → u.place ≡ place → u.bytes ≡ bytes → Takes limits w b place bytes → Takes limits w b u.place u.bytes
takes_as limits w b u place bytes e f may =
    let P : Place → Type 0 = λ x. Takes limits w b x bytes in
    let Q : List ℕ → Type 0 = λ l. Takes limits w b u.place l in
    subst Q (sym f) (subst P (sym e) may)

-- the window with the next update keeps the blob with it
module _ (limits : Bounds) (w : Numbered) (b : Blob) (u : Update) (may : Takes limits w b u.place u.bytes) (touch : Touch)
    (is : touch ≡ touched_by w.page_size (offset_of u.place (size_now b)) (length u.bytes) (size_with b u.place u.bytes)) where
  abbrev k : Keeps limits w b
  k = may.kept

  next_stands : WindowHolds (b.updates ++ u ∷ []) (with_numbered w touch)
  next_stands =
      let more = size_more b.updates u k.stands.replayable may.begins may.some in
      numbered_stands rows_stay extents_grow (IsRowOf-longer rows_stay extents_grow) b.updates u w touch may.even k.stands (record {
        replayable = replayable_more b.updates u k.stands.replayable may.begins may.some;
        fits = omega (arith, more, may.fits, may.bounds.size);
        touches = is ∙ sym (touch_more b.updates u k.stands.replayable may.begins may.some w.page_size);
      })

  pub next_log : w.log ++ touch ∷ [] ≡ touches w.page_size (extents (b.updates ++ u ∷ []))
  next_log = next_stands.log

  pub next_kept : Keeps limits (with_numbered w touch) (and_update b u)
  next_kept =
      let count = length-append b.updates (u ∷ []) in
      let more = size_more b.updates u k.stands.replayable may.begins may.some in
      let last : length (b.updates ++ u ∷ []) ≡ suc (length b.updates) = omega arith in
      record {
        blob = refl;
        page_size = refl;
        stands = next_stands;
        finished = ap (λ l. l ++ false ∷ []) k.finished ∙ sym (map-append is_some w.rows (None ∷ []));
        versions = omega (arith, may.versions);
        waiting = omega (arith, may.waits, prefix_more b.finished);
        size = omega (arith, ap (size_of (b.updates ++ u ∷ [])) last, more, may.fits);
      }

-- the ticket of that update
module _ (limits : Bounds) (w : Numbered) (b : Blob) (u : Update) (may : Takes limits w b u.place u.bytes) (t : NumberedUpdate) (snapshot : t.snapshot ≡ version_of w)
    (begin : t.at ≡ offset_of u.place (size_now b)) (len : t.len ≡ length u.bytes) (size : t.size ≡ size_with b u.place u.bytes) where
  own_is : own_touch t ≡ touched_by w.page_size (offset_of u.place (size_now b)) (length u.bytes) (size_with b u.place u.bytes)
  own_is =
      ap (λ (s : Version). touched_by s.page_size t.at t.len t.size) snapshot
      ∙ ap (λ n. touched_by w.page_size n t.len t.size) begin
      ∙ ap (λ n. touched_by w.page_size (offset_of u.place (size_now b)) n t.size) len
      ∙ ap (touched_by w.page_size (offset_of u.place (size_now b)) (length u.bytes)) size

  pub ticket_kept : Keeps limits (with_numbered w (own_touch t)) (and_update b u)
  ticket_kept = next_kept limits w b u may (own_touch t) own_is

  pub ticket_stands : IsVersion t.snapshot → t.waiting ≡ waiting_of w → t.version ≡ length w.log + 1 → IsTicketAmong t (extents (b.updates ++ u ∷ []))
  ticket_stands is waiting version =
      stands_more b.updates u may.kept.stands.replayable may.begins may.some w.page_size t w.log
      (ap (λ (s : Version). s.page_size) snapshot) (omega (arith, may.kept.stands.counted)) begin len
      (ap (λ s. log_with s t.waiting) snapshot ∙ ap (log_with (version_of w)) waiting ∙ log_whole limits w b may.kept may.even (subst IsVersion snapshot is))
      (next_log limits w b u may (own_touch t) own_is)
