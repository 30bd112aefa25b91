-- A window stands for the updates that were numbered.
use Rattle.std.proofs.Common.{◌≡◌, ℕ, zero, suc, ◌+◌, ◌-◌, ◌^◌, ◌<◌, ◌≤◌, List, [], ◌∷◌, ◌++◌, length, take, drop, Option, None, Some, is_some, true≢false, arith, refl, ap, sym, ◌∙◌, subst, inl, inr, get_or, length-append}
use Rattle.std.proofs.lemmas.Bool.{cases_lt}
use Rattle.std.proofs.lemmas.List.{length-map, get_or-map, get_or_append_left, get_or-append_right, get_or_past, take-append-le, take-append-drop, get_or-take, length-take-le, ext_get_or}
use Rattle.std.proofs.Math.Seq.{get_or-append_seam, take-length}
use Rattle.blob_model.specs.Content.{Update, content_from, size_of}
use Rattle.tree_geom.specs.declared.touch.Touch.{Touch}
use Rattle.tree_geom.specs.Geometry.{no_touch}
use Rattle.range_log.specs.Log.{touch_at}
use Rattle.range_log.specs.Extents.{Extent, touches}
use Rattle.range_log.specs.Updates.{extents}
use Rattle.range_log.specs.Laws.{RowsStay, ExtentsGrow}
use Rattle.node_store.specs.UpdateRows.{UpdateRow}
use Rattle.snapshot.specs.Versions.{no_row, IsRowOf}
use Rattle.snapshot.specs.Laws.{OwnRowsStay, RowsTell}
use Rattle.publisher.specs.Windows.{Numbered, leading, WindowHolds}
use Rattle.publisher.specs.WindowInvariant.{row_touches, present}
use Rattle.publisher.specs.Laws.{IsNext, NewStands, NumberedStands, PublishedLogIs}
use Rattle.publisher.proofs.Leading.{touches_match, leading_few}
use Rattle.publisher.proofs.Standing.{some_is, rows_published}
use Rattle.range_log.proofs.Bytes.{length-extents}
use Rattle.range_log.proofs.Grown.{length-touches}

abbrev no_place : Option UpdateRow
no_place = None

none_at : (i : ℕ) → get_or (no_place ∷ []) i None ≡ None
none_at zero = refl
none_at (suc i) = refl

pub new_stands : NewStands
new_stands us s ok fits count are = record {
  replayable = ok;
  fits = fits;
  counted = omega (arith, length-map s.rows (λ (r : UpdateRow). r.touch));
  log = log;
  rows = rows;
}
  where
    log : row_touches s.rows ≡ touches s.page_size (extents us)
    log =
        let ts : List Touch = touches s.page_size (extents us) in
        let long : length ts ≡ length s.rows = length-touches s.page_size (extents us) ∙ length-extents us ∙ count in
        touches_match s.rows ts (omega arith) (λ i lt. (are.each (suc i) (omega arith) (omega arith)).touch)
        ∙ ap (λ n. take n ts) (sym long)
        ∙ take-length ts

    rows : (i : ℕ) (row : UpdateRow) → get_or (present s.rows) i None ≡ Some row → IsRowOf s.page_size us (suc i) row
    rows i row is = elim (cases_lt i (length s.rows)) [
      | inl lt ↦
          let same : get_or s.rows i no_row ≡ row = some_is (get_or s.rows i no_row) row (get_or (present s.rows) i None) (get_or-map (λ (r : UpdateRow). Some r) s.rows i no_row None lt) is in
          let R : UpdateRow → Type 0 = λ r. IsRowOf s.page_size us (suc i) r in
          subst R same (are.each (suc i) (omega arith) (omega arith))
      | inr past ↦
          let count : length (present s.rows) ≡ length s.rows = length-map s.rows (λ (r : UpdateRow). Some r) in
          let none : get_or (present s.rows) i None ≡ None = get_or_past (present s.rows) i None (omega arith) in
          absurd (true≢false (sym (ap is_some (sym none ∙ is))))
    ]

module _ (stay : RowsStay) (grow : ExtentsGrow) (own : OwnRowsStay) where
  touch_front : (p i : ℕ) (us more : List Update) → i < length us → touch_at (touches p (extents (us ++ more))) (suc i) ≡ touch_at (touches p (extents us)) (suc i)
  touch_front p i us more lt =
      let rest = grow us more in
      ap (λ xs. touch_at (touches p xs) (suc i)) rest.1 ∙ (stay p (suc i) (extents us) rest.0 (omega (arith, length-extents us))).0

  module _ (us : List Update) (u : Update) (w : Numbered) (touch : Touch) (even : length w.rows ≡ length w.log) (s : WindowHolds us w) (next : IsNext w.page_size us u touch) where
    abbrev all : List Update
    all = us ++ u ∷ []

    one_more : length all ≡ length us + 1
    one_more = length-append us (u ∷ [])

    numbered_fits : (v : ℕ) → v ≤ length all → size_of all v ≤ 2 ^ 40
    numbered_fits v le = elim (cases_lt (length us) v) [
      | inl past ↦
          let e : suc (length us) ≡ v = omega (arith, one_more) in
          let B : ℕ → Type 0 = λ n. size_of all n ≤ 2 ^ 40 in
          subst B e next.fits
      | inr old ↦
          let same : size_of all v ≡ size_of us v = ap (λ l. length (content_from [] l)) (take-append-le v us (u ∷ []) old) in
          let B : ℕ → Type 0 = λ n. n ≤ 2 ^ 40 in
          subst B (sym same) (s.fits v old)
    ]

    numbered_long : length (w.log ++ touch ∷ []) ≡ length (touches w.page_size (extents all))
    numbered_long = omega (arith, length-append w.log (touch ∷ []), length-touches w.page_size (extents all), length-extents all, one_more, s.counted)

    numbered_log : (i : ℕ) → i < length (w.log ++ touch ∷ []) → get_or (w.log ++ touch ∷ []) i no_touch ≡ get_or (touches w.page_size (extents all)) i no_touch
    numbered_log i lt =
        let ts : List Touch = touches w.page_size (extents all) in
        elim (cases_lt i (length w.log)) [
          | inl old ↦
              get_or_append_left w.log (touch ∷ []) no_touch i old
              ∙ ap (λ l. get_or l i no_touch) s.log
              ∙ sym (touch_front w.page_size i us (u ∷ []) (omega (arith, s.counted)))
          | inr new ↦
              let e : i ≡ length w.log = omega (arith, length-append w.log (touch ∷ [])) in
              let f : length us ≡ i = omega (arith, s.counted) in
              ap (λ n. get_or (w.log ++ touch ∷ []) n no_touch) e
              ∙ get_or-append_seam w.log touch [] no_touch
              ∙ next.touches
              ∙ ap (λ n. get_or ts n no_touch) f
        ]

    numbered_rows : (i : ℕ) (row : UpdateRow) → get_or (w.rows ++ None ∷ []) i None ≡ Some row → IsRowOf w.page_size all (suc i) row
    numbered_rows i row is = elim (cases_lt i (length w.rows)) [
      | inl old ↦
          own w.page_size (suc i) us (u ∷ []) row (omega (arith, even, s.counted)) (s.rows i row (sym (get_or_append_left w.rows (None ∷ []) None i old) ∙ is))
      | inr new ↦
          let none : get_or (w.rows ++ None ∷ []) i None ≡ None = get_or-append_right w.rows (None ∷ []) (length w.rows) i None refl new ∙ none_at (i - length w.rows) in
          absurd (true≢false (sym (ap is_some (sym none ∙ is))))
    ]

  pub numbered_stands : NumberedStands
  numbered_stands us u w touch even s next = record {
    replayable = next.replayable;
    fits = numbered_fits us u w touch even s next;
    counted = omega (arith, s.counted, length-append us (u ∷ []), length-append w.log (touch ∷ []));
    log = ext_get_or no_touch (w.log ++ touch ∷ []) (touches w.page_size (extents (us ++ u ∷ []))) (numbered_long us u w touch even s next) (numbered_log us u w touch even s next);
    rows = numbered_rows us u w touch even s next;
  }

-- ---- published versions
-- the first updates have the first touches
pub touches_first : RowsStay → (p v : ℕ) (xs : List Extent) → v ≤ length xs → touches p (take v xs) ≡ take v (touches p xs)
touches_first stay p v xs le =
    let first : length (take v xs) ≡ v = length-take-le v xs le in
    let left : length (touches p (take v xs)) ≡ v = length-touches p (take v xs) ∙ first in
    let right : length (take v (touches p xs)) ≡ v = length-take-le v (touches p xs) (omega (arith, length-touches p xs)) in
    ext_get_or no_touch (touches p (take v xs)) (take v (touches p xs)) (left ∙ sym right)
    (λ i lt.
    sym (stay p (suc i) (take v xs) (drop v xs) (omega arith)).0
    ∙ ap (λ l. touch_at (touches p l) (suc i)) (take-append-drop v xs)
    ∙ sym (get_or-take v (touches p xs) i no_touch (omega arith)))

pub log_published : RowsStay → RowsTell → PublishedLogIs
log_published stay tell us w v some even s le =
    let p : ℕ = w.page_size in
    let rows : List UpdateRow = take v (leading w.rows) in
    let count : length rows ≡ v = length-take-le v (leading w.rows) le in
    let told = tell p us rows some s.replayable (rows_published us w v even s) in
    ap (touches p) (told.fall ∙ ap (λ n. take n (extents us)) count)
    ∙ touches_first stay p v (extents us) (omega (arith, leading_few w.rows, length-extents us, s.counted, even))
    ∙ ap (take v) (sym s.log)
