-- One update more, and the first of some updates.
use Rattle.std.proofs.Common.{◌≡◌, ℕ, zero, suc, ◌+◌, ◌^◌, ◌<◌, ◌≤◌, List, [], ◌∷◌, ◌++◌, length, take, drop, max, arith, refl, ap, sym, ◌∙◌, subst, inl, inr, length-append}
use Rattle.std.proofs.lemmas.Bool.{cases_lt}
use Rattle.std.proofs.lemmas.List.{get_or_append_left, get_or-take, take-append-drop, length-take-le, ext_get_or}
use Rattle.std.proofs.Math.Seq.{get_or-append_seam}
use Rattle.blob_model.specs.Content.{Update, offset_of, size_of}
use Rattle.tree_geom.specs.declared.touch.Touch.{Touch}
use Rattle.tree_geom.specs.Geometry.{no_touch, touched_by}
use Rattle.range_log.specs.Log.{touch_at, size_at}
use Rattle.range_log.specs.Extents.{Extent, extent_at, size_after, touches}
use Rattle.range_log.specs.Updates.{update_at, no_update, extent_of, extents, Replayable}
use Rattle.range_log.specs.Laws.{TouchesAre, EachTouchIs, SizesAre, RowsStay, ExtentsGrow, ExtentsStand}
use Rattle.page_store.specs.Stored.{bytes_of_pages}
use Rattle.publisher.specs.Laws.{IsNext}
use Rattle.tree_tests.specs.Blobs.{Start, update_of}
use Rattle.range_log.proofs.Bytes.{length-extents, extent_is}
use Rattle.range_log.proofs.Growth.{size_front, extent_of_front}

update_at_front : (us more : List Update) (k : ℕ) → k ≤ length us → update_at (us ++ more) k ≡ update_at us k
update_at_front us more zero le = refl
update_at_front us more (suc k) le = get_or_append_left us more no_update k le

-- where an update falls after that size
abbrev placed_at : Update → ℕ → Extent
placed_at u size = record { at = offset_of u.place size; len = length u.bytes }

-- it begins at the size at the latest, and has a byte
abbrev Begins : Extent → ℕ → Type 0
Begins x size = (x.at ≤ size) × (1 ≤ x.len)

replayable_front : (us more : List Update) → Replayable (us ++ more) → Replayable us
replayable_front us more ok k lt =
    let was = ok k (omega (arith, length-append us more)) in
    let P : Extent → Type 0 = λ x. Begins x (size_of (us ++ more) k) in
    let Q : ℕ → Type 0 = λ n. Begins (extent_of us (suc k)) n in
    subst Q (size_front us more k (omega arith)) (subst P (extent_of_front us more k lt) was)

pub replayable_first : (us : List Update) (k : ℕ) → Replayable us → Replayable (take k us)
replayable_first us k ok = replayable_front (take k us) (drop k us) (subst Replayable (sym (take-append-drop k us)) ok)

-- the extent of one update more
extent_of_next : (us : List Update) (s : Start) → extent_of (us ++ update_of s ∷ []) (suc (length us)) ≡ record { at = s.at; len = length (bytes_of_pages s.pages.pages) }
extent_of_next us s = ap (λ u. placed_at u (size_of (us ++ update_of s ∷ []) (length us))) (get_or-append_seam us (update_of s) [] no_update)

replayable_next : (us : List Update) (s : Start) → Replayable us → s.at ≤ size_of us (length us) → 1 ≤ length (bytes_of_pages s.pages.pages) → Replayable (us ++ update_of s ∷ [])
replayable_next us s ok begins some k lt =
    let all : List Update = us ++ update_of s ∷ [] in
    let P : Extent → ℕ → Type 0 = λ x n. Begins x n in
    elim (cases_lt k (length us)) [
      | inl below ↦
          let X : Extent → Type 0 = λ x. Begins x (size_of all k) in
          let N : ℕ → Type 0 = λ n. Begins (extent_of us (suc k)) n in
          subst X (sym (extent_of_front us (update_of s ∷ []) k below)) (subst N (sym (size_front us (update_of s ∷ []) k (omega arith))) (ok k below))
      | inr past ↦
          let e : length us ≡ k = omega (arith, length-append us (update_of s ∷ [])) in
          let K : ℕ → Type 0 = λ n. Begins (extent_of all (suc n)) (size_of all n) in
          let X : Extent → Type 0 = λ x. Begins x (size_of all (length us)) in
          let same : size_of all (length us) ≡ size_of us (length us) = size_front us (update_of s ∷ []) (length us) (omega arith) in
          subst K e (subst X (sym (extent_of_next us s)) (omega arith, some))
    ]

-- the size after the update that falls so
abbrev size_with : ℕ → Extent → ℕ
size_with size x = max size (x.at + x.len)

module _ (are : TouchesAre) (each : EachTouchIs) (stand : ExtentsStand) where
  -- one update more is the next one
  pub is_next : (p : ℕ) (us : List Update) (s : Start) (len size : ℕ) (touch : Touch) → Replayable us → s.at ≤ size_of us (length us) → len ≡ length (bytes_of_pages s.pages.pages) → 1 ≤ len
      → size ≡ max (size_of us (length us)) (s.at + len) → size ≤ 2 ^ 40 → touch ≡ touched_by p s.at len size → IsNext p us (update_of s) touch
  is_next p us s len size touch ok begins long some whole fits is =
      let all : List Update = us ++ update_of s ∷ [] in
      let n : ℕ = length us in
      let count : length all ≡ n + 1 = length-append us (update_of s ∷ []) in
      let ready : Replayable all = replayable_next us s ok begins (omega arith) in
      let E : List Extent = extents all in
      let x : Extent = record { at = s.at; len = len } in
      let long_E : length E ≡ n + 1 = length-extents all ∙ count in
      let falls : extent_at E (suc n) ≡ x = extent_is all n (omega arith) ∙ extent_of_next us s ∙ ap (λ l. let y : Extent = record { at = s.at; len = l } in y) (sym long) in
      let before : size_after E n ≡ size_of us n = (stand all ready).2 n (omega arith) ∙ size_front us (update_of s ∷ []) n (omega arith) in
      let after : size_after E (suc n) ≡ size = ap (λ m. size_with m (extent_at E (suc n))) before ∙ ap (size_with (size_of us n)) falls ∙ sym whole in
      let made : Extent → ℕ → Touch = λ y m. touched_by p y.at y.len m in
      let bound : size_of all (suc n) ≡ size = sym ((stand all ready).2 (suc n) (omega arith)) ∙ after in
      record {
        replayable = ready;
        fits = omega (arith, bound, fits);
        touches = is ∙ sym (each p E n (omega arith) ∙ ap (λ y. made y (size_after E (suc n))) falls ∙ ap (made x) after);
      }

-- ---- the first of some updates
module _ (are : TouchesAre) (stay : RowsStay) (grow : ExtentsGrow) where
  touches_front : (p : ℕ) (xs rest : List Extent) → touches p xs ≡ take (length xs) (touches p (xs ++ rest))
  touches_front p xs rest =
      let n : ℕ = length xs in
      let all : List Touch = touches p (xs ++ rest) in
      let long : length all ≡ n + length rest = are p (xs ++ rest) ∙ length-append xs rest in
      let right : length (take n all) ≡ n = length-take-le n all (omega arith) in
      ext_get_or no_touch (touches p xs) (take n all) (are p xs ∙ sym right)
      (λ i lt. sym (stay p (suc i) xs rest (omega (arith, are p xs))).0 ∙ sym (get_or-take n all i no_touch (omega (arith, are p xs))))

  pub touches_first : (p k : ℕ) (us : List Update) → k ≤ length us → touches p (extents (take k us)) ≡ take k (touches p (extents us))
  touches_first p k us le =
      let xs : List Extent = extents (take k us) in
      let rest = grow (take k us) (drop k us) in
      let whole : extents us ≡ xs ++ rest.0 = ap extents (sym (take-append-drop k us)) ∙ rest.1 in
      let count : length xs ≡ k = length-extents (take k us) ∙ length-take-le k us le in
      touches_front p xs rest.0 ∙ ap (λ n. take n (touches p (xs ++ rest.0))) count ∙ ap (λ l. take k (touches p l)) (sym whole)

  pub extent_first : (us : List Update) (i : ℕ) → i < length us → extent_at (extents (take (suc i) us)) (suc i) ≡ extent_of us (suc i)
  extent_first us i lt =
      let xs : List Update = take (suc i) us in
      let count : length xs ≡ suc i = length-take-le (suc i) us lt in
      extent_is xs i (omega arith) ∙ sym (extent_of_front xs (drop (suc i) us) i (omega arith)) ∙ ap (λ l. extent_of l (suc i)) (take-append-drop (suc i) us)

-- what is said of update number i, from 0, by where it falls
module _ (each : EachTouchIs) (sizes : SizesAre) (stand : ExtentsStand) where
  pub size_next : (us : List Update) (i : ℕ) → Replayable us → i < length us → size_of us (suc i) ≡ size_with (size_of us i) (extent_of us (suc i))
  size_next us i ok lt =
      let E : List Extent = extents us in
      let same = (stand us ok).2 in
      sym (same (suc i) lt) ∙ ap (λ m. size_with m (extent_at E (suc i))) (same i (omega arith)) ∙ ap (size_with (size_of us i)) (extent_is us i lt)

  pub touch_next : (p : ℕ) (us : List Update) (i : ℕ) → Replayable us → i < length us
      → touch_at (touches p (extents us)) (suc i) ≡ touched_by p (extent_of us (suc i)).at (extent_of us (suc i)).len (size_of us (suc i))
  touch_next p us i ok lt =
      let E : List Extent = extents us in
      let made : Extent → ℕ → Touch = λ y m. touched_by p y.at y.len m in
      each p E i (omega (arith, length-extents us)) ∙ ap (λ y. made y (size_after E (suc i))) (extent_is us i lt) ∙ ap (made (extent_of us (suc i))) ((stand us ok).2 (suc i) lt)

  pub size_told : (p : ℕ) (us : List Update) (v : ℕ) → Replayable us → v ≤ length us → size_at (touches p (extents us)) v ≡ size_of us v
  size_told p us v ok le = sizes p (extents us) v (omega (arith, length-extents us)) ∙ (stand us ok).2 v le
