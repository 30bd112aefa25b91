-- What a ticket stands for.
use Rattle.std.proofs.Common.{◌≡◌, ℕ, zero, suc, ◌+◌, ◌-◌, ◌^◌, ◌<◌, ◌≤◌, List, [], ◌∷◌, ◌++◌, length, map, max, arith, inl, inr, refl, ap, sym, subst, ◌∙◌, get_or, length-append}
use Rattle.std.proofs.lemmas.Bool.{cases_lt}
use Rattle.std.proofs.lemmas.List.{length-map, ext_get_or, get_or_append_left}
use Rattle.std.proofs.Math.Seq.{get_or-append_seam}
use Rattle.tree_geom.specs.declared.touch.Touch.{Touch}
use Rattle.tree_geom.specs.Geometry.{no_touch, touched_by}
use Rattle.range_log.specs.declared.open.OpenTouch.{OpenTouch}
use Rattle.range_log.specs.Log.{touch_at, size_at}
use Rattle.range_log.specs.Extents.{Extent, no_extent, InBounds, IsLog, extent_at, size_after, touches}
use Rattle.range_log.specs.Updates.{extents}
use Rattle.range_log.specs.Open.{open_at, Rises}
use Rattle.range_log.specs.Laws.{TouchesAre, EachTouchIs, SizesAre, RowsStay}
use Rattle.page_store.specs.Stored.{bytes_of_pages}
use Rattle.snapshot.specs.Versions.{Version, update_of_row, updates_of, IsVersion}
use Rattle.border_hints.specs.Numbered.{NumberedUpdate, log_of, log_with, own_touch, log_upto, IsValidTicket}
use Rattle.range_log.proofs.Bytes.{length-extents}

pub length-log_of : TouchesAre → (s : Version) → length (log_of s) ≡ length s.rows
length-log_of are s = are s.page_size (extents (updates_of s)) ∙ length-extents (updates_of s) ∙ length-map s.rows update_of_row

pub length-log_with : TouchesAre → (s : Version) (waiting : List OpenTouch) → length (log_with s waiting) ≡ length s.rows + length waiting
length-log_with are s waiting =
    let a : length (log_with s waiting) ≡ length (log_of s) + length (map (λ (o : OpenTouch). o.touch) waiting) = length-append (log_of s) (map (λ (o : OpenTouch). o.touch) waiting) in
    let b : length (map (λ (o : OpenTouch). o.touch) waiting) ≡ length waiting = length-map waiting (λ (o : OpenTouch). o.touch) in
    omega (arith, a, b, length-log_of are s)

-- ---- one update more
module _ (are : TouchesAre) (each : EachTouchIs) (sizes : SizesAre) (stay : RowsStay) where
  size_front : (p k : ℕ) (us more : List Extent) → k ≤ length us → size_after (us ++ more) k ≡ size_after us k
  size_front p k us more le =
      let long : k ≤ length (us ++ more) = omega (arith, length-append us more) in
      sym (sizes p (us ++ more) k long) ∙ ap (λ (t : Touch). t.size) (stay p k us more le).0 ∙ sizes p us k le

  touches_next : (p : ℕ) (us : List Extent) (x : Extent) → touches p (us ++ x ∷ []) ≡ touches p us ++ touched_by p x.at x.len (max (size_after us (length us)) (x.at + x.len)) ∷ []
  touches_next p us x =
      let n : ℕ = length us in
      let own : Touch = touched_by p x.at x.len (max (size_after us n) (x.at + x.len)) in
      let count : length (us ++ x ∷ []) ≡ n + 1 = length-append us (x ∷ []) in
      let left : length (touches p (us ++ x ∷ [])) ≡ n + 1 = are p (us ++ x ∷ []) ∙ count in
      let old : length (touches p us) ≡ n = are p us in
      let right : length (touches p us ++ own ∷ []) ≡ n + 1 = length-append (touches p us) (own ∷ []) ∙ ap (λ m. m + 1) old in
      ext_get_or no_touch (touches p (us ++ x ∷ [])) (touches p us ++ own ∷ []) (left ∙ sym right)
      (λ k lt. elim (cases_lt k n) [
        | inl below ↦
            (stay p (suc k) us (x ∷ []) below).0 ∙ sym (get_or_append_left (touches p us) (own ∷ []) no_touch k (omega (arith, old)))
        | inr past ↦
            let e : k ≡ n = omega (arith, left) in
            let last : get_or (us ++ x ∷ []) n no_extent ≡ x = get_or-append_seam us x [] no_extent in
            let made : Extent → ℕ → Touch = λ y m. touched_by p y.at y.len (max m (y.at + y.len)) in
            let here : touch_at (touches p (us ++ x ∷ [])) (suc n) ≡ own =
            each p (us ++ x ∷ []) n (omega arith)
            ∙ ap (λ y. made y (size_after (us ++ x ∷ []) n)) last
            ∙ ap (made x) (size_front p n us (x ∷ []) (omega arith)) in
            ap (λ m. get_or (touches p (us ++ x ∷ [])) m no_touch) e
            ∙ here
            ∙ sym (ap (λ m. get_or (touches p us ++ own ∷ []) m no_touch) (e ∙ sym old) ∙ get_or-append_seam (touches p us) own [] no_touch)
      ])

  bounds_next : (us : List Extent) (x : Extent) → InBounds us → x.at ≤ size_after us (length us) → 1 ≤ x.len → InBounds (us ++ x ∷ [])
  bounds_next us x bounds le some k lt =
      let n : ℕ = length us in
      let count : length (us ++ x ∷ []) ≡ n + 1 = length-append us (x ∷ []) in
      let P : Extent → ℕ → Type 0 = λ y m. (y.at ≤ m) × (1 ≤ y.len) in
      elim (cases_lt k n) [
        | inl below ↦
            let e : get_or (us ++ x ∷ []) k no_extent ≡ get_or us k no_extent = get_or_append_left us (x ∷ []) no_extent k below in
            let Q : Extent → Type 0 = λ y. P y (size_after (us ++ x ∷ []) k) in
            let R : ℕ → Type 0 = λ m. P (get_or us k no_extent) m in
            subst Q (sym e) (subst R (sym (size_front 1 k us (x ∷ []) (omega arith))) (bounds k below))
        | inr past ↦
            let e : k ≡ n = omega arith in
            let last : get_or (us ++ x ∷ []) k no_extent ≡ x = ap (λ m. get_or (us ++ x ∷ []) m no_extent) e ∙ get_or-append_seam us x [] no_extent in
            let s : size_after (us ++ x ∷ []) k ≡ size_after us n = ap (size_after (us ++ x ∷ [])) e ∙ size_front 1 n us (x ∷ []) (omega arith) in
            let Q : Extent → Type 0 = λ y. P y (size_after (us ++ x ∷ []) k) in
            let R : ℕ → Type 0 = λ m. P x m in
            subst Q (sym last) (subst R (sym s) (le, some))
      ]

  -- the size before the update, by the touches below it
  size_before : (p k : ℕ) (log : List Touch) (own : Touch) → k ≤ length log → size_at (log ++ own ∷ []) k ≡ size_at log k
  size_before p zero log own le = refl
  size_before p (suc k) log own le = ap (λ (t : Touch). t.size) (get_or_append_left log (own ∷ []) no_touch k le)

  -- the waiting versions, by the first
  waiting_from : (v : ℕ) (waiting : List OpenTouch) → Rises waiting → (0 < length waiting → (open_at waiting 0).version ≡ v + 1)
      → (i : ℕ) → i < length waiting → (open_at waiting i).version ≡ v + i + 1
  waiting_from v waiting rises first zero lt = let f : (open_at waiting 0).version ≡ v + 1 = first lt in omega arith
  waiting_from v waiting rises first (suc i) lt =
      let e : suc i ≡ i + 1 = omega arith in
      let before : (open_at waiting i).version ≡ v + i + 1 = waiting_from v waiting rises first i (omega arith) in
      let here : (open_at waiting (i + 1)).version ≡ (open_at waiting i).version + 1 = rises i (omega arith) in
      let P : ℕ → Type 0 = λ k. (open_at waiting k).version ≡ v + k + 1 in
      subst P (sym e) (omega arith)

  pub ticket_stands : (t : NumberedUpdate) → IsVersion t.snapshot → Rises t.waiting
      → (0 < length t.waiting → (open_at t.waiting 0).version ≡ length t.snapshot.rows + 1)
      → t.version ≡ length t.snapshot.rows + length t.waiting + 1
      → IsLog t.snapshot.page_size (log_with t.snapshot t.waiting)
      → t.len ≡ length (bytes_of_pages t.pages.pages) → 1 ≤ t.len → t.pages.page_size ≡ t.snapshot.page_size
      → t.at ≤ size_at (log_with t.snapshot t.waiting) (t.version - 1)
      → t.size ≡ max (size_at (log_with t.snapshot t.waiting) (t.version - 1)) (t.at + t.len)
      → t.size ≤ 2 ^ 40 → IsValidTicket t
  ticket_stands t is rises first next log len some page_size at size fits =
      let p : ℕ = t.snapshot.page_size in
      let below : List Touch = log_with t.snapshot t.waiting in
      let us : List Extent = log.0 in
      let same : below ≡ touches p us = log.2 in
      let x : Extent = record { at = t.at; len = t.len } in
      let count : length below ≡ length t.snapshot.rows + length t.waiting = length-log_with are t.snapshot t.waiting in
      let n : length us ≡ length below = sym (ap length same ∙ are p us) in
      let v : t.version - 1 ≡ length us = omega arith in
      let last : t.version ≡ suc (length us) = omega arith in
      let before : size_at below (t.version - 1) ≡ size_after us (length us) =
      ap (λ l. size_at l (t.version - 1)) same ∙ ap (size_at (touches p us)) v ∙ sizes p us (length us) (omega arith) in
      let made : ℕ → Touch = λ m. touched_by p t.at t.len m in
      let whole : t.size ≡ max (size_after us (length us)) (t.at + t.len) = size ∙ ap (λ m. max m (t.at + t.len)) before in
      let front : size_at (log_upto t) (t.version - 1) ≡ size_at below (t.version - 1) = size_before p (t.version - 1) below (own_touch t) (omega arith) in
      record {
        published = is;
        waiting = waiting_from (length t.snapshot.rows) t.waiting rises first;
        version = next;
        stands = (
          us ++ x ∷ [],
          record {
            in_bounds = bounds_next us x log.1 (omega (arith, before, at)) some;
            touches =
                touches_next p us x
                ∙ ap (λ l. l ++ made (max (size_after us (length us)) (t.at + t.len)) ∷ []) (sym same)
                ∙ ap (λ m. below ++ made m ∷ []) (sym whole);
            own = ap (extent_at (us ++ x ∷ [])) last ∙ get_or-append_seam us x [] no_extent;
          },
        );
        len = len;
        some = some;
        page_size = page_size;
        size = size ∙ ap (λ m. max m (t.at + t.len)) (sym front);
        at = omega (arith, front, at);
        fits = fits;
      }
