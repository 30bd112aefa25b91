-- A list whose elements have keys, and its parts with one key each.
use Rattle.std.proofs.Common.{◌≡◌, ◌⊎◌, ℕ, ◌+◌, ◌*◌, ◌<◌, ◌≤◌, Bool, true, false, cond, eqb, List, [], ◌∷◌, length, refl, sym, subst, ◌∙◌, inl, inr, arith}
use Rattle.std.specs.List.{range_with_len, sum_by, filter, All}
use Rattle.std.proofs.lemmas.Bool.{cases_lt, eq-eqb, eqb-true}
use Rattle.std.proofs.lemmas.List.Elements.{All-nil, All-cons, All-head, All-tail, All-weaker}
use Rattle.workload_law.proofs.Sums.{sum_below, sum_same, sum_const, sum_zero, sum_add, sum_one}

module _ {X : Type 0} (key : X → ℕ) where
  -- the elements with that key, in order
  abbrev pub part : ℕ → List X → List X
  part k xs = filter (λ x. eqb (key x) k) xs

  all_parts_tail : (P : X → Type 0) (b : Bool) (x : X) (xs : List X) → All P (cond b (x ∷ xs) xs) → All P xs
  all_parts_tail P true x xs h = All-tail P x xs h
  all_parts_tail P false x xs h = h

  -- what holds of each part holds of the whole
  pub all_parts : (P : X → Type 0) (xs : List X) → ((k : ℕ) → All P (part k xs)) → All P xs
  all_parts P [] each = All-nil P
  all_parts P (x ∷ xs) each =
      let own : All P (x ∷ part (key x) xs) =
      subst (λ (b : Bool). All P (cond b (x ∷ part (key x) xs) (part (key x) xs))) (eq-eqb (key x) (key x) refl) (each (key x)) in
      All-cons P x xs (All-head P x (part (key x) xs) own)
      (all_parts P xs (λ k. all_parts_tail P (eqb (key x) k) x (part k xs) (each k)))

  length_cond : (b : Bool) (x : X) (xs : List X) → length (cond b (x ∷ xs) xs) ≡ cond b 1 0 + length xs
  length_cond true x xs = omega arith
  length_cond false x xs = omega arith

  -- the parts are together as long as the whole
  length_from_parts : (a n : ℕ) (xs : List X) → All (λ x. (a ≤ key x) × (key x < a + n)) xs → length xs ≡ sum_by (λ k. length (part k xs)) (range_with_len a n)
  length_from_parts a n [] within = sym (sum_zero (range_with_len a n))
  length_from_parts a n (x ∷ xs) within =
      let Within : X → Type 0 = λ x. (a ≤ key x) × (key x < a + n) in
      let here : Within x = All-head Within x xs within in
      let more : length xs ≡ sum_by (λ k. length (part k xs)) (range_with_len a n) = length_from_parts a n xs (All-tail Within x xs within) in
      let each : sum_by (λ k. length (part k (x ∷ xs))) (range_with_len a n) ≡ sum_by (λ k. cond (eqb (key x) k) 1 0 + length (part k xs)) (range_with_len a n) =
      sum_same _ _ a n (λ k from to. length_cond (eqb (key x) k) x (part k xs)) in
      let apart = sum_add (λ k. cond (eqb (key x) k) 1 0) (λ k. length (part k xs)) (range_with_len a n) in
      let one = sum_one (key x) a n here.0 here.1 in
      omega (arith, more, each, apart, one)

  key_of_cond : (b : Bool) (k : ℕ) (x : X) (xs : List X) → eqb (key x) k ≡ b → All (λ y. key y ≡ k) xs → All (λ y. key y ≡ k) (cond b (x ∷ xs) xs)
  key_of_cond true k x xs e h = All-cons (λ y. key y ≡ k) x xs (eqb-true (key x) k e) h
  key_of_cond false k x xs e h = h

  -- the elements of a part have its key
  pub part_keys : (k : ℕ) (xs : List X) → All (λ y. key y ≡ k) (part k xs)
  part_keys k [] = All-nil (λ y. key y ≡ k)
  part_keys k (x ∷ xs) = key_of_cond (eqb (key x) k) k x (part k xs) refl (part_keys k xs)

  module _ (a n : ℕ) (xs : List X) (none : (k : ℕ) → (k < a) ⊎ (a + n ≤ k) → part k xs ≡ []) where
    Within : X → Type 0
    Within x = (a ≤ key x) × (key x < a + n)

    part_within : (k : ℕ) → (k < a) ⊎ (a ≤ k) → (k < a + n) ⊎ (a + n ≤ k) → All Within (part k xs)
    part_within k (inl below) past = subst (λ (l : List X). All Within l) (sym (none k (inl below))) (All-nil Within)
    part_within k (inr from) (inr past) = subst (λ (l : List X). All Within l) (sym (none k (inr past))) (All-nil Within)
    part_within k (inr from) (inl to) = All-weaker (λ y. key y ≡ k) Within (λ y same. (unfold Within in (omega arith, omega arith))) (part k xs) (part_keys k xs)

    all_within : All Within xs
    all_within = all_parts Within xs (λ k. part_within k (cases_lt k a) (cases_lt k (a + n)))

  -- a list whose parts with keys from a on, n of them, are equally long, and that has no other
  pub length_of_parts : (a n m : ℕ) (xs : List X) → ((k : ℕ) → a ≤ k → k < a + n → length (part k xs) ≡ m) → ((k : ℕ) → (k < a) ⊎ (a + n ≤ k) → part k xs ≡ []) → length xs ≡ n * m
  unfolding Within
  length_of_parts a n m xs each none =
      length_from_parts a n xs (all_within a n xs none)
      ∙ (sum_same _ _ a n each ∙ sum_const m a n)

  -- the same where they are no longer than that
  pub length_below_parts : (a n m : ℕ) (xs : List X) → ((k : ℕ) → a ≤ k → k < a + n → length (part k xs) ≤ m) → ((k : ℕ) → (k < a) ⊎ (a + n ≤ k) → part k xs ≡ []) → length xs ≤ n * m
  unfolding Within
  length_below_parts a n m xs each none = omega (arith, length_from_parts a n xs (all_within a n xs none), sum_below (λ k. length (part k xs)) m a n each)
