-- What the workers made, merged in some order.
use Rattle.std.proofs.Common.{◌≡◌, ◌⊎◌, ℕ, ◌+◌, ◌-◌, ◌*◌, ◌<◌, ◌≤◌, eqb, List, [], ◌++◌, length, get_or, map, refl, sym, ap, subst, ◌∙◌, inl, inr, arith, append-nil}
use Rattle.std.specs.List.{range_with_len, All, Contains}
use Rattle.std.proofs.lemmas.Bool.{cases_lt}
use Rattle.std.proofs.lemmas.List.{take_at, length-append}
use Rattle.std.proofs.lemmas.List.Elements.{All-nil, All-take, All-filter, All-contains, All-contains_itself, All-from_get_or}
use Rattle.std.proofs.lemmas.List.FromFn.{length-map-range_with_len, get_or-map-range_with_len}
use Rattle.workload_law.proofs.Parts.{part, all_parts, length_of_parts, length_below_parts}

-- Of each of the workers 1 to `workers` it has what this worker made in its operations, in order, and nothing else. The key
-- of what worker w made is w + 1.
pub record IsMerged {X : Type 0} (key : X → ℕ) (workers ops : ℕ) (make : ℕ → ℕ → X) (xs : List X) : Type 0 where
  pub parts : (worker : ℕ) → 1 ≤ worker → worker ≤ workers → part key (worker + 1) xs ≡ map (make worker) (range_with_len 0 ops)
  pub none : (k : ℕ) → (k < 2) ⊎ (2 + workers ≤ k) → part key k xs ≡ []

-- the same of a beginning of what each worker makes
pub record IsBegun {X : Type 0} (key : X → ℕ) (workers ops : ℕ) (make : ℕ → ℕ → X) (xs : List X) : Type 0 where
  pub parts : (worker : ℕ) → 1 ≤ worker → worker ≤ workers → (rest : List X) × (part key (worker + 1) xs ++ rest ≡ map (make worker) (range_with_len 0 ops))
  pub none : (k : ℕ) → (k < 2) ⊎ (2 + workers ≤ k) → part key k xs ≡ []

pub all_left : {X : Type 0} (P : X → Type 0) (xs ys : List X) → All P (xs ++ ys) → All P xs
all_left P xs ys all = subst (λ l. All P l) (take_at xs ys (length xs) refl) (All-take P (length xs) (xs ++ ys) all)

module _ {X : Type 0} (key : X → ℕ) (workers ops : ℕ) (make : ℕ → ℕ → X) (xs : List X) (begun : IsBegun key workers ops make xs) where
  begun_at : (k : ℕ) → 2 ≤ k → k < 2 + workers → (rest : List X) × (part key k xs ++ rest ≡ map (make (k - 1)) (range_with_len 0 ops))
  begun_at k from to =
      let e : k - 1 + 1 ≡ k = omega arith in
      subst (λ (i : ℕ). (rest : List X) × (part key i xs ++ rest ≡ map (make (k - 1)) (range_with_len 0 ops))) e (begun.parts (k - 1) (omega arith) (omega arith))

  begun_fits : (k : ℕ) → 2 ≤ k → k < 2 + workers → length (part key k xs) ≤ ops
  begun_fits k from to =
      let at = begun_at k from to in
      omega (arith, length-append (part key k xs) at.0, ap length at.1, length-map-range_with_len (make (k - 1)) 0 ops)

  pub begun_length : length xs ≤ workers * ops
  begun_length = length_below_parts key 2 workers ops xs begun_fits begun.none

  made_all : (P : X → Type 0) (worker : ℕ) → ((op : ℕ) → op < ops → P (make worker op)) → All P (map (make worker) (range_with_len 0 ops))
  made_all P worker each =
      All-from_get_or P (map (make worker) (range_with_len 0 ops)) (make worker 0)
      (λ i lt.
      let short : i < ops = omega (arith, length-map-range_with_len (make worker) 0 ops) in
      subst P (sym (get_or-map-range_with_len (make worker) 0 ops i i (make worker 0) short (omega arith))) (each i short))

  part_all : (P : X → Type 0) → ((worker op : ℕ) → 1 ≤ worker → worker ≤ workers → op < ops → P (make worker op))
      → (k : ℕ) → (k < 2) ⊎ (2 ≤ k) → (k < 2 + workers) ⊎ (2 + workers ≤ k) → All P (part key k xs)
  part_all P each k (inl below) past = subst (λ (l : List X). All P l) (sym (begun.none k (inl below))) (All-nil P)
  part_all P each k (inr from) (inr past) = subst (λ (l : List X). All P l) (sym (begun.none k (inr past))) (All-nil P)
  part_all P each k (inr from) (inl to) =
      let at = begun_at k from to in
      all_left P (part key k xs) at.0
      (subst (λ (l : List X). All P l) (sym at.1) (made_all P (k - 1) (λ op lt. each (k - 1) op (omega arith) (omega arith) lt)))

  -- what holds of all that is made holds of the whole
  pub begun_all : (P : X → Type 0) → ((worker op : ℕ) → 1 ≤ worker → worker ≤ workers → op < ops → P (make worker op)) → All P xs
  begun_all P each = all_parts key P xs (λ k. part_all P each k (cases_lt k 2) (cases_lt k (2 + workers)))

module _ {X : Type 0} (key : X → ℕ) (workers ops : ℕ) (make : ℕ → ℕ → X) (xs : List X) (merged : IsMerged key workers ops make xs) where
  pub begun_of : IsBegun key workers ops make xs
  begun_of = record { parts = λ worker from to. ([], append-nil (part key (worker + 1) xs) ∙ merged.parts worker from to); none = merged.none }

  part_at : (k : ℕ) → 2 ≤ k → k < 2 + workers → part key k xs ≡ map (make (k - 1)) (range_with_len 0 ops)
  part_at k from to =
      let e : k - 1 + 1 ≡ k = omega arith in
      subst (λ (i : ℕ). part key i xs ≡ map (make (k - 1)) (range_with_len 0 ops)) e (merged.parts (k - 1) (omega arith) (omega arith))

  pub merged_length : length xs ≡ workers * ops
  merged_length = length_of_parts key 2 workers ops xs (λ k from to. ap length (part_at k from to) ∙ length-map-range_with_len (make (k - 1)) 0 ops) merged.none

  -- all that was made is there
  pub merged_has : (worker op : ℕ) → 1 ≤ worker → worker ≤ workers → op < ops → Contains xs (make worker op)
  merged_has worker op from to lt =
      let made : List X = map (make worker) (range_with_len 0 ops) in
      let at : get_or made op (make worker op) ≡ make worker op = get_or-map-range_with_len (make worker) 0 ops op op (make worker op) lt (omega arith) in
      let in_part : Contains (part key (worker + 1) xs) (make worker op) =
      subst (λ (l : List X). Contains l (make worker op)) (sym (merged.parts worker from to)) (op, omega (arith, length-map-range_with_len (make worker) 0 ops), at) in
      All-contains (Contains xs) (part key (worker + 1) xs) (make worker op)
      (All-filter (λ x. eqb (key x) (worker + 1)) (Contains xs) xs (All-contains_itself xs)) in_part
