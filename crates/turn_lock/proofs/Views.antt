-- Sums over the views of a table, and the views of all its seats.
use Rattle.std.proofs.Common.{◌≡◌, ℕ, zero, suc, ◌+◌, ◌<◌, ◌≤◌, ◌≢◌, ◌⊎◌, List, [], ◌∷◌, ◌++◌, length, set, sym, refl, ap, subst, ⊎_elim, inl, inr, arith}
use mathlib.Core.Option.{some, some-injective, some-ne-none}
use mathlib.Core.Logic.{dite}
use native.Mathlib.Decide.{ℕ_discrete}
use lib.ListN.{get_elem?}
use Rattle.atomic_table.proofs.Lists.{at_set}
use Rattle.turn_lock.specs.Turns.{total}

module _ {V : Type 0} (f : V → ℕ) where
  pub total_set : (vs : List V) (i : ℕ) (v w : V) → get_elem? vs i ≡ some v → total f (set vs i w) + f v ≡ total f vs + f w
  total_set [] i v w e = absurd (some-ne-none v (sym e))
  total_set (x ∷ xs) zero v w e = let p : f x ≡ f v = ap f (some-injective x v e) in omega arith
  total_set (x ∷ xs) (suc i) v w e = let p = total_set xs i v w e in omega arith

  pub total_snoc : (vs : List V) (v : V) → total f (vs ++ v ∷ []) ≡ total f vs + f v
  total_snoc [] v = omega arith
  total_snoc (x ∷ xs) v = let p = total_snoc xs v in omega arith

  pub total_has : (vs : List V) → 0 < total f vs → (i : ℕ) × (v : V) × (get_elem? vs i ≡ some v) × (0 < f v)
  total_has [] h = absurd (omega arith)
  total_has (x ∷ xs) h = dite (ℕ_discrete (f x) 0)
      (λ z. let t = total_has xs (omega arith) in (suc t.0, t.1, t.2, t.3))
      (λ n. (zero, x, refl, omega arith))

  pub total_at : (vs : List V) (i : ℕ) (v : V) → get_elem? vs i ≡ some v → f v ≤ total f vs
  total_at [] i v e = absurd (some-ne-none v (sym e))
  total_at (x ∷ xs) zero v e = let p : f x ≡ f v = ap f (some-injective x v e) in omega arith
  total_at (x ∷ xs) (suc i) v e = let p = total_at xs i v e in omega arith

  pub total_most : (g : V → ℕ) → ((v : V) → f v ≤ g v) → (vs : List V) → total f vs ≤ total g vs
  total_most g h [] = omega arith
  total_most g h (x ∷ xs) = let p = total_most g h xs in let q = h x in omega arith

module _ {V : Type 0} where
  pub seats_stay : (K : ℕ → V → Type 0) (vs : List V) (me : ℕ) (w : V) → K me w → ((j : ℕ) (d : V) → j ≢ me → get_elem? vs j ≡ some d → K j d)
      → (j : ℕ) (d : V) → get_elem? (set vs me w) j ≡ some d → K j d
  seats_stay K vs me w mine others j d e = ⊎_elim (λ (t : (j ≡ me) × (w ≡ d)). subst (λ (x : ℕ × V). K x.0 x.1) (λ i. (sym t.0 i, t.1 i)) mine)
      (λ (t : (j ≢ me) × (get_elem? vs j ≡ some d)). others j d t.0 t.1) (at_set vs me j w d e)

  pub at_snoc_where : (l : List V) (a b : V) (j : ℕ) → get_elem? (l ++ a ∷ []) j ≡ some b → (get_elem? l j ≡ some b) ⊎ ((j ≡ length l) × (a ≡ b))
  at_snoc_where [] a b zero e = inr (refl, some-injective a b e)
  at_snoc_where [] a b (suc j) e = absurd (some-ne-none b (sym e))
  at_snoc_where (x ∷ xs) a b zero e = inl e
  at_snoc_where (x ∷ xs) a b (suc j) e = ⊎_elim (λ t. inl t) (λ t. inr (ap suc t.0, t.1)) (at_snoc_where xs a b j e)

  pub inside_length : (vs : List V) (i : ℕ) (v : V) → get_elem? vs i ≡ some v → i < length vs
  inside_length [] i v e = absurd (some-ne-none v (sym e))
  inside_length (x ∷ xs) zero v e = omega arith
  inside_length (x ∷ xs) (suc i) v e = let p = inside_length xs i v e in omega arith
