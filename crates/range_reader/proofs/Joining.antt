-- Two pieces that follow one another, filled in one after the other.
use Rattle.std.proofs.Common.{◌≡◌, ℕ, ◌+◌, ◌-◌, ◌*◌, ◌/◌, ◌%◌, ◌<◌, ◌≤◌, List, length, arith, refl, ap, ◌∙◌, subst, inl, inr, Bool, true, false, get_or, min}
use Rattle.std.proofs.lemmas.Bool.{cases_lt}
use Rattle.std.specs.Prelude.{nat_lt, if◌then◌else◌}
use Rattle.std.proofs.lemmas.Bool.Decides.{nat_tests}
use Rattle.tree_geom.specs.declared.node.Piece.{Piece}
use Rattle.tree_geom.specs.Nodes.{no_piece}
use Rattle.range_log.specs.Rows.{first_piece, second_piece}
use Rattle.range_reader.specs.Filling.{Overlaid, Taken}

module _ (start a b from begin : ℕ) (bytes : List ℕ) (m0 m1 m2 : List Bool) where
  -- the marks after both
  pub taken_twice : length m1 ≡ length m0 → Taken start a begin m0 m1 → Taken (start + a) b begin m1 m2 → Taken start (a + b) begin m0 m2
  taken_twice same t u = record {
    within = λ x lt from' to. elim (cases_lt (begin + x) (start + a)) [
      | inl first ↦ u.below x (omega arith) first ∙ t.within x lt from' first
      | inr second ↦ u.within x (omega arith) second (omega arith)
    ];
    below = λ x lt out. u.below x (omega arith) (omega arith) ∙ t.below x lt out;
    above = λ x lt out. u.above x (omega arith) (omega arith) ∙ t.above x lt (omega arith);
  }

  pub overlaid_twice : (o0 o1 o2 : List ℕ) → length o1 ≡ length o0 → length m0 ≡ length o0 → length m1 ≡ length m0
      → Taken start a begin m0 m1 → Overlaid start a from begin bytes m0 o0 o1 → Overlaid (start + a) b (from + a) begin bytes m1 o1 o2
      → Overlaid start (a + b) from begin bytes m0 o0 o2
  overlaid_twice o0 o1 o2 same marked kept t p q = record {
    marked = λ x lt from' to is. elim (cases_lt (begin + x) (start + a)) [
      | inl first ↦ q.below x (omega arith) first ∙ p.marked x lt from' first is
      | inr second ↦
          let e : from + a + (begin + x - (start + a)) ≡ from + (begin + x - start) = omega arith in
          q.marked x (omega arith) second (omega arith) (t.above x (omega arith) second ∙ is) ∙ ap (λ y. get_or bytes y 0) e
    ];
    unmarked = λ x lt no. elim (cases_lt (begin + x) start) [
      | inl below ↦ q.below x (omega arith) (omega arith) ∙ p.unmarked x lt no
      | inr after ↦ elim (cases_lt (begin + x) (start + a)) [
        | inl within ↦ q.below x (omega arith) within ∙ p.unmarked x lt no
        | inr above ↦ q.unmarked x (omega arith) (t.above x (omega arith) above ∙ no) ∙ p.unmarked x lt no
      ]
    ];
    below = λ x lt out. q.below x (omega arith) (omega arith) ∙ p.below x lt out;
    above = λ x lt out. q.above x (omega arith) (omega arith) ∙ p.above x lt (omega arith);
  }

-- the same of bytes that stand in another list too
pub overlaid_in : (st len a b begin : ℕ) (xs ys : List ℕ) (marks : List Bool) (old new : List ℕ) → ((y : ℕ) → y < len → get_or xs (a + y) 0 ≡ get_or ys (b + y) 0)
    → Overlaid st len a begin xs marks old new → Overlaid st len b begin ys marks old new
overlaid_in st len a b begin xs ys marks old new same o = record {
  marked = λ x lt from to is. o.marked x lt from to is ∙ same (begin + x - st) (omega arith);
  unmarked = o.unmarked;
  below = o.below;
  above = o.above;
}

-- where none of the bytes are the buffer's, it and its marks are as they were
pub overlaid_none : (st len from begin : ℕ) (bytes : List ℕ) (marks : List Bool) (out : List ℕ) → ((begin < st + len) × (st < begin + length out) → ⊥)
    → Overlaid st len from begin bytes marks out out
overlaid_none st len from begin bytes marks out apart = record {
  marked = λ x lt low high is. absurd (apart (omega arith, omega arith));
  unmarked = λ x lt no. refl;
  below = λ x lt no. refl;
  above = λ x lt no. refl;
}

pub taken_none : (st len begin : ℕ) (marks : List Bool) → ((begin < st + len) × (st < begin + length marks) → ⊥) → Taken st len begin marks marks
taken_none st len begin marks apart = record {
  within = λ x lt low high. absurd (apart (omega arith, omega arith));
  below = λ x lt no. refl;
  above = λ x lt no. refl;
}

-- where the pieces of a buffer's bytes from b on lie in it
pub first_from : (p b n : ℕ) → 1 ≤ p → (first_piece p b n).page * p + (first_piece p b n).from ≡ b
first_from p b n pos = omega arith

abbrev piece_if : Bool → ℕ → ℕ → ℕ → Piece
piece_if v p b n = if v then record { page = b / p + 1; from = 0; len = n - (p - b % p) } else no_piece

-- the second piece goes on where the first ends
pub second_from : (p b n : ℕ) → 1 ≤ p → 1 ≤ (second_piece p b n).len
    → (second_piece p b n).page * p + (second_piece p b n).from ≡ (first_piece p b n).page * p + (first_piece p b n).from + (first_piece p b n).len
second_from p b n pos some =
    let P : Bool → Type 0 = λ v. nat_lt (p - b % p) n ≡ v → 1 ≤ (piece_if v p b n).len → (piece_if v p b n).page * p + (piece_if v p b n).from ≡ b / p * p + b % p + min (p - b % p) n in
    let cases : P (nat_lt (p - b % p) n) = elim (nat_lt (p - b % p) n) as P [
      | true ↦ λ is has. let lt : p - b % p < n = grind (arith, nat_tests) in omega arith
      | false ↦ λ is has. absurd (omega (arith, has))
    ] in
    cases refl some

-- the same of equal numbers
pub overlaid_same : (s s' l l' f f' begin : ℕ) (bytes : List ℕ) (marks : List Bool) (old new : List ℕ) → s ≡ s' → l ≡ l' → f ≡ f'
    → Overlaid s l f begin bytes marks old new → Overlaid s' l' f' begin bytes marks old new
overlaid_same s s' l l' f f' begin bytes marks old new a b c o =
    let S : ℕ → Type 0 = λ x. Overlaid x l f begin bytes marks old new in
    let L : ℕ → Type 0 = λ x. Overlaid s' x f begin bytes marks old new in
    let F : ℕ → Type 0 = λ x. Overlaid s' l' x begin bytes marks old new in
    subst F c (subst L b (subst S a o))

pub taken_same : (s s' l l' begin : ℕ) (old new : List Bool) → s ≡ s' → l ≡ l' → Taken s l begin old new → Taken s' l' begin old new
taken_same s s' l l' begin old new a b t =
    let S : ℕ → Type 0 = λ x. Taken x l begin old new in
    let L : ℕ → Type 0 = λ x. Taken s' x begin old new in
    subst L b (subst S a t)
