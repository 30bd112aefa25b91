-- A bound on the nodes that a walk visits.
use Rattle.std.proofs.Common.{◌≡◌, ◌⊎◌, ℕ, ◌+◌, ◌-◌, ◌*◌, ◌/◌, ◌^◌, ◌<◌, ◌≤◌, zero, suc, length, arith, inl, inr, true, false, max, min}
use Rattle.std.specs.Prelude.{nat_lt, nat_le, ◌&&◌, ◌==◌}
use Rattle.std.proofs.lemmas.Bool.{cases_lt}
use Rattle.std.proofs.lemmas.Bool.Decides.{nat_tests}
use Rattle.std.proofs.lemmas.List.FromFn.{length-range_with_len}
use Rattle.std.proofs.lemmas.Nat.{pow_pos, div_below, le-div}
use Rattle.std.proofs.Math.Nat.{pow-succ'}
use Rattle.tree_geom.specs.Geometry.{height_of}
use Rattle.tree_geom.proofs.Spans.{heights_hold}
use Rattle.range_log.specs.Extents.{size_after}
use Rattle.range_log.specs.Visits.{pages_met}
use Rattle.range_log.specs.Walk.{nodes_visited, VisitedNone, VisitedLeaf, VisitedInner, VisitedAreFew, WalksAreBounded}

pub apart : VisitedNone
unfolding nodes_visited
apart zero q first last past = elim past [
  | inl late ↦ (let e : (nat_le q last && nat_le first q) ≡ false = grind (arith, nat_tests) in rw (e, nodes_visited))
  | inr early ↦ (let e : (nat_le q last && nat_le first q) ≡ false = grind (arith, nat_tests) in rw (e, nodes_visited))
]
apart (suc h) q first last past = elim past [
  | inl late ↦ (let e : (nat_le (q * 2 ^ suc h) last && nat_lt first ((q + 1) * 2 ^ suc h)) ≡ false = grind (arith, nat_tests) in rw (e, nodes_visited))
  | inr early ↦ (let e : (nat_le (q * 2 ^ suc h) last && nat_lt first ((q + 1) * 2 ^ suc h)) ≡ false = grind (arith, nat_tests) in rw (e, nodes_visited))
]

pub leaf : VisitedLeaf
unfolding nodes_visited
leaf q first last from to = let e : (nat_le q last && nat_le first q) ≡ true = grind (arith, nat_tests) in rw (e, nodes_visited)

one : (q first last : ℕ) → nodes_visited zero q first last ≤ 1
unfolding nodes_visited
one q first last =
    elim (cases_lt last q) [
      | inl late ↦ (let e : (nat_le q last && nat_le first q) ≡ false = grind (arith, nat_tests) in rw (e, nodes_visited) (omega arith))
      | inr early ↦ elim (cases_lt q first) [
        | inl before ↦ (let e : (nat_le q last && nat_le first q) ≡ false = grind (arith, nat_tests) in rw (e, nodes_visited) (omega arith))
        | inr after ↦ (let e : (nat_le q last && nat_le first q) ≡ true = grind (arith, nat_tests) in rw (e, nodes_visited) (omega arith))
      ]
    ]

pub more : VisitedInner
unfolding nodes_visited
more h q first last begins ends =
    let e : (nat_le (q * 2 ^ suc h) last && nat_lt first ((q + 1) * 2 ^ suc h)) ≡ true = grind (arith, nat_tests) in rw (e, nodes_visited)

-- x pays for a cut at the left, and y for one at the right
bound : (h q first last x y : ℕ) → first ≤ last → q * 2 ^ h ≤ last → first < (q + 1) * 2 ^ h → (first ≤ q * 2 ^ h) ⊎ (h ≤ x) → ((q + 1) * 2 ^ h ≤ last + 1) ⊎ (h ≤ y)
    → nodes_visited h q first last + 1 ≤ 2 * (min (last + 1) ((q + 1) * 2 ^ h) - max first (q * 2 ^ h)) + x + y
bound zero q first last x y le begins ends left right = omega (arith, one q first last)
bound (suc h) q first last x y le begins ends left right =
    let power : 2 ^ suc h ≡ 2 * 2 ^ h = pow-succ' 2 h in
    let pos : 0 < 2 ^ h = pow_pos h in
    let low : q * 2 ^ suc h ≡ 2 * q * 2 ^ h = rw power (omega arith) in
    let mid : (2 * q + 1) * 2 ^ h ≡ 2 * q * 2 ^ h + 2 ^ h = omega arith in
    let high : (q + 1) * 2 ^ suc h ≡ (2 * q + 1 + 1) * 2 ^ h = rw power (omega arith) in
    let top : (2 * q + 1 + 1) * 2 ^ h ≡ (2 * q + 1) * 2 ^ h + 2 ^ h = omega arith in
    let sum : nodes_visited (suc h) q first last ≡ 1 + nodes_visited h (2 * q) first last + nodes_visited h (2 * q + 1) first last = more h q first last begins ends in
    elim (cases_lt last ((2 * q + 1) * 2 ^ h)) [
      | inl only_low ↦
          let none : nodes_visited h (2 * q + 1) first last ≡ 0 = apart h (2 * q + 1) first last (inl only_low) in
          let pays : suc h ≤ y = elim right [ inl far ↦ absurd (omega arith) | inr enough ↦ enough ] in
          let l : (first ≤ 2 * q * 2 ^ h) ⊎ (h ≤ x) = elim left [ inl near ↦ inl (omega arith) | inr enough ↦ inr (omega arith) ] in
          let rest : nodes_visited h (2 * q) first last + 1 ≤ 2 * (min (last + 1) ((2 * q + 1) * 2 ^ h) - max first (2 * q * 2 ^ h)) + x + (y - 1) =
          bound h (2 * q) first last x (y - 1) le (omega arith) (omega arith) l (inr (omega arith)) in
          omega arith
      | inr reaches ↦
          let r : ((2 * q + 1 + 1) * 2 ^ h ≤ last + 1) ⊎ (h ≤ y) = elim right [ inl far ↦ inl (omega arith) | inr enough ↦ inr (omega arith) ] in
          elim (cases_lt first ((2 * q + 1) * 2 ^ h)) [
            | inl both ↦
                let l : (first ≤ 2 * q * 2 ^ h) ⊎ (h ≤ x) = elim left [ inl near ↦ inl (omega arith) | inr enough ↦ inr (omega arith) ] in
                let a : nodes_visited h (2 * q) first last + 1 ≤ 2 * (min (last + 1) ((2 * q + 1) * 2 ^ h) - max first (2 * q * 2 ^ h)) + x + 0 =
                bound h (2 * q) first last x 0 le (omega arith) both l (inl (omega arith)) in
                let b : nodes_visited h (2 * q + 1) first last + 1 ≤ 2 * (min (last + 1) ((2 * q + 1 + 1) * 2 ^ h) - max first ((2 * q + 1) * 2 ^ h)) + 0 + y =
                bound h (2 * q + 1) first last 0 y le reaches (omega arith) (inl (omega arith)) r in
                omega arith
            | inr only_high ↦
                let none : nodes_visited h (2 * q) first last ≡ 0 = apart h (2 * q) first last (inr only_high) in
                let pays : suc h ≤ x = elim left [ inl near ↦ absurd (omega arith) | inr enough ↦ enough ] in
                let rest : nodes_visited h (2 * q + 1) first last + 1 ≤ 2 * (min (last + 1) ((2 * q + 1 + 1) * 2 ^ h) - max first ((2 * q + 1) * 2 ^ h)) + (x - 1) + y =
                bound h (2 * q + 1) first last (x - 1) y le reaches (omega arith) (inr (omega arith)) r in
                omega arith
          ]
    ]

pub visited_are_few : VisitedAreFew
visited_are_few h first last le inside =
    let b = bound h 0 first last h h le (omega arith) (omega arith) (inr (omega arith)) (inr (omega arith)) in
    omega (arith, b)

pub walks_are_bounded : WalksAreBounded
walks_are_bounded p v o n us pos some within =
    let top : ℕ = height_of p (size_after us v) in
    let first : ℕ = o / p in
    let last : ℕ = (o + n - 1) / p in
    let e : (n == 0) ≡ false = grind (arith, nat_tests) in
    let le : first ≤ last = le-div (o / p) (o + n - 1) p pos (omega arith) in
    let enough : size_after us v ≤ p * 2 ^ top = (heights_hold p (size_after us v) pos).reaches in
    let inside : last < 2 ^ top = div_below (o + n - 1) p (2 ^ top) pos (omega arith) in
    let count : length (pages_met p o n) ≡ last + 1 - first = length-range_with_len first (last + 1 - first) in
    let few : nodes_visited top 0 first last < 2 * (last + 1 - first) + 2 * top = visited_are_few top first last le inside in
    rw e (omega arith)
