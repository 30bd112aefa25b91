-- A piece's bytes, filled in where they are wanted.
use Rattle.std.proofs.Common.{◌≡◌, ℕ, ◌+◌, ◌-◌, ◌<◌, ◌≤◌, List, length, take, drop, arith, ap, ◌∙◌, inl, inr, Bool, true, false, get_or, min, max}
use Rattle.std.proofs.lemmas.Bool.{cases_lt}
use borrow.Rule.Slice.PartMut.{put_mid}
use Rattle.range_reader.specs.Filling.{Filled, Overlaid, Taken}
use Rattle.range_reader.proofs.Parts.{part_read, length_part, put_below, put_within, put_above}

-- The part low..end of the page is wanted of a buffer that begins at byte `begin` of the page; a is its place in the buffer.
module _ (start len begin low end a k : ℕ) (out : List ℕ) (marks : List Bool) (same : length marks ≡ length out)
    (is_low : low ≡ max start begin) (is_end : end ≡ min (start + len) (begin + length out)) (some : low < end) (is_a : a ≡ low - begin) (is_k : k ≡ end - begin - a) where
  inside : a + k ≤ length out
  inside = omega (arith, is_low, is_end, some, is_a, is_k)

  pub overlaid_by : (from skip : ℕ) (bytes stored sub : List ℕ) → stored ≡ bytes → skip ≡ from + (low - start)
      → length sub ≡ length (take k (drop a out)) → Filled skip stored (take k (drop a marks)) (take k (drop a out)) sub
      → Overlaid start len from begin bytes marks out (put_mid a k out sub)
  overlaid_by from skip bytes stored sub same_bytes is_skip kept f =
      let held : length (take k (drop a out)) ≡ k = length_part out a k inside in
      let count : length sub ≡ k = kept ∙ held in
      let fits : a ≤ length out = omega (arith, inside) in
      record {
        marked = λ x lt from' to yes'.
            let y : x - a < k = omega (arith, is_low, is_end, is_a, is_k) in
            let at : a + (x - a) ≡ x = omega (arith, is_low, is_a) in
            let wanted : get_or (take k (drop a marks)) (x - a) false ≡ true = part_read false marks a k (x - a) y ∙ ap (λ z. get_or marks z false) at ∙ yes' in
            let e : skip + (x - a) ≡ from + (begin + x - start) = omega (arith, is_skip, is_low, is_a) in
            put_within 0 a k out sub fits x (omega (arith, is_low, is_a)) (omega (arith, count, is_low, is_end, is_a, is_k))
            ∙ f.marked (x - a) (omega (arith, held)) wanted ∙ ap (λ (l : List ℕ). get_or l (skip + (x - a)) 0) same_bytes ∙ ap (λ z. get_or bytes z 0) e;
        unmarked = λ x lt no. elim (cases_lt x a) [
          | inl before ↦ put_below 0 a k out sub fits x before
          | inr from' ↦ elim (cases_lt x (a + k)) [
            | inl within ↦
                let y : x - a < k = omega arith in
                let at : a + (x - a) ≡ x = omega arith in
                let unwanted : get_or (take k (drop a marks)) (x - a) false ≡ false = part_read false marks a k (x - a) y ∙ ap (λ z. get_or marks z false) at ∙ no in
                put_within 0 a k out sub fits x from' (omega (arith, count)) ∙ f.unmarked (x - a) (omega (arith, held)) unwanted
                ∙ part_read 0 out a k (x - a) y ∙ ap (λ z. get_or out z 0) at
            | inr after ↦ put_above 0 a k out sub fits x count after
          ]
        ];
        below = λ x lt no. put_below 0 a k out sub fits x (omega (arith, is_low, is_end, some, is_a));
        above = λ x lt no. put_above 0 a k out sub fits x count (omega (arith, is_low, is_end, some, is_a, is_k));
      }

  pub taken_by : (sub : List Bool) → length sub ≡ length (take k (drop a marks)) → ((x : ℕ) → x < length (take k (drop a marks)) → get_or sub x false ≡ false)
      → Taken start len begin marks (put_mid a k marks sub)
  taken_by sub kept none =
      let held : length (take k (drop a marks)) ≡ k = length_part marks a k (omega (arith, inside)) in
      let count : length sub ≡ k = kept ∙ held in
      let fits : a ≤ length marks = omega (arith, inside) in
      record {
        within = λ x lt from' to.
            put_within false a k marks sub fits x (omega (arith, is_low, is_a)) (omega (arith, count, is_low, is_end, is_a, is_k))
            ∙ none (x - a) (omega (arith, held, is_low, is_end, is_a, is_k));
        below = λ x lt no. put_below false a k marks sub fits x (omega (arith, is_low, is_end, some, is_a));
        above = λ x lt no. put_above false a k marks sub fits x count (omega (arith, is_low, is_end, some, is_a, is_k));
      }
