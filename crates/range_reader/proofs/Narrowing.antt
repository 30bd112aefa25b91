-- A page of the buffer that is filled from its ends.
use Rattle.std.proofs.Common.{◌≡◌, ℕ, ◌+◌, ◌-◌, ◌<◌, ◌≤◌, List, length, take, drop, arith, ap, sym, ◌∙◌, inl, inr, get_or}
use Rattle.std.specs.Prelude.{slice_range}
use Rattle.std.proofs.lemmas.Bool.{cases_lt}
use borrow.Rule.Slice.PartMut.{put_mid}
use Rattle.range_reader.specs.Filling.{AreAlike, Narrowed}
use Rattle.range_reader.proofs.Parts.{part_read, length_part, length_put, put_below, put_within, put_above}
use Rattle.range_reader.proofs.Taking.{read_all, slice_in}

-- a buffer has all bytes of a page from byte `begin` on but those from byte `low` on, up to byte `high`
pub record AllBut (page : List ℕ) (begin low high : ℕ) (out : List ℕ) : Type 0 where
  pub below : (x : ℕ) → x < length out → begin + x < low → get_or out x 0 ≡ get_or page (begin + x) 0
  pub above : (x : ℕ) → x < length out → high ≤ begin + x → get_or out x 0 ≡ get_or page (begin + x) 0

-- ---- a part of the buffer
-- where the part `from` up to `to` of the page ends
pub part_ends : (begin from to : ℕ) (out : List ℕ) → begin ≤ from → from ≤ to → to ≤ begin + length out
    → from + length (take (to - begin - (from - begin)) (drop (from - begin) out)) ≡ to
part_ends begin from to out low order high =
    let k : ℕ = to - begin - (from - begin) in
    let held : length (take k (drop (from - begin) out)) ≡ k = length_part out (from - begin) k (omega arith) in
    omega (arith, held)

-- the part was put into it
module _ (page : List ℕ) (begin from to : ℕ) (out sub : List ℕ) (low : begin ≤ from) (order : from ≤ to) (high : to ≤ begin + length out)
    (len : length sub ≡ length (take (to - begin - (from - begin)) (drop (from - begin) out)))
    (is : sub ≡ slice_range page from (from + length (take (to - begin - (from - begin)) (drop (from - begin) out)))) where
  whole : from + length sub ≡ to
  whole = ap (λ n. from + n) len ∙ part_ends begin from to out low order high

  pub put_read : (x : ℕ) → from ≤ begin + x → begin + x < to → get_or (put_mid (from - begin) (to - begin - (from - begin)) out sub) x 0 ≡ get_or page (begin + x) 0
  put_read x start end =
      let a : ℕ = from - begin in
      let n : ℕ = length (take (to - begin - a) (drop a out)) in
      let count : from + n - from ≡ n = omega arith in
      let e : from + (x - a) ≡ begin + x = omega arith in
      put_within 0 a (to - begin - a) out sub (omega arith) x (omega arith) (omega (arith, whole))
      ∙ ap (λ (l : List ℕ). get_or l (x - a) 0) is ∙ ap (λ k. get_or (take k (drop from page)) (x - a) 0) count
      ∙ part_read 0 page from n (x - a) (omega (arith, whole, len)) ∙ ap (λ y. get_or page y 0) e

  put_before : (x : ℕ) → begin + x < from → get_or (put_mid (from - begin) (to - begin - (from - begin)) out sub) x 0 ≡ get_or out x 0
  put_before x less = put_below 0 (from - begin) (to - begin - (from - begin)) out sub (omega arith) x (omega arith)

  put_after : (x : ℕ) → to ≤ begin + x → get_or (put_mid (from - begin) (to - begin - (from - begin)) out sub) x 0 ≡ get_or out x 0
  put_after x more = put_above 0 (from - begin) (to - begin - (from - begin)) out sub (omega arith) x (omega (arith, whole)) (omega arith)

  pub put_count : length (put_mid (from - begin) (to - begin - (from - begin)) out sub) ≡ length out
  put_count = length_put (from - begin) (to - begin - (from - begin)) out sub (omega arith) (omega (arith, whole))

  -- it was the front of a gap, or the end of one
  pub narrowed_front : (l h l' h' : ℕ) → l ≡ from → l' ≡ to → h' ≡ h → to ≤ h → Narrowed page begin l h l' h' out (put_mid (from - begin) (to - begin - (from - begin)) out sub)
  narrowed_front l h l' h' e f g le = record {
    front = λ x lt start end. put_read x (omega (arith, e)) (omega (arith, f));
    end = λ x lt start end. absurd (omega (arith, g));
    below = λ x lt less. put_before x (omega (arith, e));
    above = λ x lt more. put_after x (omega arith);
  }

  pub narrowed_end : (l h l' h' : ℕ) → h ≡ to → l' ≡ l → h' ≡ from → l ≤ from → Narrowed page begin l h l' h' out (put_mid (from - begin) (to - begin - (from - begin)) out sub)
  narrowed_end l h l' h' e f g le = record {
    front = λ x lt start end. absurd (omega (arith, f));
    end = λ x lt start end. put_read x (omega (arith, g)) (omega (arith, e));
    below = λ x lt less. put_before x (omega arith);
    above = λ x lt more. put_after x (omega (arith, e));
  }

-- ---- along the backs
module _ (page here : List ℕ) (begin low high low' high' : ℕ) (alike : AreAlike page here low high) (down : low ≤ low') (up : high' ≤ high) where
  -- after a leaf's bytes are filled in at an end
  pub but_after : (out out' : List ℕ) → length out' ≡ length out → low' ≤ high' → AllBut page begin low high out → Narrowed here begin low high low' high' out out' → AllBut page begin low' high' out'
  but_after out out' same order but n = record {
    below = λ x lt less. elim (cases_lt (begin + x) low) [
      | inl before ↦ n.below x (omega arith) before ∙ but.below x (omega arith) before
      | inr from ↦ n.front x (omega arith) from less ∙ sym (alike.same (begin + x) from (omega arith))
    ];
    above = λ x lt more. elim (cases_lt (begin + x) high) [
      | inl within ↦ n.end x (omega arith) more within ∙ sym (alike.same (begin + x) (omega arith) within)
      | inr after ↦ n.above x (omega arith) after ∙ but.above x (omega arith) after
    ];
  }

  -- what is left is in the page at the leaf's back
  pub alike_after : (older : List ℕ) → low' < high'
      → ((b : ℕ) → low' ≤ b → b < high' → b < length here → (get_or here b 0 ≡ get_or older b 0) × (b < length older)) → AreAlike page older low' high'
  alike_after older some rest = record {
    same = λ b from to. alike.same b (omega arith) (omega arith) ∙ (rest b from to (omega (arith, alike.valid))).0;
    valid = let last : high' - 1 < length older = (rest (high' - 1) (omega arith) (omega arith) (omega (arith, alike.valid))).1 in omega (arith, last);
  }

-- ---- from one form of a page to an older one
pub alike_further : (page older oldest : List ℕ) (low high : ℕ) → AreAlike page older low high → AreAlike older oldest low high → AreAlike page oldest low high
alike_further page older oldest low high a b = record { same = λ x from to. a.same x from to ∙ b.same x from to; valid = b.valid }

-- n bytes that are the same
pub alike_slice : (page older : List ℕ) (low n : ℕ) → low + n ≤ length page → AreAlike page older low (low + n) → slice_range older low (low + n) ≡ slice_range page low (low + n)
alike_slice page older low n fits alike =
    slice_in older page low low n alike.valid fits (λ y lt. sym (alike.same (low + y) (omega arith) (omega (arith, lt))))

-- where nothing is left, the bytes are the page's
pub all_but_none : (page : List ℕ) (begin low high n : ℕ) (out : List ℕ) → length out ≡ n → begin + n ≤ length page → high ≤ low → AllBut page begin low high out
    → out ≡ slice_range page begin (begin + n)
all_but_none page begin low high n out len fits none but =
    read_all page begin n out len fits
    (λ x lt. elim (cases_lt (begin + x) low) [ inl before ↦ but.below x lt before | inr after ↦ but.above x lt (omega arith) ])
