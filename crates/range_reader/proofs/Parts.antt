-- Reads of parts of lists.
use Rattle.std.proofs.Common.{◌≡◌, ◌⊎◌, ℕ, ◌+◌, ◌-◌, ◌<◌, ◌≤◌, List, ◌++◌, length, take, drop, arith, refl, ap, sym, ◌∙◌, inl, inr, Bool, true, false, get_or, length-append, length-drop}
use Rattle.std.specs.Prelude.{slice_range}
use Rattle.std.proofs.lemmas.List.{get_or-take, get_or-drop, get_or_append_left, get_or-append_right, length-take-le, drop-drop}
use Rattle.std.proofs.Common.{take-add}
use borrow.Rule.Slice.PartMut.{put_mid, post_of}

pub either : (b : Bool) → (b ≡ true) ⊎ (b ≡ false)
either true = inl refl
either false = inr refl

-- an element of a part
pub part_read : {X : Type 0} (d : X) (xs : List X) (a n x : ℕ) → x < n → get_or (take n (drop a xs)) x d ≡ get_or xs (a + x) d
part_read d xs a n x lt = get_or-take n (drop a xs) x d lt ∙ get_or-drop a xs x d

pub length_part : {X : Type 0} (xs : List X) (a n : ℕ) → a + n ≤ length xs → length (take n (drop a xs)) ≡ n
length_part xs a n le = length-take-le n (drop a xs) (omega (arith, length-drop a xs))

-- ---- after a write to a part
module _ {X : Type 0} (d : X) (a k : ℕ) (xs ys : List X) (le : a ≤ length xs) where
  front : length (take a xs) ≡ a
  front = length-take-le a xs le

  pub put_below : (x : ℕ) → x < a → get_or (put_mid a k xs ys) x d ≡ get_or xs x d
  put_below x lt = get_or_append_left (take a xs) (ys ++ post_of a k xs) d x (omega (arith, front)) ∙ get_or-take a xs x d lt

  pub put_within : (x : ℕ) → a ≤ x → x < a + length ys → get_or (put_mid a k xs ys) x d ≡ get_or ys (x - a) d
  put_within x from lt =
      get_or-append_right (take a xs) (ys ++ post_of a k xs) a x d front from
      ∙ get_or_append_left ys (post_of a k xs) d (x - a) (omega arith)

  pub put_above : (x : ℕ) → length ys ≡ k → a + k ≤ x → get_or (put_mid a k xs ys) x d ≡ get_or xs x d
  put_above x same from =
      let e : a + (k + (x - a - k)) ≡ x = omega arith in
      get_or-append_right (take a xs) (ys ++ post_of a k xs) a x d front (omega arith)
      ∙ get_or-append_right ys (post_of a k xs) k (x - a) d same (omega arith)
      ∙ get_or-drop k (drop a xs) (x - a - k) d ∙ get_or-drop a xs (k + (x - a - k)) d ∙ ap (λ n. get_or xs n d) e

-- two parts that follow one another
pub range_join : (xs : List ℕ) (a b c : ℕ) → a ≤ b → b ≤ c → slice_range xs a b ++ slice_range xs b c ≡ slice_range xs a c
range_join xs a b c le le' =
    let e : a + (b - a) ≡ b = omega arith in
    let f : (b - a) + (c - b) ≡ c - a = omega arith in
    ap (λ n. take (b - a) (drop a xs) ++ take (c - b) (drop n xs)) (sym e)
    ∙ ap (λ l. take (b - a) (drop a xs) ++ take (c - b) l) (sym (drop-drop (b - a) a xs))
    ∙ sym (take-add (b - a) (c - b) (drop a xs))
    ∙ ap (λ n. take n (drop a xs)) f

pub length_put : {X : Type 0} (a k : ℕ) (xs ys : List X) → a + k ≤ length xs → length ys ≡ k → length (put_mid a k xs ys) ≡ length xs
length_put a k xs ys le same =
    let n : length (take a xs) ≡ a = length-take-le a xs (omega arith) in
    let m : length (drop k (drop a xs)) ≡ length (drop a xs) - k = length-drop k (drop a xs) in
    let o : length (drop a xs) ≡ length xs - a = length-drop a xs in
    length-append (take a xs) (ys ++ post_of a k xs) ∙ ap (λ l. length (take a xs) + l) (length-append ys (post_of a k xs))
    ∙ (let e : length (take a xs) + (length ys + length (drop k (drop a xs))) ≡ length xs = omega (arith, n, m, o) in e)
