-- Frames that have begun, seen as their length and the bytes that have come behind it.
use Rattle.std.proofs.Common.{◌≡◌, ◌∙◌, ℕ, zero, suc, ◌+◌, ◌-◌, ◌^◌, ◌<◌, ◌≤◌, nat_lt, Bool, cond, true, false, List, [], ◌∷◌, ◌++◌, length, drop, replicate, refl, sym, ap, arith, append_assoc, length-append}
use Rattle.std.proofs.lemmas.List.{length-replicate}
use Rattle.std.proofs.lemmas.Bool.Decides.{nat_tests}
use Rattle.byteorder.specs.Endian.{big_bytes}
use Rattle.byteorder.specs.Numbers.{big_number-reads_back, length-bytes_high_first}
use Rattle.items.specs.Framing.{Framing, IsFraming, length_of, item_of, is_whole, framed}
use Rattle.items.specs.BegunFrame.{GoesOnAs, frame_part}
use Rattle.items.specs.Taken.{IsOpen}
use Rattle.items.proofs.FramesHeard.{alike_on, is_whole_by}

pub frame_part-length : (n : ℕ) (bytes : List ℕ) → length (frame_part n bytes) ≡ 4 + length bytes
unfolding frame_part
frame_part-length n bytes = let l = length-append (big_bytes 4 n) bytes in let four = length-bytes_high_first 4 n in omega arith

pub frame_part-number : (n : ℕ) (bytes : List ℕ) → n < 2 ^ 32 → length_of (frame_part n bytes) ≡ n
unfolding frame_part
frame_part-number n bytes fits = big_number-reads_back 4 n bytes fits

pub frame_part-append : (n : ℕ) (a b : List ℕ) → frame_part n a ++ b ≡ frame_part n (a ++ b)
unfolding frame_part
frame_part-append n a b = append_assoc (big_bytes 4 n) a b

pub frame_part-drop : (n : ℕ) (bytes : List ℕ) → drop 4 (frame_part n bytes) ≡ bytes
unfolding frame_part
frame_part-drop n bytes = refl

-- ---- what a frame with that length says

pub item_long : {A : Type 0} (f : Framing A) (is : IsFraming f) (n : ℕ) (bytes : List ℕ) → n < 2 ^ 32 → f.limit < n → item_of f (frame_part n bytes) ≡ f.too_long n
item_long f is n bytes fits long = let test : nat_lt f.limit n ≡ true = grind (arith, nat_tests, long) in rw (frame_part-number n bytes fits, test) refl

pub item_short : {A : Type 0} (f : Framing A) (is : IsFraming f) (n : ℕ) (bytes : List ℕ) → n ≤ f.limit → item_of f (frame_part n bytes) ≡ f.spelled bytes
item_short f is n bytes short =
    let test : nat_lt f.limit n ≡ false = grind (arith, nat_tests, short) in
    rw (frame_part-number n bytes (let fits = is.fits in omega arith), test, frame_part-drop n bytes) refl

-- the fault of a frame that is wrong
abbrev pub wrong_by : {A : Type 0} → Framing A → ℕ → A
wrong_by f n = cond (nat_lt f.limit n) (f.too_long n) f.bad

pub item_wrong : {A : Type 0} (f : Framing A) (is : IsFraming f) (n : ℕ) (bytes : List ℕ) → n < 2 ^ 32 → (n ≤ f.limit → f.spelled bytes ≡ f.bad) → item_of f (frame_part n bytes) ≡ wrong_by f n
item_wrong f is n bytes fits none = go (nat_lt f.limit n) refl
  where
    go : (b : Bool) → nat_lt f.limit n ≡ b → item_of f (frame_part n bytes) ≡ wrong_by f n
    go true e = item_long f is n bytes fits (grind (arith, nat_tests, e)) ∙ rw e refl
    go false e = let short : n ≤ f.limit = grind (arith, nat_tests, e) in item_short f is n bytes short ∙ none short ∙ rw e refl

-- a frame that begins with 0 is bad
pub zeros_spell_nothing : {A : Type 0} (f : Framing A) (is : IsFraming f) (k : ℕ) (xs : List ℕ) → 0 < k → f.spelled (replicate k 0 ++ xs) ≡ f.bad
zeros_spell_nothing f is zero xs more = absurd (omega arith)
zeros_spell_nothing f is (suc k) xs more = is.zero (replicate k 0 ++ xs)

-- ---- frames of one length that go on alike

pub opened_alike : {A : Type 0} (f : Framing A) (is : IsFraming f) (n : ℕ) (a b : List ℕ) (left : ℕ) → n < 2 ^ 32 → length a + left ≡ n → length b + left ≡ n
    → ((xs : List ℕ) → length xs ≡ left → item_of f (frame_part n (a ++ xs)) ≡ item_of f (frame_part n (b ++ xs))) → GoesOnAs f (frame_part n a) (frame_part n b)
opened_alike f is n a b left fits left_a left_b same = alike_on f (frame_part n a) (frame_part n b) left record {
  four_p = let l = frame_part-length n a in omega arith;
  four_q = let l = frame_part-length n b in omega arith;
  left_p = let l = frame_part-length n a in let k = frame_part-number n a fits in omega arith;
  left_q = let l = frame_part-length n b in let k = frame_part-number n b fits in omega arith;
  same_item = λ xs h. ap (item_of f) (frame_part-append n a xs) ∙ same xs h ∙ sym (ap (item_of f) (frame_part-append n b xs));
}

-- wrong frames of one length go on alike
wrong_alike : {A : Type 0} (f : Framing A) (is : IsFraming f) (n : ℕ) (a b : List ℕ) (left : ℕ) → n < 2 ^ 32 → length a + left ≡ n → length b + left ≡ n
    → ((xs : List ℕ) → length xs ≡ left → n ≤ f.limit → (f.spelled (a ++ xs) ≡ f.bad) × (f.spelled (b ++ xs) ≡ f.bad)) → GoesOnAs f (frame_part n a) (frame_part n b)
wrong_alike f is n a b left fits left_a left_b none = opened_alike f is n a b left fits left_a left_b
    (λ xs h. item_wrong f is n (a ++ xs) fits (λ short. (none xs h short).0) ∙ sym (item_wrong f is n (b ++ xs) fits (λ short. (none xs h short).1)))

-- zeros stand in the place of the first byte and of all that comes behind it, where they ask for nothing
pub goes_wrong : {A : Type 0} (f : Framing A) (is : IsFraming f) (n number : ℕ) → 0 < n → n ≤ f.limit → ((xs : List ℕ) → length xs ≡ n - 1 → f.spelled (number ∷ xs) ≡ f.bad)
    → GoesOnAs f (frame_part n (number ∷ [])) (frame_part n (replicate (n - (n - 1)) 0))
goes_wrong f is n number some_bytes short none =
    let zeros = length-replicate {A = ℕ} (n - (n - 1)) 0 in
    wrong_alike f is n (number ∷ []) (replicate (n - (n - 1)) 0) (n - 1) (omega arith) (omega arith) (omega (arith, zeros))
    (λ xs h _. (none xs h, zeros_spell_nothing f is (n - (n - 1)) xs (omega arith)))

-- and of more bytes of a frame that is wrong
pub goes_on_wrong : {A : Type 0} (f : Framing A) (is : IsFraming f) (n was left : ℕ) (xs : List ℕ) → was ≤ n → n < 2 ^ 32 → (n ≤ f.limit → was < n) → length xs + left ≡ was
    → GoesOnAs f (frame_part n (replicate (n - was) 0) ++ xs) (frame_part n (replicate (n - left) 0))
goes_on_wrong f is n was left xs within fits certain lengths more =
    let zeros : List ℕ = replicate (n - was) 0 in
    let zeros_was = length-replicate {A = ℕ} (n - was) 0 in
    let zeros_now = length-replicate {A = ℕ} (n - left) 0 in
    let joined = length-append zeros xs in
    ap (λ (l : List ℕ). framed f (l ++ more)) (frame_part-append n zeros xs)
    ∙ wrong_alike f is n (zeros ++ xs) (replicate (n - left) 0) left fits (omega (arith, zeros_was)) (omega (arith, zeros_now))
    (λ ys h short.
    let less : was < n = certain short in
    (ap f.spelled (append_assoc zeros xs ys) ∙ zeros_spell_nothing f is (n - was) (xs ++ ys) (omega arith), zeros_spell_nothing f is (n - left) ys (omega arith)))
    more

-- ---- a whole frame

zeros_none : {A : Type 0} (f : Framing A) (is : IsFraming f) (k : ℕ) → f.spelled (replicate k 0) ≡ f.bad
zeros_none f is zero = is.empty
zeros_none f is (suc k) = is.zero (replicate k 0)

pub item_bad : {A : Type 0} (f : Framing A) (is : IsFraming f) (n left : ℕ) → n ≤ f.limit → item_of f (frame_part n (replicate (n - left) 0)) ≡ f.bad
item_bad f is n left short = item_short f is n (replicate (n - left) 0) short ∙ (zeros_none f is (n - left))

pub opened_whole : (n : ℕ) (bytes : List ℕ) → n < 2 ^ 32 → length bytes ≡ n → is_whole (frame_part n bytes) ≡ true
opened_whole n bytes fits lengths = let l = frame_part-length n bytes in is_whole_by (frame_part n bytes) n (frame_part-number n bytes fits) (omega arith)

pub opened_open : (n : ℕ) (bytes : List ℕ) → n < 2 ^ 32 → length bytes < n → IsOpen (frame_part n bytes)
opened_open n bytes fits less four = let l = frame_part-length n bytes in let k = frame_part-number n bytes fits in omega arith
