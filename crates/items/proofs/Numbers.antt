-- Bytes are those of the number that they make.
use Rattle.std.proofs.Common.{◌≡◌, ◌∙◌, ℕ, zero, suc, ◌+◌, ◌*◌, ◌/◌, ◌^◌, ◌<◌, ◌≤◌, List, [], ◌∷◌, length, slice_index, refl, sym, ap, ap₂, arith, append-nil, inl, inr}
use Rattle.std.proofs.Math.Nat.{add-mul, mod-lt, mul-le-mul_right}
use Rattle.std.proofs.lemmas.Bool.{cases_order}
use Rattle.std.specs.Int.{byte_at, bytes_high_first}
use Rattle.byteorder.specs.Endian.{big_from}
use Rattle.byteorder.specs.Numbers.{big_from-cons, big_from-lt, big_number-reads_back, length-bytes_high_first}

-- a lower top digit makes a lower number
lower : (P x y r s : ℕ) → r < P → x < y → x * P + r < y * P + s
lower P x y r s few less =
    let up : (x + 1) * P ≤ y * P = mul-le-mul_right P (omega arith) in
    let split : (x + 1) * P ≡ x * P + 1 * P = add-mul x 1 P in
    omega arith

-- numbers with one top digit and less below it are equal only where both are
same_top : (P x y r s : ℕ) → r < P → s < P → x * P + r ≡ y * P + s → x ≡ y
same_top P x y r s few_r few_s same = elim (cases_order x y) [
  | inl e ↦ e
  | inr (inl less) ↦ absurd (let h = lower P x y r s few_r less in omega arith)
  | inr (inr more) ↦ absurd (let h = lower P y x s r few_s more in omega arith)
]

abbrev pub AllBytes : List ℕ → Type 0
AllBytes xs = (i : ℕ) → slice_index xs i < 256

byte-lt : (k x : ℕ) → byte_at k x < 256
byte-lt zero x = mod-lt x (omega arith)
byte-lt (suc k) x = mod-lt (x / 256 ^ suc k) (omega arith)

all_bytes : (n x : ℕ) → AllBytes (bytes_high_first n x)
all_bytes zero x i = omega arith
all_bytes (suc n) x zero = byte-lt n x
all_bytes (suc n) x (suc i) = all_bytes n x i

-- bytes of one number are the same
same_bytes : (n : ℕ) (xs ys : List ℕ) → length xs ≡ n → length ys ≡ n → AllBytes xs → AllBytes ys → big_from 0 n xs ≡ big_from 0 n ys → xs ≡ ys
same_bytes zero [] [] nx ny bx by same = refl
same_bytes zero [] (y ∷ ys) nx ny bx by same = absurd (omega arith)
same_bytes zero (x ∷ xs) ys nx ny bx by same = absurd (omega arith)
same_bytes (suc n) [] ys nx ny bx by same = absurd (omega arith)
same_bytes (suc n) (x ∷ xs) [] nx ny bx by same = absurd (omega arith)
same_bytes (suc n) (x ∷ xs) (y ∷ ys) nx ny bx by same =
    let low_x = big_from-lt 0 n xs (λ i. bx (suc i)) in
    let low_y = big_from-lt 0 n ys (λ i. by (suc i)) in
    let moved : x * 256 ^ n + big_from 0 n xs ≡ y * 256 ^ n + big_from 0 n ys =
    ap (λ (r : ℕ). x * 256 ^ n + r) (sym (big_from-cons 0 n x xs)) ∙ same ∙ ap (λ (r : ℕ). y * 256 ^ n + r) (big_from-cons 0 n y ys) in
    let top : x ≡ y = same_top (256 ^ n) x y (big_from 0 n xs) (big_from 0 n ys) low_x low_y moved in
    let here : y * 256 ^ n + big_from 0 n xs ≡ y * 256 ^ n + big_from 0 n ys = ap (λ (t : ℕ). t * 256 ^ n + big_from 0 n xs) (sym top) ∙ moved in
    let rest : big_from 0 n xs ≡ big_from 0 n ys = omega arith in
    ap₂ (λ (t : ℕ) (l : List ℕ). t ∷ l) top (same_bytes n xs ys (omega arith) (omega arith) (λ i. bx (suc i)) (λ i. by (suc i)) rest)

-- the bytes of the number that some bytes make are these bytes
pub bytes_again : (n : ℕ) (xs : List ℕ) → length xs ≡ n → AllBytes xs → bytes_high_first n (big_from 0 n xs) ≡ xs
bytes_again n xs lengths bytes =
    same_bytes n (bytes_high_first n (big_from 0 n xs)) xs (length-bytes_high_first n (big_from 0 n xs)) lengths (all_bytes n (big_from 0 n xs)) bytes
    (ap (λ (l : List ℕ). big_from 0 n l) (sym (append-nil (bytes_high_first n (big_from 0 n xs)))) ∙ big_number-reads_back n (big_from 0 n xs) [] (big_from-lt 0 n xs bytes))
