-- How many times a width doubles until it is a size, by the places of the highest bits of both.
use Rattle.std.proofs.Common.{◌≡◌, ℕ, ◌+◌, ◌-◌, ◌*◌, ◌%◌, ◌^◌, ◌<◌, ◌≤◌, suc, arith, inl, inr, ap, sym, ◌∙◌}
use Rattle.std.proofs.lemmas.Bool.{cases_lt}
use Rattle.std.proofs.lemmas.Nat.{mul-le, pow_pos, pow-add}
use Rattle.std.proofs.Math.Nat.{pow-suc, pow-le-pow_right, mod-eq_of_lt}

-- the highest bit of n is bit a
pub record HighestBit (n a : ℕ) : Type 0 where
  pub reaches : 2 ^ a ≤ n
  pub below : n < 2 * 2 ^ a

twice : (a : ℕ) → 2 * 2 ^ a ≡ 2 ^ suc a
twice a = omega (arith, pow-suc 2 a)

-- the greater number has the higher bit
pub bits_rise : (n m a b : ℕ) → HighestBit n a → HighestBit m b → n ≤ m → a ≤ b
bits_rise n m a b x y le =
    elim (cases_lt b a) [
      | inl lt ↦ absurd (let two : 0 < 2 = omega arith in let e : 2 ^ suc b ≤ 2 ^ a = pow-le-pow_right two (omega arith) in omega (arith, twice b, x.reaches, y.below))
      | inr ge ↦ ge
    ]

-- a number that doubles n times has its highest bit n places higher
pub bit_moves : (n a times : ℕ) → HighestBit n a → HighestBit (n * 2 ^ times) (a + times)
bit_moves n a times x = record {
  reaches = let e : 2 ^ a * 2 ^ times ≤ n * 2 ^ times = mul-le (2 ^ a) (2 ^ times) n (2 ^ times) x.reaches (omega arith) in omega (arith, pow-add 2 a times);
  below =
      let pos : 1 ≤ 2 ^ times = pow_pos times in
      let e : (n + 1) * 2 ^ times ≤ 2 * 2 ^ a * 2 ^ times = mul-le (n + 1) (2 ^ times) (2 * 2 ^ a) (2 ^ times) (omega (arith, x.below)) (omega arith) in
      omega (arith, pow-add 2 a times);
}

pub one_bit : (n a b : ℕ) → HighestBit n a → HighestBit n b → a ≡ b
one_bit n a b x y = let e : a ≤ b = bits_rise n n a b x y (omega arith) in let f : b ≤ a = bits_rise n n b a y x (omega arith) in omega arith

-- only so many doublings lead from the width to the size
pub only_times : (width size a b n : ℕ) → HighestBit width a → HighestBit size b → size ≡ width * 2 ^ n → n ≡ b - a
only_times width size a b n x y is =
    let z : HighestBit size (a + n) = rw is (bit_moves width a n x) in
    let e : b ≡ a + n = one_bit size b (a + n) y z in
    omega arith

-- the shift loses no bit
pub shift_is : (width a b : ℕ) → HighestBit width a → a ≤ b → b < 64 → width * 2 ^ (b - a) % 2 ^ 64 ≡ width * 2 ^ (b - a)
shift_is width a b x le few =
    let z = bit_moves width a (b - a) x in
    let top : 2 * 2 ^ (a + (b - a)) ≡ 2 * 2 ^ b = ap (λ n. 2 * 2 ^ n) (let e : a + (b - a) ≡ b = omega arith in e) in
    let two : 0 < 2 = omega arith in
    let up : suc b ≤ 64 = omega arith in
    let g : 2 ^ suc b ≤ 2 ^ 64 = pow-le-pow_right two up in
    mod-eq_of_lt (omega (arith, twice b, z.below))

-- a power of two has one bit alone
pub power_bit : (i : ℕ) → HighestBit (2 ^ i) i
power_bit i = record { reaches = omega arith; below = omega (arith, pow_pos i) }

pub log_of_power : (n a : ℕ) → HighestBit n a → (i : ℕ) × (n ≡ 2 ^ i) → 2 ^ a ≡ n
log_of_power n a x power =
    let y : HighestBit n power.0 = rw power.1 (power_bit power.0) in
    ap (λ k. 2 ^ k) (one_bit n a power.0 x y) ∙ sym power.1
