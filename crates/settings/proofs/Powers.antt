-- Numbers with one digit set are powers of two.
use Rattle.std.proofs.Common.{◌≡◌, ℕ, zero, suc, ◌/◌, ◌%◌, ◌^◌, ◌<◌, ◌≤◌, refl, arith, pow-suc}
use Rattle.std.specs.Int.RustNames.{count_ones}
use Rattle.std.proofs.lemmas.Nat.{zero_from_ones}
use lib.Count.{ones_step, ones-le}

-- twice a power is the next one
twice : (n i : ℕ) → n / 2 ≡ 2 ^ i → n % 2 ≡ 0 → n ≡ 2 ^ suc i
twice n i half even = let next = pow-suc 2 i in omega arith

lone : (n : ℕ) → n / 2 ≡ 0 → n % 2 ≡ 1 → n ≡ 2 ^ 0
lone n half odd = omega arith

pub power_of_one : (d n : ℕ) → n < 2 ^ d → count_ones n ≡ 1 → (i : ℕ) × (n ≡ 2 ^ i) × (i < d)
power_of_one zero n small one = absurd (omega (arith, ones-le 0 n small))
power_of_one (suc d) n small one = go (n % 2) refl (power_of_one d (n / 2))
  where
    go : (r : ℕ) → n % 2 ≡ r → (n / 2 < 2 ^ d → count_ones (n / 2) ≡ 1 → (i : ℕ) × (n / 2 ≡ 2 ^ i) × (i < d)) → (i : ℕ) × (n ≡ 2 ^ i) × (i < suc d)
    go zero e rest =
        let step = ones_step n in
        let next = pow-suc 2 d in
        let r = rest (omega arith) (omega arith) in
        let small_power : r.0 < d = r.2 in
        (suc r.0, twice n r.0 r.1 e, omega arith)
    go (suc zero) e rest =
        let step = ones_step n in
        let none : count_ones (n / 2) ≡ 0 = omega arith in
        (zero, lone n (zero_from_ones (n / 2) none) e, omega arith)
    go (suc (suc r)) e rest = absurd (omega arith)

-- a number within a page's bounds that has a single one bit is 2^i for an i from 2 to 20
pub page_power : (n : ℕ) → 4 ≤ n → n ≤ 1048576 → count_ones n ≡ 1 → (i : ℕ) × (n ≡ 2 ^ i) × (2 ≤ i) × (i ≤ 20)
page_power n least most one = go (power_of_one 21 n (omega arith) one)
  where
    go : ((i : ℕ) × (n ≡ 2 ^ i) × (i < 21)) → (i : ℕ) × (n ≡ 2 ^ i) × (2 ≤ i) × (i ≤ 20)
    go (zero, e, small) = absurd (omega arith)
    go (suc zero, e, small) = absurd (omega arith)
    go (suc (suc i), e, small) = (suc (suc i), e, omega arith, omega arith)
