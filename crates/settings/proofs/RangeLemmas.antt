-- What a number of a range is.
use Rattle.std.proofs.Common.{◌≡◌, ℕ, ◌^◌, ◌<◌, ◌≤◌, true, nat_le, IsTrue, Option, arith}
use Rattle.std.specs.Option.{ForSome}
use Rattle.std.proofs.lemmas.Bool.{and_parts}
use Rattle.std.proofs.lemmas.Bool.Decides.{nat_tests}
use Rattle.settings.specs.declared.table.NumberRange.{NumberRange}
use Rattle.settings.specs.Table.{fits}

is_at_most : (n m : ℕ) → nat_le n m ≡ true → n ≤ m
is_at_most n m h = grind (arith, nat_tests)

pub fits_least : (range : NumberRange) (n : ℕ) → fits range n ≡ true → range.least ≤ n
fits_least range n h = is_at_most range.least n (and_parts _ _ (and_parts _ _ h).0).0

pub fits_most : (range : NumberRange) (n : ℕ) → fits range n ≡ true → n ≤ range.most
fits_most range n h = is_at_most n range.most (and_parts _ _ (and_parts _ _ h).0).1

-- a number of a range whose numbers have at most 32 bits has at most 32
pub narrow_fits : (range : NumberRange) (number : Option ℕ) → range.most < 2 ^ 32 → ForSome number (λ n. IsTrue (fits range n)) → ForSome number (λ n. n < 2 ^ 32)
narrow_fits range number small h n e = let most = fits_most range n (h n e) in omega arith
