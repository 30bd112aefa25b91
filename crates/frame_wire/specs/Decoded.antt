-- What is kept of a request's fields.
use Rattle.std.specs.Prelude.{◌≡◌, ◌+◌, ◌*◌, ◌^◌, ◌<◌, ◌≤◌, ◌==◌, ℕ, Bool, List, [], ◌∷◌, length, Option, Some, None, true, false}
use Rattle.std.specs.List.{All}
use Rattle.request_form.specs.declared.operation.Operation.{Operation}
use Rattle.request_form.specs.Operations.{since_of, numbers_of, has_bytes, has_ranges, IsSince}
use Rattle.frame_wire.specs.Requests.{holds_ranges}

-- of the numbers, then of the next one, then of the bytes behind all numbers; and what is still to come makes the fields whole
pub record IsDecoded (operation : Operation) (numbers part bytes : List ℕ) (left : ℕ) : Type 0 where
  pub since : IsSince (since_of operation) 1
  pub numbers_fit : length numbers ≤ numbers_of operation
  pub part_fits : length part < 8
  pub bytes_wait : length numbers < numbers_of operation → bytes ≡ []
  pub no_part : length numbers ≡ numbers_of operation → part ≡ []
  pub least : 8 * numbers_of operation ≤ 8 * length numbers + length part + length bytes + left
  pub exact : has_bytes operation ≡ false → 8 * length numbers + length part + length bytes + left ≡ 8 * numbers_of operation

-- the pairs that have come: a blob and its version, and ranges
abbrev pub all_pairs : Option (ℕ × ℕ) → List (ℕ × ℕ) → List (ℕ × ℕ)
all_pairs None ranges = ranges
all_pairs (Some target) ranges = target ∷ ranges

-- both numbers of a pair fit a field
abbrev pub IsSmallPair : ℕ × ℕ → Type 0
IsSmallPair pair = (pair.0 < 2 ^ 64) × (pair.1 < 2 ^ 64)

-- whether so many bytes are the fields of an operation that frames have since version 2, by whether it has ranges
abbrev pub pairs_fit : Bool → ℕ → Bool
pairs_fit true count = holds_ranges count
pairs_fit false count = count == 16

-- the same of pairs of numbers, then of the next one
pub record IsPaired (operation : Operation) (target : Option (ℕ × ℕ)) (ranges : List (ℕ × ℕ)) (part : List ℕ) (left : ℕ) : Type 0 where
  pub second : since_of operation ≡ Some 2
  pub numbers_fit : All IsSmallPair (all_pairs target ranges)
  pub part_fits : length part < 16
  pub ranges_wait : target ≡ None → ranges ≡ []
  pub fits : pairs_fit (has_ranges operation) (16 * length (all_pairs target ranges) + length part + left) ≡ true
