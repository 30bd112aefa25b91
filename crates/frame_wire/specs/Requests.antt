-- What the fields behind an operation make.
use Rattle.std.specs.Prelude.{ℕ, zero, suc, ◌-◌, ◌*◌, ◌/◌, ◌%◌, ◌==◌, ◌&&◌, nat_le, Bool, true, false, if◌then◌else◌, List, [], ◌∷◌, length, drop, Option, Some, None}
use Rattle.byteorder.specs.Endian.{big_number}
use Rattle.request_form.specs.declared.form.Request.{Request}
use Rattle.request_form.specs.declared.form.Request.TheVariants.{ReadMany}
use Rattle.request_form.specs.declared.operation.Operation.{Operation}
use Rattle.request_form.specs.Operations.{numbers_of, has_bytes, has_ranges, request_with, operation_of_number}

-- ---- what stands behind an operation

-- the number in the 8 bytes that start there
abbrev pub number_at : ℕ → List ℕ → ℕ
number_at start fields = big_number 8 (drop start fields)

-- so many numbers, one behind the other
abbrev pub numbers_in : ℕ → List ℕ → List ℕ
numbers_in zero fields = []
numbers_in (suc count) fields = number_at 0 fields ∷ numbers_in count (drop 8 fields)

-- so many pairs of numbers
abbrev pub pairs_of : ℕ → List ℕ → List (ℕ × ℕ)
pairs_of zero fields = []
pairs_of (suc count) fields = (number_at 0 fields, number_at 8 fields) ∷ pairs_of count (drop 16 fields)

-- whether so many bytes are two numbers and from 1 to 64 pairs of numbers
abbrev pub holds_ranges : ℕ → Bool
holds_ranges count = count % 16 == 0 && (nat_le 32 count && nat_le count 1040)

-- whether so many bytes are so many numbers and what stands behind them, bytes or ranges, and nothing is left over
abbrev pub fits_by : Bool → Bool → ℕ → ℕ → Bool
fits_by true ranges numbers count = nat_le (8 * numbers) count
fits_by false true numbers count = holds_ranges count
fits_by false false numbers count = count == 8 * numbers

-- the same of an operation
abbrev pub fits : Operation → ℕ → Bool
fits operation count = fits_by (has_bytes operation) (has_ranges operation) (numbers_of operation) count

-- ---- the requests

-- what such fields ask for
abbrev pub made : Operation → List ℕ → Option Request
made operation fields =
    if has_ranges operation then Some (ReadMany (number_at 0 fields) (number_at 8 fields) (pairs_of (length fields / 16 - 1) (drop 16 fields)))
    else request_with operation (numbers_in (numbers_of operation) fields) (drop (8 * numbers_of operation) fields)

-- what any fields ask for
abbrev pub request_in : Option Operation → List ℕ → Option Request
request_in None fields = None
request_in (Some operation) fields = if fits operation (length fields) then made operation fields else None

-- the request that the bytes counted by a frame's length spell in frames of that version, where they spell one
abbrev pub request_of : ℕ → List ℕ → Option Request
request_of version [] = None
request_of version (number ∷ fields) = request_in (operation_of_number number version) fields
