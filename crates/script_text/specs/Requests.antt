use Rattle.std.specs.Prelude.{ℕ, zero, suc, Bool, true, false, List, [], ◌∷◌, Option, Some, None, option_and_then}
use Rattle.request_form.specs.declared.form.Request.{Request}
use Rattle.request_form.specs.declared.operation.Operation.{Operation}
use Rattle.request_form.specs.Operations.{numbers_of, has_bytes, request_with, operation_of_word}
use Rattle.script_text.specs.Fields.{number_of, bytes_of}

-- ---- what stands behind a command

-- a number before others and bytes, where all are there
abbrev pub with_number : Option ℕ → Option (List ℕ × List ℕ) → Option (List ℕ × List ℕ)
with_number (Some n) (Some p) = Some (n ∷ p.0, p.1)
with_number (Some n) None = None
with_number None p = None

abbrev pub bytes_alone : Option (List ℕ) → Option (List ℕ × List ℕ)
bytes_alone (Some bytes) = Some ([], bytes)
bytes_alone None = None

-- behind all numbers stand bytes in hex digits, or nothing
abbrev pub read_last : Bool → List (List ℕ) → Option (List ℕ × List ℕ)
read_last false [] = Some ([], [])
read_last false (field ∷ fields) = None
read_last true [] = None
read_last true (field ∷ []) = bytes_alone (bytes_of field)
read_last true (field ∷ next ∷ fields) = None

-- so many numbers, and bytes behind them or none
abbrev pub read : ℕ → Bool → List (List ℕ) → Option (List ℕ × List ℕ)
read zero bytes fields = read_last bytes fields
read (suc k) bytes [] = None
read (suc k) bytes (field ∷ fields) = with_number (number_of field) (read k bytes fields)

-- ---- lines

-- the request that an operation makes of what was read
abbrev pub ask : Operation → Option (List ℕ × List ℕ) → Option Request
ask operation p = option_and_then (λ r. request_with operation r.0 r.1) p

-- and of the fields behind its command
abbrev pub request_in : Option Operation → List (List ℕ) → Option Request
request_in None fields = None
request_in (Some operation) fields = ask operation (read (numbers_of operation) (has_bytes operation) fields)

-- the request that the fields of a line spell, where they spell one
abbrev pub request_of : List (List ℕ) → Option Request
request_of [] = None
request_of (command ∷ fields) = request_in (operation_of_word command) fields
