-- The table of the operations: how each is spelled in lines and in frames, what its fields are, and the request that it makes.
use Rattle.std.specs.Prelude.{◌≡◌, ℕ, ◌==◌, ◌≤◌, ◌&&◌, nat_le, Bool, true, false, List, [], ◌∷◌, slice_index, find, Option, Some, None, codes}
use Rattle.std.specs.Str.{bytes_eq}
use Rattle.request_form.specs.declared.form.Request.{Request}
use Rattle.request_form.specs.declared.form.Request.TheVariants as Requests
use Rattle.request_form.specs.declared.operation.Operation.{Operation}
use Rattle.request_form.specs.declared.operation.Operation.TheVariants as Operations

-- ---- the table

pub record OperationRow : Type 0 where
  -- its command in lines, where they have it
  pub word : Option (List ℕ)
  -- its number in frames, and since which version of them any may have it; none where it is the first of a stream alone
  pub number : ℕ
  pub since : Option ℕ
  -- how many numbers its fields begin with, and whether bytes or ranges stand behind them
  pub numbers : ℕ
  pub bytes : Bool
  pub ranges : Bool

-- an operation of lines, and of all frames, of so many numbers
abbrev pub plain : List ℕ → ℕ → ℕ → OperationRow
plain word number numbers = record { word = Some word; number = number; since = Some 1; numbers = numbers; bytes = false; ranges = false }

-- and one of numbers and bytes
abbrev pub update : List ℕ → ℕ → ℕ → OperationRow
update word number numbers = record { word = Some word; number = number; since = Some 1; numbers = numbers; bytes = true; ranges = false }

abbrev pub row_of : Operation → OperationRow
row_of Operations.Create = plain (codes "create") 1 0
row_of Operations.Append = update (codes "append") 2 1
row_of Operations.Write = update (codes "write") 3 2
row_of Operations.StartAppend = update (codes "start-append") 4 1
row_of Operations.StartWrite = update (codes "start-write") 5 2
row_of Operations.Finish = plain (codes "finish") 6 1
row_of Operations.Read = plain (codes "read") 7 4
row_of Operations.Recent = plain (codes "recent") 8 1
row_of Operations.Size = plain (codes "size") 9 2
row_of Operations.Sync = plain (codes "sync") 10 2
row_of Operations.Status = plain (codes "status") 11 1
row_of Operations.Branch = plain (codes "branch") 12 2
row_of Operations.Quit = plain (codes "quit") 13 0
row_of Operations.Hello = record { word = None; number = 14; since = None; numbers = 1; bytes = false; ranges = false }
row_of Operations.ReadMany = record { word = None; number = 15; since = Some 2; numbers = 2; bytes = false; ranges = true }
row_of Operations.Repair = record { word = Some (codes "repair"); number = 16; since = Some 2; numbers = 2; bytes = false; ranges = false }

-- all of them, in the order of their numbers
abbrev pub operations : List Operation
operations =
    Operations.Create ∷ Operations.Append ∷ Operations.Write ∷ Operations.StartAppend ∷ Operations.StartWrite ∷ Operations.Finish ∷ Operations.Read ∷ Operations.Recent
    ∷ Operations.Size ∷ Operations.Sync ∷ Operations.Status ∷ Operations.Branch ∷ Operations.Quit ∷ Operations.Hello ∷ Operations.ReadMany ∷ Operations.Repair ∷ []

-- ---- its columns

abbrev pub word_of : Operation → Option (List ℕ)
word_of operation = (row_of operation).word

abbrev pub number_of : Operation → ℕ
number_of operation = (row_of operation).number

abbrev pub since_of : Operation → Option ℕ
since_of operation = (row_of operation).since

abbrev pub numbers_of : Operation → ℕ
numbers_of operation = (row_of operation).numbers

abbrev pub has_bytes : Operation → Bool
has_bytes operation = (row_of operation).bytes

abbrev pub has_ranges : Operation → Bool
has_ranges operation = (row_of operation).ranges

-- ---- looking up

-- whether a text is the word, where there is one
abbrev pub is_word : Option (List ℕ) → List ℕ → Bool
is_word None text = false
is_word (Some word) text = bytes_eq text word

abbrev pub IsWord : Option (List ℕ) → List ℕ → Type 0
IsWord None text = ⊥
IsWord (Some word) text = text ≡ word

-- whether frames of that version may have what is there since this one
abbrev pub is_since : Option ℕ → ℕ → Bool
is_since None version = false
is_since (Some first) version = nat_le first version

abbrev pub IsSince : Option ℕ → ℕ → Type 0
IsSince None version = ⊥
IsSince (Some first) version = first ≤ version

-- the operation's command is that word
abbrev pub HasWord : Operation → List ℕ → Type 0
HasWord operation text = IsWord (word_of operation) text

-- the operation has that number, and frames of that version may have it
abbrev pub HasNumber : Operation → ℕ → ℕ → Type 0
HasNumber operation number version = (number_of operation ≡ number) × IsSince (since_of operation) version

-- the operation with that command
abbrev pub operation_of_word : List ℕ → Option Operation
operation_of_word text = find (λ o. is_word (word_of o) text) operations

-- the operation with that number in frames of that version
abbrev pub operation_of_number : ℕ → ℕ → Option Operation
operation_of_number number version = find (λ o. number_of o == number && is_since (since_of o) version) operations

-- ---- its request

-- the request with these numbers, and these bytes where it has any; none where it has ranges, which are neither
abbrev pub request_with : Operation → List ℕ → List ℕ → Option Request
request_with Operations.Create ns bytes = Some Requests.Create
request_with Operations.Append ns bytes = Some (Requests.Append (slice_index ns 0) bytes)
request_with Operations.Write ns bytes = Some (Requests.Write (slice_index ns 0) (slice_index ns 1) bytes)
request_with Operations.StartAppend ns bytes = Some (Requests.StartAppend (slice_index ns 0) bytes)
request_with Operations.StartWrite ns bytes = Some (Requests.StartWrite (slice_index ns 0) (slice_index ns 1) bytes)
request_with Operations.Finish ns bytes = Some (Requests.Finish (slice_index ns 0))
request_with Operations.Read ns bytes = Some (Requests.Read (slice_index ns 0) (slice_index ns 1) (slice_index ns 2) (slice_index ns 3))
request_with Operations.Recent ns bytes = Some (Requests.Recent (slice_index ns 0))
request_with Operations.Size ns bytes = Some (Requests.Size (slice_index ns 0) (slice_index ns 1))
request_with Operations.Sync ns bytes = Some (Requests.Sync (slice_index ns 0) (slice_index ns 1))
request_with Operations.Status ns bytes = Some (Requests.Status (slice_index ns 0))
request_with Operations.Branch ns bytes = Some (Requests.Branch (slice_index ns 0) (slice_index ns 1))
request_with Operations.Quit ns bytes = Some Requests.Quit
request_with Operations.Hello ns bytes = Some (Requests.Hello (slice_index ns 0))
request_with Operations.ReadMany ns bytes = None
request_with Operations.Repair ns bytes = Some (Requests.Repair (slice_index ns 0) (slice_index ns 1))
