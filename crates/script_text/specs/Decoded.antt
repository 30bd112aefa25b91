-- What is kept of a command's fields, and the text in whose place it stands.
use Rattle.std.specs.Prelude.{◌≡◌, ◌≢◌, ◌⊎◌, ◌<◌, ◌≤◌, ◌+◌, ◌^◌, ℕ, Bool, true, false, List, [], ◌∷◌, ◌++◌, length, take, Option, Some, None, Ok, codes, unwrap_or}
use Rattle.std.specs.List.{All}
use Rattle.std.specs.Option.{option_to_list, IfSome}
use Rattle.std.specs.Fmt.{decimal}
use Rattle.hex.specs.Hex.{encode_lower, decode_of, is_hex_digit, IsBytes}
use Rattle.request_form.specs.declared.operation.Operation.{Operation}
use Rattle.request_form.specs.Operations.{word_of, numbers_of, has_bytes, HasWord}
use Rattle.script_text.specs.declared.fields.Part.{Part}
use Rattle.script_text.specs.declared.fields.Part.TheVariants.{Number, Dash, Digits}
use Rattle.script_text.specs.Fields.{number_of}
use Rattle.script_text.specs.Requests.{request_of}
use Rattle.script_text.specs.Lines.{fields_of}

-- however a text goes on behind the one or the other, it spells the same request, or neither spells one
abbrev pub AsksAs : List ℕ → List ℕ → Type 0
AsksAs text other = (more : List ℕ) → request_of (fields_of (text ++ more)) ≡ request_of (fields_of (other ++ more))

-- however a text goes on behind this, it spells no request
abbrev pub AsksNothing : List ℕ → Type 0
AsksNothing text = (more : List ℕ) → request_of (fields_of (text ++ more)) ≡ None

-- however a field goes on behind this, it spells no number
abbrev pub SpellsNoNumber : List ℕ → Type 0
SpellsNoNumber field = (more : List ℕ) → number_of (field ++ more) ≡ None

-- numbers, each with the space behind it
abbrev pub numbers_text : List ℕ → List ℕ
numbers_text [] = []
numbers_text (n ∷ ns) = decimal n ++ 32 ∷ numbers_text ns

-- the digits that have come of a number
abbrev pub digits_of : Option ℕ → List ℕ
digits_of None = []
digits_of (Some n) = decimal n

-- what has come of a field, and of all bytes: hex digits stand in lower case
abbrev pub part_text : Part → List ℕ → List ℕ
part_text (Number n) bytes = digits_of n
part_text Dash bytes = codes "-"
part_text (Digits high) bytes = encode_lower bytes ++ option_to_list high

-- an operation's command, where it has one
abbrev pub command_of : Operation → List ℕ
command_of operation = unwrap_or (word_of operation) []

-- what has come of a line, up to the field that has begun
unfoldable pub fields_text : Operation → List ℕ → Part → List ℕ → List ℕ
fields_text operation numbers part bytes = command_of operation ++ 32 ∷ (numbers_text numbers ++ part_text part bytes)

-- numbers come first, as many as the operation has, and then its bytes
abbrev pub IsPart : Operation → List ℕ → Part → List ℕ → Type 0
IsPart operation numbers (Number n) bytes = (length numbers < numbers_of operation) × IfSome n (λ m. m < 2 ^ 64) × (bytes ≡ [])
IsPart operation numbers Dash bytes = (length numbers ≡ numbers_of operation) × (has_bytes operation ≡ true) × (bytes ≡ [])
IsPart operation numbers (Digits high) bytes = (length numbers ≡ numbers_of operation) × (has_bytes operation ≡ true) × IfSome high (λ d. is_hex_digit d ≡ true)

pub record IsDecoded (operation : Operation) (numbers : List ℕ) (part : Part) (bytes : List ℕ) : Type 0 where
  pub worded : HasWord operation (command_of operation)
  pub numbers_fit : All (λ n. n < 2 ^ 64) numbers
  pub bytes_fit : IsBytes bytes
  pub part_fits : IsPart operation numbers part bytes

-- the field that comes behind so many numbers, where one may
abbrev pub IsFieldBehind : Operation → ℕ → Option Part → Type 0
IsFieldBehind operation count None = (numbers_of operation ≡ count) × (has_bytes operation ≡ false)
IsFieldBehind operation count (Some part) = ((count < numbers_of operation) × (part ≡ Number None)) ⊎ ((count ≡ numbers_of operation) × (has_bytes operation ≡ true) × (part ≡ Digits None))

-- one more byte: the part that has come then, or none where the line is certainly malformed
abbrev pub Adds : Operation → List ℕ → Part → List ℕ → ℕ → List ℕ → List ℕ → Option Part → Type 0
Adds operation numbers part bytes byte numbers' bytes' None =
    AsksNothing (fields_text operation numbers part bytes ++ byte ∷ []) × (numbers' ≡ numbers) × (bytes' ≡ bytes)
Adds operation numbers part bytes byte numbers' bytes' (Some part') =
    AsksAs (fields_text operation numbers part bytes ++ byte ∷ []) (fields_text operation numbers' part' bytes')
    × IsDecoded operation numbers' part' bytes'
    × (length (fields_text operation numbers' part' bytes') ≡ length (fields_text operation numbers part bytes) + 1)

-- the first digit of a pair has come, or `-` where no digit had
abbrev pub BeginsPair : Bool → ℕ → Option Part → Type 0
BeginsPair none byte None = (is_hex_digit byte ≡ false) × (none ≡ true → byte ≢ 45)
BeginsPair none byte (Some part) = ((is_hex_digit byte ≡ true) × (part ≡ Digits (Some byte))) ⊎ ((none ≡ true) × (byte ≡ 45) × (part ≡ Dash))

-- a space behind a number
abbrev pub EndsNumber : Operation → List ℕ → Option ℕ → List ℕ → Option Part → Type 0
EndsNumber operation numbers None numbers' next = (next ≡ None) × (numbers' ≡ numbers)
EndsNumber operation numbers (Some n) numbers' None = (numbers_of operation ≡ length numbers + 1) × (has_bytes operation ≡ false) × (numbers' ≡ numbers)
EndsNumber operation numbers (Some n) numbers' (Some part) = (numbers' ≡ numbers ++ n ∷ []) × IsFieldBehind operation (length numbers + 1) (Some part)

-- the same seen from outside: more of the text has come, or it is certainly malformed
abbrev pub AddsByte : List ℕ → ℕ → List ℕ → Bool → Type 0
AddsByte text byte text' true = AsksAs (text ++ byte ∷ []) text' × (length text' ≡ length text + 1)
AddsByte text byte text' false = AsksNothing (text ++ byte ∷ [])

-- the bytes that pairs of digits spell stand behind those that were there
pub record Decodes (bytes digits bytes' : List ℕ) : Type 0 where
  pub spelled : List ℕ
  pub spells : decode_of digits ≡ Ok spelled
  pub behind : bytes' ≡ bytes ++ spelled

-- a run of bytes has come off the front of a piece
pub record TakesRun (text piece text' : List ℕ) (count : ℕ) : Type 0 where
  pub within : count ≤ length piece
  pub asks : AsksAs (text ++ take count piece) text'
  pub longer : length text' ≡ length text + count

-- the same of a number's digits, and maybe the space that ends it, with what has come then
pub record TakesNumber (operation : Operation) (numbers : List ℕ) (number : Option ℕ) (piece numbers' : List ℕ) (part' : Part) (count : ℕ) : Type 0 where
  pub run : TakesRun (fields_text operation numbers (Number number) []) piece (fields_text operation numbers' part' []) count
  pub decoded : IsDecoded operation numbers' part' []
