-- What has come of a line's text.
use Rattle.std.specs.Prelude.{◌≡◌, ◌≢◌, ◌+◌, ◌<◌, ◌≤◌, ◌==◌, ℕ, false, List, ◌++◌, length, take, slice_index, Option, Some, None}
use Rattle.std.specs.List.{All}
use Rattle.std.specs.Str.Lines.{strip_carriage_return}
use Rattle.items.specs.Lines.{Lining}

-- none of the bytes is this one
abbrev pub IsWithout : ℕ → List ℕ → Type 0
IsWithout byte bytes = All (λ b. (b == byte) ≡ false) bytes

-- so many bytes stand at the front of a piece, up to the first line feed or CR, or its end
pub record IsRun (piece : List ℕ) (count : ℕ) : Type 0 where
  pub within : count ≤ length piece
  pub no_feed : IsWithout 10 (take count piece)
  pub no_return : IsWithout 13 (take count piece)
  pub enough : count < length piece → slice_index piece count ≢ 10 → slice_index piece count ≡ 13

-- no CR stands at their end
abbrev pub EndsPlain : List ℕ → Type 0
EndsPlain bytes = strip_carriage_return bytes ≡ bytes

-- a text that goes on in one line, and is no comment
pub record IsText (text : List ℕ) : Type 0 where
  pub no_feed : IsWithout 10 text
  pub no_mark : slice_index text 0 ≢ 35

-- however a text goes on behind this, it is bad
abbrev pub SpellsBad : {A : Type 0} → Lining A → List ℕ → Type 0
SpellsBad f text = (more : List ℕ) → f.spelled (text ++ more) ≡ f.bad

-- so many bytes have come off the front of a piece, at least one: however the text goes on, it spells the same
pub record TakesText {A : Type 0} (f : Lining A) (text piece text' : List ℕ) (count : ℕ) : Type 0 where
  pub some : 0 < count
  pub within : count ≤ length piece
  pub longer : length text' ≡ length text + count
  pub spells : (more : List ℕ) → f.spelled ((text ++ take count piece) ++ more) ≡ f.spelled (text' ++ more)
  pub is_text : IsText text'
  pub ends : IsWithout 13 piece → EndsPlain text'

-- bytes of a piece were taken, or the line is bad with it, however it goes on
abbrev pub Takes : {A : Type 0} → Lining A → List ℕ → List ℕ → List ℕ → Option ℕ → Type 0
Takes f text piece text' (Some count) = TakesText f text piece text' count
Takes f text piece text' None = SpellsBad f (text ++ piece)
