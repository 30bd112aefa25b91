-- A line that has begun, and the bytes in whose place stands what is kept of it.
use Rattle.std.specs.Prelude.{◌≡◌, ◌≢◌, ◌⊎◌, ◌≤◌, ℕ, List, slice_index}
use Rattle.std.specs.List.{All}
use Rattle.script_text.specs.declared.line.Begun.{Begun}
use Rattle.script_text.specs.declared.line.Begun.TheVariants.{Word, Asked}
pub use Rattle.items.specs.Text.{IsWithout}

-- a text without a line's end, and no comment
pub record IsPlain (text : List ℕ) : Type 0 where
  pub no_feed : IsWithout 10 text
  pub no_return : IsWithout 13 text
  pub no_mark : slice_index text 0 ≢ 35

-- a letter in lower case, or `-`
abbrev pub IsLetter : ℕ → Type 0
IsLetter b = ((97 ≤ b) × (b ≤ 122)) ⊎ (b ≡ 45)

abbrev pub begun_text : Begun → List ℕ
begun_text (Word word) = word.items
begun_text (Asked text) = text

abbrev pub IsBegun : Begun → Type 0
IsBegun (Word word) = All IsLetter word.items
IsBegun (Asked text) = Unit {0}
