-- The rule of the list, and what its steps tell.
-- Whoever has the pen of the word that comes home next is the only one who can add to the list, and so knows all of it.
use Rattle.std.specs.Prelude.{ℕ, ◌≡◌, ◌==◌, ◌+◌, ◌<◌, ◌≤◌, ⊤, true, false, List, [], ◌∷◌, ◌++◌, length, MatchBool}
use Rattle.logbook.specs.Pages.{Cell, cell, Step, View, Book, Named, Nib, may_make, may_write}
use Rattle.read_board.specs.declared.refresh.Refresh.{Refresh}
use Rattle.read_board.specs.Refreshes.{IsRising}

-- Each entry brought one word home, the first of those that weren't. The first word counts the entries and the words, so that it tells of a new word too.
pub record IsKept (cells : List Cell) (log : List Refresh) : Type 0 where
  pub some : 0 < length cells
  pub count : cell cells 0 ≡ (length log + length cells, true)
  pub room : length log + 2 ≤ length cells
  pub away : (k : ℕ) → k < length cells → (cell cells k).1 ≡ false → length log + 2 ≤ k
  pub rising : IsRising log

abbrev pub head_of : Book → Named
head_of b = record { tracked = true; key = 0; book = b }

-- the pen of that word, which isn't at home
pub record IsPenOf (word : ℕ) (p : Nib) : Type 0 where
  pub right : p.right ≡ may_write
  pub key : p.key ≡ word

-- a step that adds no entry asks for none
abbrev pub no_entry : Refresh
no_entry = record { blob = 0; snapshot = record { blob = 0; page_size = 0; rows = [] } }

-- Nothing came after all that had been seen, and there is a pen of a new word; or the count is another one.
abbrev pub Opens : Step Refresh → View Refresh ℕ → ℕ → View Refresh ℕ → Type 0
Opens s v found w = MatchBool (found == s.old) ((length v.0 + (w.1.0).key ≡ s.old) × ((w.1.0).right ≡ may_make)) ⊤

-- The refresh was added to all that had been seen, which was all there was. Or the count is another one, and nothing was added.
abbrev pub Adds : Step Refresh → View Refresh ℕ → ℕ → View Refresh ℕ → Type 0
Adds s v found w = MatchBool (found == s.old) ((w.0 ≡ v.0 ++ s.ask ∷ []) × IsRising w.0) ((w.0 ≡ v.0) × (w.1.0 ≡ v.1.0))

-- All there is was seen.
abbrev pub Meets : Step Refresh → View Refresh ℕ → ℕ → View Refresh ℕ → Type 0
Meets s v found w = (length w.0 + 2 ≤ (v.1.0).key) × (w.1.0 ≡ v.1.0)
