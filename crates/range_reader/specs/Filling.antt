-- A buffer for bytes of a page, and marks of those that are still wanted.
use Rattle.std.specs.Prelude.{◌≡◌, ◌≢◌, ℕ, ◌+◌, ◌-◌, ◌<◌, ◌≤◌, Bool, true, false, List, length, slice_index, slice_index_or}
use Rattle.node_store.specs.declared.parts.LeafParts.{LeafParts}
use Rattle.snapshot.specs.Versions.{Version}
use Rattle.range_reader.specs.declared.source.LeafAt.{LeafAt}
use Rattle.range_reader.specs.Reading.{page_in, own_start, own_len}

-- where bytes were marked, they are those of a list from its byte `from` on, and all others are as they were
pub record Filled (from : ℕ) (bytes : List ℕ) (marks : List Bool) (old new : List ℕ) : Type 0 where
  pub marked : (x : ℕ) → x < length old → slice_index_or marks x false ≡ true → slice_index new x ≡ slice_index bytes (from + x)
  pub unmarked : (x : ℕ) → x < length old → slice_index_or marks x false ≡ false → slice_index new x ≡ slice_index old x

-- The buffer has the page's bytes from byte `begin` on. Where bytes were marked, the page's `len` bytes from byte `start`
-- on are those of a list from its byte `from` on, and all others are as they were.
pub record Overlaid (start len from begin : ℕ) (bytes : List ℕ) (marks : List Bool) (old new : List ℕ) : Type 0 where
  pub marked : (x : ℕ) → x < length old → start ≤ begin + x → begin + x < start + len → slice_index_or marks x false ≡ true
      → slice_index new x ≡ slice_index bytes (from + (begin + x - start))
  pub unmarked : (x : ℕ) → x < length old → slice_index_or marks x false ≡ false → slice_index new x ≡ slice_index old x
  pub below : (x : ℕ) → x < length old → begin + x < start → slice_index new x ≡ slice_index old x
  pub above : (x : ℕ) → x < length old → start + len ≤ begin + x → slice_index new x ≡ slice_index old x

-- the page's `len` bytes from byte `start` on are no longer wanted, and the other marks are as they were
pub record Taken (start len begin : ℕ) (old new : List Bool) : Type 0 where
  pub within : (x : ℕ) → x < length old → start ≤ begin + x → begin + x < start + len → slice_index_or new x false ≡ false
  pub below : (x : ℕ) → x < length old → begin + x < start → slice_index_or new x false ≡ slice_index_or old x false
  pub above : (x : ℕ) → x < length old → start + len ≤ begin + x → slice_index_or new x false ≡ slice_index_or old x false

-- the bytes of a leaf that were marked are there, as its version has them, and all others are as they were
abbrev pub OverlaidBy : Version → LeafAt → ℕ → List Bool → List ℕ → List ℕ → Type 0
OverlaidBy s leaf begin marks old new =
    let start = own_start s leaf.version leaf.page in
    Overlaid start (own_len s leaf.version leaf.page) start begin (page_in s leaf.version leaf.page) marks old new

-- none of them is wanted any longer
abbrev pub TakenBy : Version → LeafAt → ℕ → List Bool → List Bool → Type 0
TakenBy s leaf begin old new = Taken (own_start s leaf.version leaf.page) (own_len s leaf.version leaf.page) begin old new

-- `next` is the first byte from `first` on that is wanted, or how many bytes there are
pub record IsNextWanted (marks : List Bool) (first next : ℕ) : Type 0 where
  pub from : first ≤ next
  pub upto : next ≤ length marks
  pub none : (x : ℕ) → first ≤ x → x < next → slice_index_or marks x false ≢ true
  pub wanted : next < length marks → slice_index_or marks next false ≡ true

-- a leaf of these parts has some of the page's bytes from byte `low` on, up to byte `high`
abbrev pub IsMetBy : ℕ → ℕ → LeafParts → Type 0
IsMetBy low high parts = (low < parts.start + (parts.first.len + parts.second.len)) × (parts.start < high)

-- bytes `low` up to `high` of a page are the same in an older form of it
pub record AreAlike (page older : List ℕ) (low high : ℕ) : Type 0 where
  pub same : (b : ℕ) → low ≤ b → b < high → slice_index page b ≡ slice_index older b
  pub valid : high ≤ length older

-- The buffer has the page's bytes from byte `begin` on. Of those from the page's byte `low` on, up to byte `high`, it now has all but those from
-- byte `low'` on, up to byte `high'`, and all others are as they were.
pub record Narrowed (page : List ℕ) (begin low high low' high' : ℕ) (old new : List ℕ) : Type 0 where
  pub front : (x : ℕ) → x < length old → low ≤ begin + x → begin + x < low' → slice_index new x ≡ slice_index page (begin + x)
  pub end : (x : ℕ) → x < length old → high' ≤ begin + x → begin + x < high → slice_index new x ≡ slice_index page (begin + x)
  pub below : (x : ℕ) → x < length old → begin + x < low → slice_index new x ≡ slice_index old x
  pub above : (x : ℕ) → x < length old → high ≤ begin + x → slice_index new x ≡ slice_index old x
