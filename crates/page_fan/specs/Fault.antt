-- Why the pages of a buffer were not stored.
use Rattle.std.specs.Prelude.{◌≡◌, ℕ, ◌*◌, ◌<◌, ◌≤◌, List, [], All, Result, Ok, Err, length, slice_index_or, take}
use Rattle.page_store.specs.House.{House}
use Rattle.page_store.specs.Stored.{Cut, bytes_of_pages, AllFull, LieAmong}
use Rattle.page_fan.specs.Counts.{RoseAt}
use Rattle.page_fan.specs.Replicas.{AreReplicated}
use Rattle.page_fan.specs.declared.storing.StoreFault.{StoreFault}
use Rattle.page_fan.specs.declared.storing.StoreFault.TheVariants as fault

-- The page of that number is the first that is lost. The pages before it were stored as those of a stored buffer are. It has
-- chosen providers, and the count of each one's door rose.
pub record FirstFailed (houses : List House) (page_size : ℕ) (buffer : List ℕ) (placements : List (List ℕ)) (before now : List ℕ) (page : ℕ) (stored : Cut) : Type 0 where
  pub within : page * page_size < length buffer
  pub count : page ≡ length stored.pages
  pub size : stored.page_size ≡ page_size
  pub full : AllFull page_size stored.pages
  pub bytes : bytes_of_pages stored.pages ≡ take (page * page_size) buffer
  pub here : LieAmong houses stored.pages
  pub replicas : AreReplicated before now placements stored.pages
  pub some : 1 ≤ length (slice_index_or placements page [])
  pub failed : All (RoseAt before now) (slice_index_or placements page [])

-- a fact on the lost page's number and on the pages before it, where a page fault is answered
abbrev pub OnLostPage : StoreFault → (ℕ → Cut → Type 0) → Type 0
OnLostPage (fault.PageFault page before) P = P page before
OnLostPage fault.NoMemory P = Unit {0}

-- a fact on the page's number alone
abbrev pub OnPageFault : StoreFault → (ℕ → Type 0) → Type 0
OnPageFault fault P = OnLostPage fault (λ page _. P page)

-- a fact, except where memory was refused
abbrev pub UnlessNoMemory : Result Cut StoreFault → Type 0 → Type 0
UnlessNoMemory (Ok pages) P = P
UnlessNoMemory (Err fault) P = OnPageFault fault (λ _. P)
