-- What a session's doors answer to the pages of a buffer.
use Rattle.std.specs.Prelude.{◌≡◌, ℕ, ◌+◌, ◌*◌, ◌<◌, ◌≤◌, ◌==◌, if◌then◌else◌, List, [], ◌∷◌, ◌++◌, All, Option, Some, None, length, map, slice_index_or, take, drop}
use Rattle.page_store.specs.House.{House}
use Rattle.page_store.specs.Page.{Page, IsAmong}
use Rattle.page_store.specs.Stored.{Stored, Cut, IsCut, LieAmong, bytes_of_pages}
use Rattle.page_fan.specs.Counts.{RoseAt}
use Rattle.page_fan.specs.Replicas.{AreReplicated, StandAt, providers_of}

-- page i of a buffer that is cut at the page size
abbrev pub page_of : ℕ → List ℕ → ℕ → List ℕ
page_of page_size buffer i = take page_size (drop (i * page_size) buffer)

-- the page stands for these bytes, and has a replica at each chosen provider whose door's count didn't rise, and one at least
pub record IsStoredAs (houses : List House) (content chosen before now : List ℕ) (page : Stored) : Type 0 where
  pub bytes : page.bytes ≡ content
  pub here : All (IsAmong houses) page.spots
  pub replicas : StandAt (RoseAt before now) chosen (providers_of page.spots)
  pub some : 1 ≤ length page.spots

-- there is a chosen provider, and the count of each one's door rose
pub record IsLost (chosen before now : List ℕ) : Type 0 where
  pub some : 1 ≤ length chosen
  pub failed : All (RoseAt before now) chosen

-- the answer to one page: it was stored, or it is lost
abbrev pub IsPageAnswer : List House → List ℕ → List ℕ → List ℕ → List ℕ → Option Stored → Type 0
IsPageAnswer houses bytes chosen before now (Some page) = IsStoredAs houses bytes chosen before now page
IsPageAnswer houses bytes chosen before now None = IsLost chosen before now

-- the answers to all pages of the buffer, in order
pub record AreAnswered (houses : List House) (page_size : ℕ) (buffer : List ℕ) (placements : List (List ℕ)) (before now : List ℕ) (answer : List (Option Stored)) : Type 0 where
  pub whole : length buffer ≤ length answer * page_size
  pub within : (i : ℕ) → i < length answer → i * page_size < length buffer
  pub each : (i : ℕ) → i < length answer
      → IsPageAnswer houses (page_of page_size buffer i) (slice_index_or placements i []) before now (slice_index_or answer i None)

-- page i of the answer is lost
pub record IsLostAt (answer : List (Option Stored)) (i : ℕ) : Type 0 where
  pub within : i < length answer
  pub lost : slice_index_or answer i None ≡ None

-- these are the first so many pages of the answer, all of which were stored
pub record IsGathered (page_size : ℕ) (answer : List (Option Stored)) (count : ℕ) (pages : Cut) : Type 0 where
  pub size : pages.page_size ≡ page_size
  pub all : map Some pages.pages ≡ take count answer
  pub cut : IsCut page_size pages.pages

-- each page but the last of the answer is full, and the last has from 1 byte to the page size
abbrev pub HaveLengths : ℕ → List (Option Stored) → Type 0
HaveLengths page_size answer =
    (k : ℕ) (page : Stored) → k < length answer → slice_index_or answer k None ≡ Some page
    → (1 ≤ length page.bytes) × (length page.bytes ≤ page_size) × (k + 1 < length answer → length page.bytes ≡ page_size)

-- the buffer was stored as these pages, each at the providers of its placement but those whose door's count rose
pub record AreStored (houses : List House) (page_size : ℕ) (buffer : List ℕ) (placements : List (List ℕ)) (before now : List ℕ) (pages : Cut) : Type 0 where
  pub bytes : bytes_of_pages pages.pages ≡ buffer
  pub size : pages.page_size ≡ page_size
  pub cut : IsCut page_size pages.pages
  pub here : LieAmong houses pages.pages
  pub replicas : AreReplicated before now placements pages.pages

-- the pages, and behind them that of this number, if it was stored and so was each page before it
abbrev pub with_page : ℕ → Option Stored → List Stored → List Stored
with_page number (Some page) pages = if length pages == number then pages ++ page ∷ [] else pages
with_page number None pages = pages

-- the page with one replica more, or a page that begins with it
abbrev pub with_replica : Option Stored → Page → Stored
with_replica None page = record { bytes = page.bytes; spots = page.spot ∷ [] }
with_replica (Some stored) page = record { bytes = page.bytes; spots = stored.spots ++ page.spot ∷ [] }
