-- What the pages of one update keep.
use Rattle.std.specs.Prelude.{◌≡◌, ℕ, ◌*◌, ◌≤◌, List, [], ◌∷◌, length, vec_capacity}
use Rattle.page_store.specs.Stored.{Stored, bytes_of_pages, IsCut}
use Rattle.page_store.specs.declared.stored.PageList.{PageList}
use Rattle.page_store.specs.declared.stored.PageList.TheVariants as Lists
use Rattle.page_store.specs.declared.stored.Pages.TheInside.{Inside}

-- the pages of an update
abbrev pub pages_in : PageList → List Stored
pages_in Lists.Empty = []
pages_in (Lists.One page) = page ∷ []
pages_in (Lists.Several pages) = pages.items

-- how many pages may stand there
abbrev pub room_in : PageList → ℕ
room_in Lists.Empty = 1
room_in (Lists.One page) = 1
room_in (Lists.Several pages) = vec_capacity pages

-- the page size is in its limits, there is room for the pages, the kept length is theirs, and they are cut at the page size
pub record KeepsPages (g : Inside) : Type 0 where
  pub least : 4 ≤ g.page_size
  pub greatest : g.page_size ≤ 1048576
  pub fewer : length (pages_in g.pages) ≤ g.room
  pub reserved : g.room ≤ room_in g.pages
  pub total : g.len ≡ length (bytes_of_pages (pages_in g.pages))
  pub bounded : g.len ≤ length (pages_in g.pages) * g.page_size
  pub cut : IsCut g.page_size (pages_in g.pages)
