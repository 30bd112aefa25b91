-- The puts of a buffer's pages.
use Rattle.std.specs.Prelude.{ℕ, ◌+◌, ◌*◌, ◌<◌, ◌≤◌, List, [], ◌∷◌, ◌++◌, map}
use Rattle.page_fan.specs.declared.stand.Put.{Put}

-- a buffer of so many bytes is cut into so many pages
pub record HasPages (page_size bytes pages : ℕ) : Type 0 where
  pub whole : bytes ≤ pages * page_size
  pub within : (i : ℕ) → i < pages → i * page_size < bytes

-- a put of the page that begins at this byte at each chosen provider, in order
abbrev pub puts_at : ℕ → List ℕ → List Put
puts_at at chosen = map (λ (provider : ℕ). record { provider = provider; at = at }) chosen

-- the puts of the pages from this one on, where these providers are chosen for them
abbrev pub puts_from : ℕ → ℕ → List (List ℕ) → List Put
puts_from page_size page [] = []
puts_from page_size page (chosen ∷ placements) = puts_at (page * page_size) chosen ++ puts_from page_size (page + 1) placements
