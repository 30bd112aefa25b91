use Rattle.std.specs.Prelude.{List, [], ◌∷◌}
use Rattle.replica_place.specs.declared.placement.Placement.{Placement}
use Rattle.provider_manager.specs.declared.placements.Places.{Places}
use Rattle.provider_manager.specs.declared.placements.Places.TheVariants as places

-- the placements of one page or of several, in the order of the pages
abbrev pub placements_of : Places → List Placement
placements_of (places.One page) = page ∷ []
placements_of (places.Several pages) = pages.items
