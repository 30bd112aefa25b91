use Rattle.std.proofs.Common.{◌≡◌, map, take}
use Rattle.page_store.specs.Page.{Spot}
use Rattle.file_layer.proofs.places.providers_of.Given as goal

abbrev pub invariant-loop-i : goal.invariant-loop-i
invariant-loop-i l = l.numbers.items ≡ map (λ (spot : Spot). spot.provider) (take l.i l.stored.spots)
