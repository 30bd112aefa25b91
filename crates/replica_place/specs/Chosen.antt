use Rattle.std.specs.Prelude.{ℕ, List, take}
use Rattle.replica_place.specs.declared.placement.Placement.{Placement}

-- the providers of a placement, in order
abbrev pub chosen : Placement → List ℕ
chosen placement = take placement.count placement.providers
