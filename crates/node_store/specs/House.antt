-- Which house nodes are of.
use Rattle.std.specs.Prelude.{◌≡◌, List, slice_get, IsSomeAnd}
use Rattle.boxcar.specs.Table.{Shelves, id_at}
use Rattle.node_store.specs.Placed.{Spot}

-- what lies at the spot lies in this house
abbrev pub IsIn : List Shelves → Spot → Type 0
IsIn house spot = IsSomeAnd (slice_get house spot.shard) (λ shelves. spot.mark ≡ id_at shelves.buckets spot.shelf)
