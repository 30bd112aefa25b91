-- Puts that come between two turns, in one order and in another.
use Rattle.std.specs.Prelude.{◌≡◌, ℕ, List}
use Rattle.blob_core.specs.World.{World}
use Rattle.blob_core.specs.Steps.{IsAllowed, AllAllowed, after, world_after, events_from}
use Rattle.blob_core.specs.Standing.{IsReached}
use Rattle.blob_core.specs.declared.step.Step.{Step}
use Rattle.blob_core.specs.declared.step.Step.TheVariants as Moves
use Rattle.world_acts.specs.Worlds.{HasAllOf}

-- the step puts a page, a page that an update stores anew, or a node
abbrev pub IsPut : Step → Type 0
IsPut (Moves.PagePut page bytes) = Unit {0}
IsPut (Moves.Create caller) = ⊥
IsPut (Moves.Assign caller blob place pages) = ⊥
IsPut (Moves.FoldPut blob version page) = Unit {0}
IsPut (Moves.NodePut key) = Unit {0}
IsPut (Moves.Finish caller blob version) = ⊥
IsPut (Moves.Branch caller blob version) = ⊥
IsPut (Moves.Read blob version offset count) = ⊥

-- The worlds have the same store and the same parents, and in both the same is found under each number and each key.
pub record IsSameWorld (one other : World) : Type 0 where
  pub store : one.store ≡ other.store
  pub lineage : one.lineage ≡ other.lineage
  pub there : HasAllOf one other
  pub back : HasAllOf other one

-- Two puts, of which the second doesn't need the first, are allowed in the other order too, and lead to the same world.
abbrev pub PutsCommute : Type 0
PutsCommute = (p : ℕ) (w : World) (one other : Step) → IsReached p w → IsPut one → IsPut other
    → IsAllowed p w one → IsAllowed p w other → IsAllowed p (after p w one) other
    → IsAllowed p (after p w other) one × IsSameWorld (after p (after p w one) other) (after p (after p w other) one)

-- Steps that are allowed in one of two worlds that are the same are allowed in the other, are the same events there, and lead to worlds that are the same.
abbrev pub SameWorldsGoOn : Type 0
SameWorldsGoOn = (p : ℕ) (u v : World) (steps : List Step) → IsReached p u → IsReached p v → IsSameWorld u v → AllAllowed p u steps
    → AllAllowed p v steps × (events_from p u steps ≡ events_from p v steps) × IsSameWorld (world_after p u steps) (world_after p v steps)
