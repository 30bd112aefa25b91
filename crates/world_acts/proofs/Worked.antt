-- Two worked scripts, computed from the definitions alone: what each step adds to the desk's history, and what is published then.
use Rattle.std.specs.Prelude.{◌≡◌, ℕ, List, [], ◌∷◌, length, map, take, refl}
use Rattle.std.specs.List.{range_with_len}
use Rattle.blob_model.specs.Limits.{greatest}
use Rattle.blob_model.specs.Store.{blob_at}
use Rattle.blob_model.specs.History.{store_of}
use Rattle.blob_model.specs.declared.call.Event.{Event}
use Rattle.blob_model.specs.declared.call.Event.TheVariants as Events
use Rattle.blob_model.specs.declared.call.Place.TheVariants.{Append, WriteAt}
use Rattle.tree_geom.specs.declared.node.NodeKey.{NodeKey}
use Rattle.blob_core.specs.World.{World, empty_world}
use Rattle.blob_core.specs.Steps.{events_from, world_after_by}
use Rattle.blob_core.specs.declared.step.Step.{Step}
use Rattle.blob_core.specs.declared.step.Step.TheVariants as Moves
use Rattle.version_manager.specs.Desks.{published_or_none}

-- the leaf of page 0 of a version of blob 1, in pages of 4 bytes
abbrev leaf : ℕ → NodeKey
leaf version = record { blob = 1; version = version; range = record { offset = 0; size = 4 } }

abbrev history : List Step → List Event
history steps = events_from 4 (empty_world greatest) steps

-- after some steps: how many events the history has, and what is published of blob 1, by the history and by the world at a fold number
pub record Beside : Type 0 where
  pub events : ℕ
  pub by_history : ℕ
  pub by_world : ℕ

abbrev world_by : ℕ → List Step → World
world_by fold steps = world_after_by fold 4 (empty_world greatest) steps

abbrev beside : ℕ → List Step → Beside
beside fold steps = record {
  events = length (history steps);
  by_history = published_or_none (blob_at (store_of greatest (history steps)) 1);
  by_world = published_or_none (blob_at (world_by fold steps).store 1);
}

abbrev row : ℕ → ℕ → Beside
row events published = record { events = events; by_history = published; by_world = published }

abbrev table : ℕ → List Step → List Beside
table fold steps = map (λ n. beside fold (take n steps)) (range_with_len 1 (length steps))

-- ---- two appends, of which the second is finished first
abbrev other_order : List Step
other_order =
    Moves.Create 1 ∷ Moves.PagePut 1 (170 ∷ []) ∷ Moves.PagePut 2 (187 ∷ []) ∷ Moves.Assign 1 1 Append (1 ∷ []) ∷ Moves.Assign 2 1 Append (2 ∷ [])
    ∷ Moves.NodePut (leaf 2) ∷ Moves.Finish 2 1 2 ∷ Moves.NodePut (leaf 1) ∷ Moves.Finish 1 1 1 ∷ Moves.Read 1 2 0 2 ∷ []

their_history : history other_order
    ≡ Events.Create 1 ∷ Events.Assign 1 1 Append (170 ∷ []) ∷ Events.Assign 2 1 Append (187 ∷ []) ∷ Events.Finish 2 1 2 ∷ Events.Finish 1 1 1 ∷ []
their_history = refl

step_by_step : table 16 other_order ≡ row 1 0 ∷ row 1 0 ∷ row 1 0 ∷ row 2 0 ∷ row 3 0 ∷ row 3 0 ∷ row 4 0 ∷ row 4 0 ∷ row 5 2 ∷ row 5 2 ∷ []
step_by_step = refl

-- ---- over a fold number of 2: four bytes, two over the middle, and two over the end, which stores the page anew once version 2 is published
abbrev with_fold : List Step
with_fold =
    Moves.Create 1 ∷ Moves.PagePut 1 (1 ∷ 2 ∷ 3 ∷ 4 ∷ []) ∷ Moves.PagePut 2 (5 ∷ 6 ∷ []) ∷ Moves.PagePut 3 (7 ∷ 8 ∷ [])
    ∷ Moves.Assign 1 1 Append (1 ∷ []) ∷ Moves.Assign 2 1 (WriteAt 1) (2 ∷ []) ∷ Moves.Assign 3 1 (WriteAt 2) (3 ∷ [])
    ∷ Moves.NodePut (leaf 1) ∷ Moves.Finish 1 1 1 ∷ Moves.NodePut (leaf 2) ∷ Moves.Finish 2 1 2
    ∷ Moves.FoldPut 1 3 0 ∷ Moves.NodePut (leaf 3) ∷ Moves.Finish 3 1 3 ∷ []

fold_by_step : table 2 with_fold
    ≡ row 1 0 ∷ row 1 0 ∷ row 1 0 ∷ row 1 0 ∷ row 2 0 ∷ row 3 0 ∷ row 4 0 ∷ row 4 0 ∷ row 5 1 ∷ row 5 1 ∷ row 6 2 ∷ row 6 2 ∷ row 6 2 ∷ row 7 3 ∷ []
fold_by_step = refl
