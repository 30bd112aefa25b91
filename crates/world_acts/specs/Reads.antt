-- Which step a read is: its turn, after which it walks.
use Rattle.std.specs.Prelude.{◌≡◌, ℕ, ◌+◌, ◌++◌, ◌≤◌, List, Some, Ok}
use Rattle.blob_model.specs.Store.{Blob, blob_at}
use Rattle.blob_model.specs.declared.call.Event.{Event}
use Rattle.snapshot.specs.Versions.{Version, size_now}
use Rattle.range_reader.specs.Reading.{bytes_at, bound}
use Rattle.blob_core.specs.World.{World}
use Rattle.blob_core.specs.Walk.{read_walk}
use Rattle.blob_core.specs.declared.step.Step.TheVariants as Moves
use Rattle.version_manager.specs.Log.{Opened}
use Rattle.version_manager.specs.declared.journal.DeskFixed.{DeskFixed}
use Rattle.world_acts.specs.Worlds.{IsWorldOf, IsStep}

-- the turn that opens a version is the step of each read of bytes that the version has
abbrev pub ReadsAreSteps : Type 0
ReadsAreSteps = (f : DeskFixed) (before now : List (ℕ × Event)) (w : World) (caller blob version offset count : ℕ) (s : Version) → IsWorldOf f before w
    → Opened f blob version before caller (Ok s) now → offset + count ≤ size_now s → IsStep f w (Moves.Read blob version offset count) now

-- The walk comes later, and what happens between changes nothing: in each world of a longer history the world's own walk brings the bytes that
-- `range_reader::read` gives of the snapshot, through no more nodes than are the bound that it keeps.
abbrev pub WalksAgree : Type 0
WalksAgree = (f : DeskFixed) (before now more : List (ℕ × Event)) (w : World) (caller blob version offset count : ℕ) (s : Version) (b : Blob)
    → Opened f blob version before caller (Ok s) now → offset + count ≤ size_now s → IsWorldOf f (now ++ more) w → blob_at w.store blob ≡ Some b
    → ((read_walk f.page_size w blob b version offset count).bytes ≡ bytes_at s offset count)
    × ((read_walk f.page_size w blob b version offset count).nodes ≤ bound s offset count)
