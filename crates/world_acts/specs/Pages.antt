-- Pages that doors stored, as pages of a world.
use Rattle.std.specs.Prelude.{◌≡◌, ℕ, ◌≤◌, List, [], ◌∷◌, length, None, Some}
use Rattle.blob_model.specs.declared.call.Event.{Event}
use Rattle.page_store.specs.Stored.{Stored}
use Rattle.blob_core.specs.World.{World, page_at}
use Rattle.blob_core.specs.Steps.{after}
use Rattle.blob_core.specs.declared.step.Step.TheVariants as Moves
use Rattle.version_manager.specs.declared.journal.DeskFixed.{DeskFixed}
use Rattle.world_acts.specs.Worlds.{IsWorldOf, IsStep}

-- These numbers of the world's pages are one for each of these stored pages, in order, and each has that page's bytes. However many
-- replicas a stored page has, it is one page of the world.
abbrev pub AreThePages : List (ℕ × List ℕ) → List ℕ → List Stored → Type 0
AreThePages stored [] [] = Unit {0}
AreThePages stored [] (page ∷ pages) = ⊥
AreThePages stored (number ∷ numbers) [] = ⊥
AreThePages stored (number ∷ numbers) (page ∷ pages) = (page_at stored number ≡ Some page.bytes) × AreThePages stored numbers pages

-- One put through a door that stored these bytes is a step, under whichever number is new, and then the page is there.
abbrev pub PagePutsAreSteps : Type 0
PagePutsAreSteps = (f : DeskFixed) (history : List (ℕ × Event)) (w : World) (page : ℕ) (bytes : List ℕ) → IsWorldOf f history w
    → page_at w.pages page ≡ None → 1 ≤ length bytes → length bytes ≤ f.page_size
    → IsStep f w (Moves.PagePut page bytes) history
    × (page_at (after f.page_size w (Moves.PagePut page bytes)).pages page ≡ Some bytes)

-- there is always a number that is new
abbrev pub NumbersGoOn : Type 0
NumbersGoOn = (w : World) → (page : ℕ) × (page_at w.pages page ≡ None)
