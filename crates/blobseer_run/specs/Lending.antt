-- The doors that a command has made, and that they come back before it answers.
use Rattle.std.specs.Prelude.{◌≡◌, ◌⊎◌, ℕ, ◌+◌, ◌*◌}
use Rattle.page_store.specs.Calls.{Traffic}
use Rattle.settings.specs.declared.table.Command.{Command}
use Rattle.settings.specs.declared.table.Command.TheVariants as Commands
use Rattle.settings.specs.Values.{SettingsValues}
use Rattle.blobseer_run.specs.Status.{out_of_memory, listener_fault, load_ended_early}

-- between the first state of a maker and the last so many doors were made, and all of them came back
abbrev pub CameBack : {M : Type 0} → (hands_out takes_back : M → M → Type 0) → M → M → ℕ → Type 0
CameBack hands_out takes_back first last doors = Traffic hands_out takes_back doors doors first last

-- What doors were made for a command, by its status, where `Back` tells of a number that so many were made and came back.
pub data Lends (doors : ℕ) (Back : ℕ → Type 0) (status : ℕ) : Type 0 where
  -- as many as its sessions need
  whole : Back doors → Lends doors Back status
  -- it isn't said how many, as no memory was found or a measure ended early
  early : (n : ℕ) → Back n → (status ≡ out_of_memory) ⊎ (status ≡ load_ended_early) → Lends doors Back status
  -- none, as it couldn't listen
  deaf : Back 0 → (status ≡ listener_fault) → Lends doors Back status

-- what doors were made for each command: one to each provider for each session; a watch has those of the writer, the keeper, the first
-- session and the last, and of each reader
abbrev pub LendsBy : Command → SettingsValues → (ℕ → Type 0) → ℕ → Type 0
LendsBy Commands.Run settings Back status = Lends settings.providers Back status
LendsBy Commands.Serve settings Back status = Lends (settings.workers * settings.providers) Back status
LendsBy Commands.Load settings Back status = Lends ((settings.workers + 2) * settings.providers) Back status
LendsBy Commands.Node settings Back status = Back 0
LendsBy Commands.Files settings Back status = Lends settings.providers Back status
LendsBy Commands.Watch settings Back status = Lends ((4 + settings.readers) * settings.providers) Back status
