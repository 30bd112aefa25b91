-- What a run promises: from the words and the bytes that came in to the bytes that went out.
use Rattle.std.specs.Prelude.{◌≡◌, ◌≢◌, ◌↔◌, ℕ, Bool, true, false, List, None}
use Rattle.faults.specs.Counts.{RoseBy}
use Rattle.ports.specs.Files.{Files}
use Rattle.request_form.specs.Session.{Fixed}
use Rattle.settings.specs.declared.table.Command.{Command}
use Rattle.settings.specs.declared.table.Command.TheVariants as Commands
use Rattle.settings.specs.Values.{SettingsValues}
use Rattle.settings.specs.Words.{Bytes}
use Rattle.blobseer_run.specs.Outside.{Outside, Rises}
use Rattle.blobseer_run.specs.Lending.{LendsBy}
use Rattle.blobseer_run.specs.Script.{fixed_of, DidRun}
use Rattle.blobseer_run.specs.Node.{DidNode}
use Rattle.blobseer_run.specs.Filing.{DidFiles}
use Rattle.blobseer_run.specs.Hosting.{DidServe}
use Rattle.blobseer_run.specs.Loading as loading
use Rattle.blobseer_run.specs.Watching as watching
use Rattle.blobseer_run.specs.Told.{order_of_words, AsksFor, Settled, SettingsRefused, IsFileKnown, Stopped}
use Rattle.blobseer_run.specs.Status.{done, words_refused, settings_refused, out_of_memory, input_too_long, load_ended_early}

-- what the command did with its settings, where that is told of peers that a store served
abbrev pub Did : Command → SettingsValues → Type 0 → (Fixed → ℕ → Type 0) → Outside → Outside → ℕ → Type 0
Did Commands.Run settings calm Serves old new status = DidRun (fixed_of settings) calm old new status
Did Commands.Serve settings calm Serves old new status = DidServe settings.listen settings.connections (Serves (fixed_of settings)) old new status
Did Commands.Load settings calm Serves old new status = loading.DidLoad settings.page (loading.plan_of settings) old new status
Did Commands.Node settings calm Serves old new status = DidNode settings.page old new status
Did Commands.Files settings calm Serves old new status = DidFiles (fixed_of settings) settings.providers calm old new status
Did Commands.Watch settings calm Serves old new status = watching.DidWatch settings.page (watching.plan_of settings) old new status

-- the command answers what comes in
abbrev pub answers_input : Command → Bool
answers_input Commands.Run = true
answers_input Commands.Serve = false
answers_input Commands.Load = false
answers_input Commands.Node = true
answers_input Commands.Files = true
answers_input Commands.Watch = false

-- the command measures the store
abbrev pub measures : Command → Bool
measures Commands.Run = false
measures Commands.Serve = false
measures Commands.Load = true
measures Commands.Node = false
measures Commands.Files = false
measures Commands.Watch = true

-- A run was stopped before its command did anything, or the command did its work, and the doors that were made for it came back. The files are read before it.
pub data Ran (words : List Bytes) (known : Files) (calm : Type 0) (Serves : Fixed → ℕ → Type 0) (Back : ℕ → Type 0) (files files' : ℕ) (old new : Outside) (status : ℕ) : Type 0 where
  -- nothing was taken off the input or put on the output, the listener was left alone, no door was made, and no count rose but that of the files
  stopped : Stopped words known files files' status → (new ≡ old) → Back 0 → Ran words known calm Serves Back files files' old new status
  did : (command : Command) → (settings : SettingsValues) → Settled words known command settings → Did command settings calm Serves old new status → LendsBy command settings Back status →
      Ran words known calm Serves Back files files' old new status

-- ---- what follows for a status

-- where memory is found, the words are refused exactly where the definition refuses them
abbrev pub RefusesWords : List Bytes → ℕ → Type 0
RefusesWords words status = (status ≢ out_of_memory) → (status ≡ words_refused) ↔ (order_of_words words ≡ None)

-- Where memory is found and the file is read, the settings are refused exactly where the definition refuses them.
abbrev pub RefusesSettings : List Bytes → Files → ℕ → ℕ → ℕ → Type 0
RefusesSettings words known files files' status =
    IsFileKnown words known → ¬ RoseBy 1 files files' → status ≢ out_of_memory → (status ≡ settings_refused) ↔ SettingsRefused words known

-- the words and the settings are taken
abbrev pub IsTaken : List Bytes → Files → Type 0
IsTaken words known = (order_of_words words ≢ None) × (¬ SettingsRefused words known)

-- How a run ends where the words and the settings are taken, and no count of the script, the output, the listener and the files rose; with the doors' count
-- before and after. Only a command that answers its input finds it too long, and only a measure ends early, and then the doors' count rose.
pub data IsComplete (words : List Bytes) (doors doors' status : ℕ) : Type 0 where
  ended : (status ≡ done) → IsComplete words doors doors' status
  starved : (status ≡ out_of_memory) → IsComplete words doors doors' status
  too_long : (status ≡ input_too_long) → (command : Command) → AsksFor words command → (answers_input command ≡ true) → IsComplete words doors doors' status
  early : (status ≡ load_ended_early) → (command : Command) → AsksFor words command → (measures command ≡ true) → Rises doors doors' → IsComplete words doors doors' status
