-- What the command `run` promises: a script is answered by the one session of a new store.
use Rattle.std.specs.Prelude.{◌≡◌, ℕ, ◌+◌, ◌-◌, ◌^◌, ◌<◌, ◌≤◌, false, List}
use Rattle.version_manager.specs.Log.{IsHistory}
use Rattle.request_form.specs.Session.{Fixed}
use Rattle.request_form.specs.Transcript.{SaysAlone, is_last}
use Rattle.request_form.specs.declared.form.Heard.{Heard}
use Rattle.script_text.specs.Lines.{heard}
use Rattle.script_text.specs.Said.{said}
use Rattle.settings.specs.Values.{SettingsValues}
use Rattle.blobseer_run.specs.Legal.{faults_alone}
use Rattle.blobseer_run.specs.Outside.{Outside, LeavesNet}
use Rattle.blobseer_run.specs.Conversation.{Dialogue, Conversed}

-- what the store of these settings keeps to: their limits and their page size
abbrev pub fixed_of : SettingsValues → Fixed
fixed_of settings = record { limits = settings.limits; page = settings.page }

-- no door of that kind has ever failed
abbrev pub IsCalm : {D : Type 0} → (D → ℕ) → Type 0
IsCalm {D} faults = (door : D) → faults door ≡ 0

-- The text is said of a transcript alone of these items, whose history is one of a desk. The outside failed in it at most as often as the count of the doors' faults
-- rose by, and not at all where the doors are calm.
pub record Says (fixed : Fixed) (calm : Type 0) (doors doors' : ℕ) (items : List Heard) (text : List ℕ) : Type 0 where
  pub alone : SaysAlone said fixed items text
  pub history : IsHistory fixed.page fixed.limits alone.last.seen
  pub page_faults : doors' < 2 ^ 64 - 1 → doors + faults_alone fixed items text alone ≤ doors'
  pub no_page_fault : calm → faults_alone fixed items text alone ≡ 0

-- lines, up to a Quit, and the replies of a transcript alone
abbrev pub script : Fixed → Type 0 → ℕ → ℕ → Dialogue Heard
script fixed calm doors doors' = record { heard = heard; is_last = is_last; Says = Says fixed calm doors doors' }

-- A script was answered by a store that keeps to this, and the listener was left alone. Whole lines are those that are ended by a line feed. A script never
-- ends inside a line.
pub record DidRun (fixed : Fixed) (calm : Type 0) (old new : Outside) (status : ℕ) : Type 0 where
  pub served : Conversed (script fixed calm old.doors new.doors) old new status
  pub uncut : (heard served.taken).cut ≡ false
  pub net : LeavesNet old new
