-- What the command `files` promises: lines about folders and files are answered by the one file session of a new store and of new names.
use Rattle.std.specs.Prelude.{◌≡◌, ℕ, ◌+◌, ◌-◌, ◌^◌, ◌<◌, ◌≤◌, false, List, [], flat_map, Option}
use Rattle.items.specs.Rounds.{until_last, Rounds, sum_rounds}
use Rattle.version_manager.specs.Log.{IsHistory}
use Rattle.blob_model.specs.declared.call.Event.{Event}
use Rattle.request_form.specs.Session.{Fixed, AllOwn}
use Rattle.request_form.specs.Transcript.{first_session}
use Rattle.server_core.specs.Conversed.{Input}
use Rattle.server_core.specs.declared.flow.End.{End}
use Rattle.file_names.specs.Tree as Names
use Rattle.file_names.specs.Lines.{heard}
use Rattle.file_names.specs.Said.{said}
use Rattle.file_names.specs.declared.form.FileHeard.{FileHeard}
use Rattle.file_names.specs.declared.form.FileReply.{FileReply}
use Rattle.file_layer.specs.Files.{Files, nobody, FileItemReply}
use Rattle.file_layer.specs.Faults.{file_item_faults}
use Rattle.file_layer.specs.Laws.{AllBy, AnsweredByMap}
use Rattle.file_layer.specs.Served.{FilePoint, ServedFiles, is_last}
use Rattle.blobseer_run.specs.Outside.{Outside, LeavesNet}
use Rattle.blobseer_run.specs.Conversation.{input_limit, Dialogue, Conversed}

-- the first file session of a store that keeps to this and has so many providers, and of names: it has seen no event and no name
abbrev pub first_files : Fixed → ℕ → Files
first_files fixed providers = record { store = first_session fixed 1; providers = providers; by = 1; names = [] }

-- A file session alone answered the items so, up to a last one, from the first one on: as a map from paths to folders and to lists of updates does. The history
-- of the store that it has seen in the end is one of a desk, and that of the names is legal.
pub record AnsweredAlone (fixed : Fixed) (providers : ℕ) (items : List FileHeard) (replies : List FileReply) : Type 0 where
  pub last : Files
  pub rounds : Rounds (FileItemReply nobody) (first_files fixed providers) (until_last is_last items) replies last
  pub by_map : AnsweredByMap (first_files fixed providers) (until_last is_last items) replies
  pub history : IsHistory fixed.page fixed.limits last.store.seen
  pub names_legal : Names.IsLegal last.names

-- how often the outside failed in these answers
abbrev pub faults_alone : (fixed : Fixed) (providers : ℕ) (items : List FileHeard) (replies : List FileReply) → AnsweredAlone fixed providers items replies → ℕ
faults_alone fixed providers items replies alone =
    sum_rounds file_item_faults (FileItemReply nobody) (first_files fixed providers) (until_last is_last items) replies alone.last alone.rounds

-- The text is said of the replies of a file session alone. The outside failed in them at most as often as the count of the doors' faults rose by, and not at
-- all where the doors are calm.
pub record Says (fixed : Fixed) (providers : ℕ) (calm : Type 0) (doors doors' : ℕ) (items : List FileHeard) (text : List ℕ) : Type 0 where
  pub replies : List FileReply
  pub alone : AnsweredAlone fixed providers items replies
  pub says : text ≡ flat_map said replies
  pub page_faults : doors' < 2 ^ 64 - 1 → doors + faults_alone fixed providers items replies alone ≤ doors'
  pub no_page_fault : calm → faults_alone fixed providers items replies alone ≡ 0

-- lines about folders and files, up to a Quit, and the replies of a file session alone
abbrev pub lines : Fixed → ℕ → Type 0 → ℕ → ℕ → Dialogue FileHeard
lines fixed providers calm doors doors' = record { heard = heard; is_last = is_last; Says = Says fixed providers calm doors doors' }

-- Lines were answered over a store that keeps to this and has so many providers, and the listener was left alone. Whole lines are those that are ended by a
-- line feed, and the lines never end inside one.
pub record DidFiles (fixed : Fixed) (providers : ℕ) (calm : Type 0) (old new : Outside) (status : ℕ) : Type 0 where
  pub served : Conversed (lines fixed providers calm old.doors new.doors) old new status
  pub uncut : (heard served.taken).cut ≡ false
  pub net : LeavesNet old new

-- ---- what a file session made of its lines

-- Lines were served from a point on. In the end the session has seen these events of the store and these entries of the names, as the same callers.
pub record ServedLines (old : FilePoint) (before after : Input) (events : List Event) (names : Names.NameLog) (faults : ℕ) (written : Option (List ℕ)) (end : End) : Type 0 where
  pub last : Files
  pub caller : last.store.caller ≡ old.session.store.caller
  pub by : last.by ≡ old.session.by
  pub saw : last.store.seen ≡ events
  pub entered : last.names ≡ names
  pub served : ServedFiles old before after input_limit (record { session = last; faults = faults; written = written }) end

-- They were served with new names, which nobody else entered: what was entered is legal.
pub record ServedNamed (old : FilePoint) (before after : Input) (events : List Event) (faults : ℕ) (written : Option (List ℕ)) (end : End) : Type 0 where
  pub names : Names.NameLog
  pub own : AllBy 1 names
  pub legal : Names.IsLegal names
  pub lines : ServedLines old before after events names faults written end

-- They were served by the first session of a store that keeps to this and has so many providers, with new names, and nobody else was there.
pub record ServedByOne (fixed : Fixed) (providers : ℕ) (before after : Input) (faults faults' : ℕ) (written written' : Option (List ℕ)) (end : End) : Type 0 where
  pub events : List Event
  pub own : AllOwn 1 events
  pub history : IsHistory fixed.page fixed.limits events
  pub named : ServedNamed (record { session = first_files fixed providers; faults = faults; written = written }) before after events faults' written' end
