-- A file session, and what it is answered: each line at the names and at the store, with what others did meanwhile.
use Rattle.std.specs.Prelude.{◌≡◌, ◌⊎◌, ℕ, ◌+◌, ◌<◌, ◌≤◌, IfOk, IfErr, ◌==◌, if◌then◌else◌, List, [], ◌++◌, length, map, Bool, true, false, Option, Some, None, Result, Ok, Err}
use Rattle.std.specs.List.{All}
use Rattle.turn_lock.specs.History.{entries_by}
use Rattle.blob_model.specs.History.{AllOther}
use Rattle.blob_model.specs.declared.call.Call.TheVariants as Calls
use Rattle.blob_model.specs.declared.call.Event.{Event}
use Rattle.blob_model.specs.declared.call.Outcome.{Outcome}
use Rattle.blob_model.specs.declared.call.Outcome.TheVariants as Outcomes
use Rattle.blob_model.specs.declared.call.Refusal.{Refusal}
use Rattle.snapshot.specs.Versions.{Version, size_now}
use Rattle.faults.specs.declared.no_memory.NoMemory.{NoMemory}
use Rattle.range_log.specs.Visits.{pages_met}
use Rattle.request_form.specs.Session.{Session, IsNobody, sees, outcome_at}
use Rattle.request_form.specs.Answers.{Gap, Answers, read_fault}
use Rattle.request_form.specs.Replies.{fault_of}
use Rattle.request_form.specs.declared.form.Request.{Request}
use Rattle.request_form.specs.declared.form.Request.TheVariants as Requests
use Rattle.request_form.specs.declared.form.Reply.{Reply}
use Rattle.request_form.specs.declared.form.Reply.TheVariants as Replies
use Rattle.request_form.specs.declared.form.Fault.{Fault}
use Rattle.request_form.specs.declared.form.Fault.TheVariants as Faults
use Rattle.file_names.specs.Paths.{parent_of}
use Rattle.file_names.specs.Tree.{NameLog, Lists, Enters, blob_at, stat_at, enter_fault}
use Rattle.file_names.specs.declared.tree.Named.{Named}
use Rattle.file_names.specs.declared.tree.Named.TheVariants as Nameds
use Rattle.file_names.specs.declared.tree.Stat.{Stat}
use Rattle.file_names.specs.declared.tree.Stat.TheVariants as Stats
use Rattle.file_names.specs.declared.tree.Listed.{Listed}
use Rattle.file_names.specs.declared.tree.EnterFault.{EnterFault}
use Rattle.file_names.specs.declared.tree.EnterFault.TheVariants as EnterFaults
use Rattle.file_names.specs.declared.tree.FindFault.{FindFault}
use Rattle.file_names.specs.declared.tree.FindFault.TheVariants as FindFaults
use Rattle.file_names.specs.declared.tree.ListFault.{ListFault}
use Rattle.file_names.specs.declared.tree.ListFault.TheVariants as ListFaults
use Rattle.file_names.specs.declared.form.FileLine.{FileLine}
use Rattle.file_names.specs.declared.form.FileLine.TheVariants as Lines
use Rattle.file_names.specs.declared.form.FileReply.{FileReply}
use Rattle.file_names.specs.declared.form.FileReply.TheVariants as Says
use Rattle.file_names.specs.declared.form.FileFault.{FileFault}
use Rattle.file_names.specs.declared.form.FileFault.TheVariants as FileFaults
use Rattle.file_names.specs.declared.form.FileHeard.{FileHeard}
use Rattle.file_names.specs.declared.form.FileHeard.TheVariants.{Asked, Wrong}
use Rattle.file_names.specs.declared.form.PageHolders.{PageHolders}

-- a file session: its session of the store, which has so many providers, its caller at the names, and what it has seen of their history
pub record Files : Type 0 where
  pub store : Session
  pub providers : ℕ
  pub by : ℕ
  pub names : NameLog

-- what others may do before the session's next turn at the store, and at the names
pub record Gaps : Type 1 where
  pub store : Gap
  pub names : ℕ → NameLog → Type 0

-- others make events and entries of their own
abbrev pub among_others : Gaps
among_others = record { store = AllOther; names = λ by more. entries_by by more ≡ [] }

-- nobody else is there
abbrev pub nobody : Gaps
nobody = record { store = IsNobody; names = λ by more. more ≡ [] }

abbrev pub with_store : Files → Session → Files
with_store f s = record { store = s; providers = f.providers; by = f.by; names = f.names }

abbrev pub with_names : Files → NameLog → Files
with_names f log = record { store = f.store; providers = f.providers; by = f.by; names = log }

-- ---- what a line does at the names and at the store

-- A look at the names: the session has then seen what others entered.
pub record LooksAtNames (gaps : Gaps) (f seen : Files) : Type 0 where
  pub others : NameLog
  pub is_gap : gaps.names f.by others
  pub is : seen ≡ with_names f (f.names ++ others)

-- A path is entered, behind what others entered, or isn't.
pub record EntersNames (gaps : Gaps) (f : Files) (path : List ℕ) (named : Named) (said : Result (Unit {0}) EnterFault) (f' : Files) : Type 0 where
  pub others : NameLog
  pub is_gap : gaps.names f.by others
  pub after : NameLog
  pub enters : Enters (f.names ++ others) f.by path named said after
  pub is : f' ≡ with_names f after

-- a request of the session's to the store
pub record AsksStore (gaps : Gaps) (f : Files) (request : Request) (told : Reply) (f' : Files) : Type 0 where
  pub after : Session
  pub answers : Answers gaps.store f.store request told after
  pub is : f' ≡ with_store f after

-- ---- what is said

abbrev pub refused : FileFault → FileReply
refused fault = Says.Refused fault

abbrev pub store_fault : Fault → FileReply
store_fault fault = Says.Refused (FileFaults.Store fault)

-- of a path that isn't entered: where the parent is at fault, it is named, and of want of memory nothing is said
abbrev pub enter_refused : List ℕ → EnterFault → FileReply
enter_refused path EnterFaults.NoParent = refused (FileFaults.NoName (parent_of path))
enter_refused path EnterFaults.ParentNotFolder = refused (FileFaults.NotFolder (parent_of path))
enter_refused path EnterFaults.Exists = refused (FileFaults.Exists path)
enter_refused path EnterFaults.TooManyNames = refused FileFaults.TooManyNames
enter_refused path EnterFaults.NoMemory = Says.Unsaid

abbrev pub entered_reply : FileReply → List ℕ → Result (Unit {0}) EnterFault → FileReply
entered_reply reply path (Ok done) = reply
entered_reply reply path (Err fault) = enter_refused path fault

abbrev pub list_reply : List ℕ → Result (List Listed) ListFault → FileReply
list_reply path (Ok listed) = Says.Listed listed
list_reply path (Err ListFaults.NoName) = refused (FileFaults.NoName path)
list_reply path (Err ListFaults.NotFolder) = refused (FileFaults.NotFolder path)
list_reply path (Err ListFaults.NoMemory) = Says.Unsaid

-- of a path that is no file
abbrev pub find_refused : List ℕ → FindFault → FileReply
find_refused path FindFaults.NoName = refused (FileFaults.NoName path)
find_refused path FindFaults.NotFile = refused (FileFaults.NotFile path)

-- what the store's session told of an append, a read or a finish, as it is said of a file
abbrev pub file_reply : Reply → Option FileReply
file_reply (Replies.Appended version at size) = Some (Says.Appended version at size)
file_reply (Replies.AppendStarted ticket version at size) = Some (Says.Started ticket version at size)
file_reply (Replies.Content bytes) = Some (Says.Content bytes)
file_reply (Replies.Finished published) = Some (Says.Finished published)
file_reply (Replies.Refused fault) = Some (store_fault fault)
file_reply _ = None

-- what it told of the last published version of a file's blob
abbrev pub recent_reply : ℕ → Reply → Option FileReply
recent_reply blob (Replies.RecentIs version size) = Some (Says.FileIs blob version size)
recent_reply blob (Replies.Refused fault) = Some (store_fault fault)
recent_reply blob _ = None

-- it is told of a last published version, or refused
abbrev pub is_recent : Reply → Bool
is_recent (Replies.RecentIs version size) = true
is_recent (Replies.Refused fault) = true
is_recent _ = false

-- ---- lines on a file

-- a request to the store, and what is said of what it told
pub record AsksOf (gaps : Gaps) (f : Files) (request : Request) (reply : FileReply) (f' : Files) : Type 0 where
  pub told : Reply
  pub asks : AsksStore gaps f request told f'
  pub says : file_reply told ≡ Some reply

-- where the path names a file, its blob is asked
abbrev pub OnBlob : List ℕ → Files → (ℕ → FileReply → Files → Type 0) → Result ℕ FindFault → FileReply → Files → Type 0
OnBlob path seen Ask (Ok blob) reply f' = Ask blob reply f'
OnBlob path seen Ask (Err fault) reply f' = (reply ≡ find_refused path fault) × (f' ≡ seen)

-- the path is looked up first
pub record OnFile (gaps : Gaps) (f : Files) (path : List ℕ) (Ask : Files → ℕ → FileReply → Files → Type 0) (reply : FileReply) (f' : Files) : Type 0 where
  pub seen : Files
  pub looks : LooksAtNames gaps f seen
  pub goes_on : OnBlob path seen (Ask seen) (blob_at seen.names path) reply f'

-- ---- folders and files that are made

pub record MkdirAnswer (gaps : Gaps) (f : Files) (path : List ℕ) (reply : FileReply) (f' : Files) : Type 0 where
  pub said : Result (Unit {0}) EnterFault
  pub enters : EntersNames gaps f path Nameds.Folder said f'
  pub is : reply ≡ entered_reply (Says.Folder path) path said

-- A blob is created, and the path is entered as a file of this blob. Where another session entered it meanwhile, the blob has no
-- name; nor has it one where no memory was found for it, of which nothing is said, since the blob stays.
pub data MakesFile (gaps : Gaps) (f : Files) (path : List ℕ) (reply : FileReply) (f' : Files) : Type 0 where
  not_created : (fault : Fault) → AsksStore gaps f Requests.Create (Replies.Refused fault) f' → reply ≡ store_fault fault → MakesFile gaps f path reply f'
  created : (mid : Files) (blob : ℕ) (said : Result (Unit {0}) EnterFault) → AsksStore gaps f Requests.Create (Replies.Created blob) mid → EntersNames gaps mid path (Nameds.File blob) said f'
      → reply ≡ entered_reply (Says.File path blob) path said → MakesFile gaps f path reply f'

abbrev pub OnFree : Gaps → List ℕ → Files → Option EnterFault → FileReply → Files → Type 0
OnFree gaps path seen (Some fault) reply f' = (reply ≡ enter_refused path fault) × (f' ≡ seen)
OnFree gaps path seen None reply f' = MakesFile gaps seen path reply f'

-- the names are looked at first
pub record MakeAnswer (gaps : Gaps) (f : Files) (path : List ℕ) (reply : FileReply) (f' : Files) : Type 0 where
  pub seen : Files
  pub looks : LooksAtNames gaps f seen
  pub goes_on : OnFree gaps path seen (enter_fault seen.names path) reply f'

-- ---- looks

abbrev pub OnRecent : Gaps → Files → ℕ → FileReply → Files → Type 0
OnRecent gaps seen blob reply f' = (told : Reply) × AsksStore gaps seen (Requests.Recent blob) told f' × (recent_reply blob told ≡ Some reply)

abbrev pub OnStat : Gaps → List ℕ → Files → Option Stat → FileReply → Files → Type 0
OnStat gaps path seen None reply f' = (reply ≡ refused (FileFaults.NoName path)) × (f' ≡ seen)
OnStat gaps path seen (Some (Stats.Folder entries)) reply f' = (reply ≡ Says.FolderIs entries) × (f' ≡ seen)
OnStat gaps path seen (Some (Stats.File blob)) reply f' = OnRecent gaps seen blob reply f'

pub record StatAnswer (gaps : Gaps) (f : Files) (path : List ℕ) (reply : FileReply) (f' : Files) : Type 0 where
  pub seen : Files
  pub looks : LooksAtNames gaps f seen
  pub goes_on : OnStat gaps path seen (stat_at seen.names path) reply f'

pub record ListAnswer (gaps : Gaps) (f : Files) (path : List ℕ) (reply : FileReply) (f' : Files) : Type 0 where
  pub looks : LooksAtNames gaps f f'
  pub said : Result (List Listed) ListFault
  pub lists : Lists f'.names path said
  pub is : reply ≡ list_reply path said

-- the pages that a range meets: none where it is empty
abbrev pub pages_of : ℕ → ℕ → ℕ → List ℕ
pages_of page offset count = if count == 0 then [] else pages_met page offset count

-- a page lies at 1 to 8 providers, whose numbers are from 1 to the count of providers
pub record LieAt (providers : ℕ) (place : PageHolders) : Type 0 where
  pub some : 1 ≤ length place.providers
  pub few : length place.providers ≤ 8
  pub ours : All (λ number. (1 ≤ number) × (number ≤ providers)) place.providers

-- each page of the range in order, and where it lies, of pages of that size and so many providers
pub record ArePlacesOf (page providers offset count : ℕ) (places : List PageHolders) : Type 0 where
  pub which : map (λ (p : PageHolders). p.page) places ≡ pages_of page offset count
  pub lie : All (LieAt providers) places

abbrev pub ArePlaces : Files → ℕ → ℕ → List PageHolders → Type 0
ArePlaces f offset count places = ArePlacesOf f.store.fixed.page f.providers offset count places

-- what is said of where a range lies, whose read the store would answer so
abbrev pub TellsWhere : Files → ℕ → ℕ → Outcome → FileReply → Type 0
TellsWhere f offset count (Outcomes.Refused refusal) reply = reply ≡ store_fault (fault_of refusal)
TellsWhere f offset count (Outcomes.Content bytes) reply = (places : List PageHolders) × (reply ≡ Says.HeldBy places) × ArePlaces f offset count places
TellsWhere f offset count _ reply = ⊥

-- A version of a blob is looked at: there is one of that size, or it is refused, or no memory was found.
pub record Opens (gaps : Gaps) (f : Files) (blob version : ℕ) (said : Result Version Fault) (f' : Files) : Type 0 where
  pub others : List Event
  pub is_gap : gaps.store f.store.caller others
  pub is : f' ≡ with_store f (sees f.store others)
  pub size : IfOk said (λ v. outcome_at f.store others (Calls.Size blob version) ≡ Outcomes.Size (size_now v))
  pub fault : IfErr said (λ fault. (fault ≡ Faults.NoMemory) ⊎ ((refusal : Refusal) × (outcome_at f.store others (Calls.Size blob version) ≡ Outcomes.Refused refusal) × (fault ≡ fault_of refusal)))

-- what is said of a range of a version of that size
abbrev pub PlacesSaid : Files → ℕ → ℕ → ℕ → Result FileReply NoMemory → Type 0
PlacesSaid f size offset count (Err none) = offset + count ≤ size
PlacesSaid f size offset count (Ok reply) =
    ((size < offset + count) × (reply ≡ store_fault (Faults.RangePastSize (offset + count) size)))
    ⊎ ((offset + count ≤ size) × ((places : List PageHolders) × (reply ≡ Says.HeldBy places) × ArePlaces f offset count places))

-- it is refused as a read is, and asks no door
pub data WhereAnswer (gaps : Gaps) (seen : Files) (blob version offset count : ℕ) (reply : FileReply) (f' : Files) : Type 0 where
  too_long : (fault : Fault) → read_fault count ≡ Some fault → reply ≡ store_fault fault → f' ≡ seen → WhereAnswer gaps seen blob version offset count reply f'
  told : (others : List Event) → gaps.store seen.store.caller others → read_fault count ≡ None → f' ≡ with_store seen (sees seen.store others)
      → TellsWhere seen offset count (outcome_at seen.store others (Calls.Read blob version offset count)) reply → WhereAnswer gaps seen blob version offset count reply f'
  no_memory : (others : List Event) → gaps.store seen.store.caller others → read_fault count ≡ None → f' ≡ with_store seen (sees seen.store others) → reply ≡ store_fault Faults.NoMemory
      → WhereAnswer gaps seen blob version offset count reply f'
  unsaid : (others : List Event) → gaps.store seen.store.caller others → read_fault count ≡ None → f' ≡ with_store seen (sees seen.store others) → reply ≡ Says.Unsaid
      → WhereAnswer gaps seen blob version offset count reply f'

-- ---- all lines

-- A line and its reply take the file session to the next one.
abbrev pub FileAnswers : Gaps → Files → FileLine → FileReply → Files → Type 0
FileAnswers gaps f (Lines.Mkdir path) reply f' = MkdirAnswer gaps f path reply f'
FileAnswers gaps f (Lines.Make path) reply f' = MakeAnswer gaps f path reply f'
FileAnswers gaps f (Lines.Append path bytes) reply f' = OnFile gaps f path (λ seen blob. AsksOf gaps seen (Requests.Append blob bytes)) reply f'
FileAnswers gaps f (Lines.Read path version offset count) reply f' = OnFile gaps f path (λ seen blob. AsksOf gaps seen (Requests.Read blob version offset count)) reply f'
FileAnswers gaps f (Lines.Stat path) reply f' = StatAnswer gaps f path reply f'
FileAnswers gaps f (Lines.List path) reply f' = ListAnswer gaps f path reply f'
FileAnswers gaps f (Lines.Where path version offset count) reply f' = OnFile gaps f path (λ seen blob. WhereAnswer gaps seen blob version offset count) reply f'
FileAnswers gaps f (Lines.Finish ticket) reply f' = AsksOf gaps f (Requests.Finish ticket) reply f'
FileAnswers gaps f Lines.Quit reply f' = (reply ≡ Says.Bye) × (f' ≡ f)

-- one item's reply: where a line is none, the reply is its fault, and the session stays as it is
abbrev pub FileItemReply : Gaps → Files → FileHeard → FileReply → Files → Type 0
FileItemReply gaps f (Asked line) reply f' = FileAnswers gaps f line reply f'
FileItemReply gaps f (Wrong fault) reply f' = (reply ≡ store_fault fault) × (f' ≡ f)
