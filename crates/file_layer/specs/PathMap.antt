-- One stream alone, told without a history and without a store: a map from paths to folders and to files, each file a list of updates.
use Rattle.std.specs.Prelude.{◌≡◌, ◌≢◌, ◌⊎◌, ℕ, ◌+◌, ◌-◌, ◌*◌, ◌<◌, ◌≤◌, nat_lt, nat_le, ◌==◌, Bool, true, false, if◌then◌else◌, List, [], ◌∷◌, ◌++◌, length, map, Option, Some, None, Contains}
use Rattle.std.specs.List.{count_by, All}
use Rattle.std.specs.List.Sorted.{IsStrictlySortedBy}
use Rattle.std.specs.Option.{option_map}
use Rattle.std.specs.Ordering.{nat_cmp}
use Rattle.std.specs.Cmp.Lexicographic.{slice_cmp}
use Rattle.std.specs.Str.{bytes_eq}
use Rattle.range_log.specs.Updates.{extents}
use Rattle.range_log.specs.Rows.{folds_of}
use Rattle.blob_model.specs.Content.{size_of}
use Rattle.blob_model.specs.Store.{Store, Blob, empty_store, assigned, published, held, size_now, is_finished, and_update, finish}
use Rattle.blob_model.specs.Answer.{first_refusal, not_published, range_past_size, blob_too_big, too_many_versions, too_many_open, bytes_of}
use Rattle.blob_model.specs.declared.call.Place.TheVariants.{Append}
use Rattle.blob_model.specs.declared.call.Refusal.{Refusal}
use Rattle.request_form.specs.Session.{Fixed}
use Rattle.request_form.specs.Answers.{read_fault, max_update, max_tickets}
use Rattle.request_form.specs.Replies.{fault_of}
use Rattle.request_form.specs.declared.form.Fault.{Fault}
use Rattle.request_form.specs.declared.form.Fault.TheVariants as Faults
use Rattle.file_names.specs.Paths.{is_root, is_name, parent_of, child_of}
use Rattle.file_names.specs.Tree.{most_names, listed_as}
use Rattle.file_names.specs.declared.tree.Listed.{Listed}
use Rattle.file_names.specs.declared.tree.EnterFault.{EnterFault}
use Rattle.file_names.specs.declared.tree.EnterFault.TheVariants as EnterFaults
use Rattle.file_names.specs.declared.form.FileLine.{FileLine}
use Rattle.file_names.specs.declared.form.FileLine.TheVariants as Lines
use Rattle.file_names.specs.declared.form.FileReply.{FileReply}
use Rattle.file_names.specs.declared.form.FileReply.TheVariants as Says
use Rattle.file_names.specs.declared.form.FileFault.TheVariants as FileFaults
use Rattle.file_names.specs.declared.form.FileHeard.{FileHeard}
use Rattle.file_names.specs.declared.form.FileHeard.TheVariants.{Asked, Wrong}
use Rattle.file_names.specs.declared.form.PageHolders.{PageHolders}
use Rattle.file_layer.specs.Files.{store_fault, enter_refused, ArePlacesOf}

-- what a path is: a folder, or a file, with the number of its blob, its updates, and which of them are finished
pub data Thing : Type 0 where
  folder : Thing
  file : (blob : ℕ) → (content : Blob) → Thing

-- an append that is numbered and not yet finished: its ticket, its file, and its version
pub record HeldAppend : Type 0 where
  pub ticket : ℕ
  pub path : List ℕ
  pub version : ℕ

-- The map beside `/`, the oldest path first; how many blobs were created, with a name or without; the appends that are held, and the number of the next
-- ticket. How much the store takes and its page size, its count of providers, and who asks it, never change.
pub record PathMap : Type 0 where
  pub fixed : Fixed
  pub providers : ℕ
  pub caller : ℕ
  pub things : List (List ℕ × Thing)
  pub blobs : ℕ
  pub held : List HeldAppend
  pub next : ℕ

-- with `/` alone
abbrev pub new_map : Fixed → ℕ → ℕ → PathMap
new_map fixed providers caller = record { fixed = fixed; providers = providers; caller = caller; things = []; blobs = 0; held = []; next = 1 }

-- ---- what is there

abbrev pub thing_in : List (List ℕ × Thing) → List ℕ → Option Thing
thing_in [] path = None
thing_in (t ∷ ts) path = if bytes_eq t.0 path then Some t.1 else thing_in ts path

-- what a path is, if it is there: `/` is a folder from the first
abbrev pub thing_at : List (List ℕ × Thing) → List ℕ → Option Thing
thing_at things path = if is_root path then Some Thing.folder else thing_in things path

-- how many paths have that one as their parent
abbrev pub entries_of : PathMap → List ℕ → ℕ
entries_of m path = count_by (λ (t : List ℕ × Thing). bytes_eq (parent_of t.0) path) m.things

abbrev pub is_folder : Thing → Bool
is_folder Thing.folder = true
is_folder (Thing.file blob b) = false

-- the append that is held under that ticket
abbrev pub held_in : List HeldAppend → ℕ → Option HeldAppend
held_in [] ticket = None
held_in (h ∷ hs) ticket = if h.ticket == ticket then Some h else held_in hs ticket

-- ---- what changes

abbrev pub with_content : Thing → Blob → Thing
with_content Thing.folder b = Thing.folder
with_content (Thing.file blob old) b = Thing.file blob b

abbrev pub put_in : List (List ℕ × Thing) → List ℕ → Blob → List (List ℕ × Thing)
put_in [] path b = []
put_in (t ∷ ts) path b = if bytes_eq t.0 path then (t.0, with_content t.1 b) ∷ ts else t ∷ put_in ts path b

abbrev pub without_held : List HeldAppend → ℕ → List HeldAppend
without_held [] ticket = []
without_held (h ∷ hs) ticket = if h.ticket == ticket then hs else h ∷ without_held hs ticket

-- one path more
abbrev pub and_thing : PathMap → List ℕ → Thing → PathMap
and_thing m path thing = record m { things = m.things ++ (path, thing) ∷ [] }

-- one blob more
abbrev pub and_blob : PathMap → PathMap
and_blob m = record m { blobs = m.blobs + 1 }

-- the file at that path with these updates, and every other path as it was
abbrev pub puts : PathMap → List ℕ → Blob → PathMap
puts m path b = record m { things = put_in m.things path b }

-- the version of that file is held under the next ticket
abbrev pub and_held : PathMap → List ℕ → ℕ → PathMap
and_held m path version = record m { held = m.held ++ record { ticket = m.next; path = path; version = version } ∷ []; next = m.next + 1 }

abbrev pub and_dropped : PathMap → ℕ → PathMap
and_dropped m ticket = record m { held = without_held m.held ticket }

-- ---- why it isn't done

-- why a path can't be entered, its parent being this
abbrev pub fault_below : Option Thing → PathMap → List ℕ → Option EnterFault
fault_below None m path = Some EnterFaults.NoParent
fault_below (Some (Thing.file blob b)) m path = Some EnterFaults.ParentNotFolder
fault_below (Some Thing.folder) m path =
    elim (thing_at m.things path) [
      | Some thing ↦ Some EnterFaults.Exists
      | None ↦ if nat_le most_names (length m.things) then Some EnterFaults.TooManyNames else None
    ]

-- why a path can't be entered, if it can't
abbrev pub new_fault : PathMap → List ℕ → Option EnterFault
new_fault m path = if is_root path then Some EnterFaults.Exists else fault_below (thing_at m.things (parent_of path)) m path

-- why bytes can't be appended to any file
abbrev pub bytes_fault : PathMap → List ℕ → Option Fault
bytes_fault m bytes =
    if length bytes == 0 then Some Faults.EmptyUpdate
    else (if nat_lt max_update (length bytes) then Some (Faults.UpdateTooLong (length bytes))
    else (if length m.held == max_tickets then Some Faults.TooManyTickets else None))

-- a store that takes as much
abbrev pub as_large : PathMap → Store
as_large m = empty_store m.fixed.limits

-- why bytes can't be appended to a file: the first of these reasons
abbrev pub append_refusal : PathMap → Blob → List ℕ → Option Refusal
append_refusal m b bytes = first_refusal (blob_too_big (as_large m) b Append bytes ∷ too_many_versions (as_large m) b ∷ too_many_open (as_large m) b ∷ [])

-- why a range of a version of a file can't be read: the first of these reasons
abbrev pub read_refusal : Blob → ℕ → ℕ → ℕ → Option Refusal
read_refusal b version offset count = first_refusal (not_published b version ∷ range_past_size b version offset count ∷ [])

-- ---- what is said

-- want of memory of which nothing is said
abbrev pub SaysNothing : PathMap → FileReply → PathMap → Type 0
SaysNothing m reply m' = (reply ≡ Says.Unsaid) × (m' ≡ m)

-- a fault that leaves all as it was
abbrev pub SaysFault : PathMap → Fault → FileReply → PathMap → Type 0
SaysFault m fault reply m' = (reply ≡ store_fault fault) × (m' ≡ m)

abbrev pub UnlessFault : Option Fault → PathMap → FileReply → PathMap → Type 0 → Type 0
UnlessFault (Some fault) m reply m' Answer = SaysFault m fault reply m'
UnlessFault None m reply m' Answer = Answer

-- a new folder, or why there is none
abbrev pub FolderSays : PathMap → List ℕ → Option EnterFault → FileReply → PathMap → Type 0
FolderSays m path (Some fault) reply m' = (reply ≡ enter_refused path fault) × (m' ≡ m)
FolderSays m path None reply m' = (reply ≡ Says.Folder path) × (m' ≡ and_thing m path Thing.folder)

-- a file without updates
abbrev pub new_file : ℕ → Thing
new_file blob = Thing.file blob (record { updates = []; finished = [] })

-- A new file is the next blob's. Where no memory is found for its name, the blob has none, and nothing is said.
pub data FileSays (m : PathMap) (path : List ℕ) (reply : FileReply) (m' : PathMap) : Type 0 where
  made : m.blobs ≢ m.fixed.limits.max_blobs → reply ≡ Says.File path (m.blobs + 1) → m' ≡ and_thing (and_blob m) path (new_file (m.blobs + 1)) → FileSays m path reply m'
  refused : m.blobs ≡ m.fixed.limits.max_blobs → SaysFault m (Faults.TooManyBlobs m.fixed.limits.max_blobs) reply m' → FileSays m path reply m'
  out_of_memory : SaysFault m Faults.NoMemory reply m' → FileSays m path reply m'
  unnamed : m.blobs ≢ m.fixed.limits.max_blobs → SaysNothing (and_blob m) reply m' → FileSays m path reply m'

abbrev pub MakeSays : PathMap → List ℕ → Option EnterFault → FileReply → PathMap → Type 0
MakeSays m path (Some fault) reply m' = (reply ≡ enter_refused path fault) × (m' ≡ m)
MakeSays m path None reply m' = FileSays m path reply m'

-- a file with one append more, which is its next version
abbrev pub appended : PathMap → Blob → List ℕ → Blob
appended m b bytes = and_update b (record { caller = m.caller; place = Append; bytes = bytes })

-- An append is finished at once. It is held where it stores pages of the file anew, which couldn't be read or stored, and where no memory is found behind its
-- numbering. Or the file takes it not, or no provider took a page of its bytes, or no memory is found.
pub data AppendSays (m : PathMap) (path : List ℕ) (b : Blob) (bytes : List ℕ) (reply : FileReply) (m' : PathMap) : Type 0 where
  done : append_refusal m b bytes ≡ None → reply ≡ Says.Appended (assigned b + 1) (size_now b) (size_now b + length bytes) → m' ≡ puts m path (finish (appended m b bytes) (assigned b + 1))
      → AppendSays m path b bytes reply m'
  held_back : append_refusal m b bytes ≡ None → folds_of m.fixed.page (extents (appended m b bytes).updates) (assigned b + 1) ≢ []
      → reply ≡ Says.Started m.next (assigned b + 1) (size_now b) (size_now b + length bytes) → m' ≡ and_held (puts m path (appended m b bytes)) path (assigned b + 1)
      → AppendSays m path b bytes reply m'
  kept : append_refusal m b bytes ≡ None → reply ≡ store_fault (Faults.NoMemoryTicket m.next) → m' ≡ and_held (puts m path (appended m b bytes)) path (assigned b + 1)
      → AppendSays m path b bytes reply m'
  refused : (refusal : Refusal) → append_refusal m b bytes ≡ Some refusal → SaysFault m (fault_of refusal) reply m' → AppendSays m path b bytes reply m'
  not_stored : (page : ℕ) → m.fixed.page * page < length bytes → SaysFault m (Faults.PageFault page) reply m' → AppendSays m path b bytes reply m'
  out_of_memory : SaysFault m Faults.NoMemory reply m' → AppendSays m path b bytes reply m'

-- a range of a version: its bytes, or why it can't be read, or that no provider gave a page that it meets, or that no memory is found
pub data ReadSays (m : PathMap) (b : Blob) (version offset count : ℕ) (reply : FileReply) : Type 0 where
  given : read_refusal b version offset count ≡ None → reply ≡ Says.Content (bytes_of b version offset count) → ReadSays m b version offset count reply
  refused : (refusal : Refusal) → read_refusal b version offset count ≡ Some refusal → reply ≡ store_fault (fault_of refusal) → ReadSays m b version offset count reply
  not_read : read_refusal b version offset count ≡ None → 0 < length (bytes_of b version offset count) → (page : ℕ) → m.fixed.page * page < offset + count
      → offset < m.fixed.page * (page + 1) → reply ≡ store_fault (Faults.PageFault page) → ReadSays m b version offset count reply
  out_of_memory : reply ≡ store_fault Faults.NoMemory → ReadSays m b version offset count reply

-- where a range of a version lies
pub data WhereSays (m : PathMap) (b : Blob) (version offset count : ℕ) (reply : FileReply) : Type 0 where
  places : read_refusal b version offset count ≡ None → (places : List PageHolders) → reply ≡ Says.HeldBy places → ArePlacesOf m.fixed.page m.providers offset count places
      → WhereSays m b version offset count reply
  refused : (refusal : Refusal) → read_refusal b version offset count ≡ Some refusal → reply ≡ store_fault (fault_of refusal) → WhereSays m b version offset count reply
  out_of_memory : reply ≡ store_fault Faults.NoMemory → WhereSays m b version offset count reply
  unsaid : reply ≡ Says.Unsaid → WhereSays m b version offset count reply

-- the pages of a file that the update of that number stores anew
abbrev pub folds_at : PathMap → Blob → ℕ → List ℕ
folds_at m b version = folds_of m.fixed.page (extents b.updates) version

-- A held append is finished, or was before. It stays held while it stores pages of the file anew and the version before it isn't published, or where no
-- provider gives, or takes, such a page, or no memory is found.
pub data FinishSays (m : PathMap) (h : HeldAppend) (b : Blob) (reply : FileReply) (m' : PathMap) : Type 0 where
  done : is_finished b h.version ≡ false → reply ≡ Says.Finished (published (finish b h.version)) → m' ≡ and_dropped (puts m h.path (finish b h.version)) h.ticket → FinishSays m h b reply m'
  found_finished : is_finished b h.version ≡ true → reply ≡ store_fault (Faults.Already h.version) → m' ≡ and_dropped m h.ticket → FinishSays m h b reply m'
  waits : is_finished b h.version ≡ false → folds_at m b h.version ≢ [] → published b < h.version - 1 → SaysFault m (Faults.Pending (h.version - 1) (held b)) reply m' → FinishSays m h b reply m'
  not_folded : is_finished b h.version ≡ false → (page : ℕ) → Contains (folds_at m b h.version) page → h.version - 1 ≤ published b → SaysFault m (Faults.PageFault page) reply m'
      → FinishSays m h b reply m'
  out_of_memory : SaysFault m Faults.NoMemory reply m' → FinishSays m h b reply m'

-- an append that is held is one of a file
abbrev pub HeldSays : PathMap → HeldAppend → Option Thing → FileReply → PathMap → Type 0
HeldSays m h None reply m' = ⊥
HeldSays m h (Some Thing.folder) reply m' = ⊥
HeldSays m h (Some (Thing.file blob b)) reply m' = FinishSays m h b reply m'

abbrev pub TicketSays : PathMap → ℕ → Option HeldAppend → FileReply → PathMap → Type 0
TicketSays m ticket None reply m' = SaysFault m (Faults.NoTicket ticket) reply m'
TicketSays m ticket (Some h) reply m' = HeldSays m h (thing_at m.things h.path) reply m'

-- where the path is a file, it is asked
abbrev pub AtFile : PathMap → List ℕ → (Blob → FileReply → PathMap → Type 0) → Option Thing → FileReply → PathMap → Type 0
AtFile m path Asks None reply m' = (reply ≡ Says.Refused (FileFaults.NoName path)) × (m' ≡ m)
AtFile m path Asks (Some Thing.folder) reply m' = (reply ≡ Says.Refused (FileFaults.NotFile path)) × (m' ≡ m)
AtFile m path Asks (Some (Thing.file blob b)) reply m' = Asks b reply m'

abbrev pub stat_reply : PathMap → List ℕ → Option Thing → FileReply
stat_reply m path None = Says.Refused (FileFaults.NoName path)
stat_reply m path (Some Thing.folder) = Says.FolderIs (entries_of m path)
stat_reply m path (Some (Thing.file blob b)) = Says.FileIs blob (published b) (size_of b.updates (published b))

-- names in the order of their bytes, each once, and exactly those that are there with the folder before them, and which of them are folders
pub record AreIn (m : PathMap) (path : List ℕ) (listed : List Listed) : Type 0 where
  pub in_order : IsStrictlySortedBy (slice_cmp nat_cmp) (map (λ (l : Listed). l.name) listed)
  pub names : All (λ (l : Listed). is_name l.name ≡ true) listed
  pub exactly : (name : List ℕ) → is_name name ≡ true → listed_as listed name ≡ option_map is_folder (thing_at m.things (child_of path name))

-- what is right in a folder
abbrev pub ListSays : PathMap → List ℕ → Option Thing → FileReply → Type 0
ListSays m path None reply = reply ≡ Says.Refused (FileFaults.NoName path)
ListSays m path (Some (Thing.file blob b)) reply = reply ≡ Says.Refused (FileFaults.NotFolder path)
ListSays m path (Some Thing.folder) reply = (listed : List Listed) × (reply ≡ Says.Listed listed) × AreIn m path listed

-- ---- all lines

-- A line and its reply take the map to the next one.
abbrev pub MapAnswers : PathMap → FileLine → FileReply → PathMap → Type 0
MapAnswers m (Lines.Mkdir path) reply m' = FolderSays m path (new_fault m path) reply m' ⊎ SaysNothing m reply m'
MapAnswers m (Lines.Make path) reply m' = MakeSays m path (new_fault m path) reply m'
MapAnswers m (Lines.Append path bytes) reply m' = AtFile m path (λ b reply m'. UnlessFault (bytes_fault m bytes) m reply m' (AppendSays m path b bytes reply m')) (thing_at m.things path) reply m'
MapAnswers m (Lines.Read path version offset count) reply m' =
    AtFile m path (λ b reply m'. UnlessFault (read_fault count) m reply m' (ReadSays m b version offset count reply × (m' ≡ m))) (thing_at m.things path) reply m'
MapAnswers m (Lines.Stat path) reply m' = (reply ≡ stat_reply m path (thing_at m.things path)) × (m' ≡ m)
MapAnswers m (Lines.List path) reply m' = (ListSays m path (thing_at m.things path) reply × (m' ≡ m)) ⊎ SaysNothing m reply m'
MapAnswers m (Lines.Where path version offset count) reply m' =
    AtFile m path (λ b reply m'. UnlessFault (read_fault count) m reply m' (WhereSays m b version offset count reply × (m' ≡ m))) (thing_at m.things path) reply m'
MapAnswers m (Lines.Finish ticket) reply m' = TicketSays m ticket (held_in m.held ticket) reply m'
MapAnswers m Lines.Quit reply m' = (reply ≡ Says.Bye) × (m' ≡ m)

-- one item's reply: a line that is none is malformed, and changes nothing
abbrev pub MapItemReply : PathMap → FileHeard → FileReply → PathMap → Type 0
MapItemReply m (Asked line) reply m' = MapAnswers m line reply m'
MapItemReply m (Wrong fault) reply m' = (fault ≡ Faults.Malformed) × SaysFault m Faults.Malformed reply m'
