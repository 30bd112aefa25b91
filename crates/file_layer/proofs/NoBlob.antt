-- No answer of a map of paths is that a blob isn't there.
use Rattle.std.proofs.Common.{◌≡◌, inl, inr, ℕ, ◌+◌, Bool, true, false, List, [], ◌∷◌, length, Option, Some, None, All, sym, subst, ◌∙◌}
use Rattle.std.specs.Prelude.{◌==◌, nat_lt, if◌then◌else◌}
use Rattle.std.proofs.lemmas.Option.{none-some, same_Some}
use Rattle.std.proofs.lemmas.List.Elements.{All-cons, All-nil}
use Rattle.items.specs.Rounds.{Rounds}
use Rattle.blob_model.specs.Store.{Blob, assigned, published, size_with, waiting}
use Rattle.blob_model.specs.Content.{size_of}
use Rattle.blob_model.specs.declared.call.Place.TheVariants.{Append}
use Rattle.blob_model.specs.declared.call.Refusal.{Refusal}
use Rattle.blob_model.specs.declared.call.Refusal.TheVariants as Refusals
use Rattle.request_form.specs.Answers.{read_fault, max_read, max_update, max_tickets}
use Rattle.request_form.specs.Replies.{fault_of}
use Rattle.request_form.specs.declared.form.Fault.{Fault}
use Rattle.request_form.specs.declared.form.Fault.TheVariants as Faults
use Rattle.file_names.specs.declared.tree.EnterFault.{EnterFault}
use Rattle.file_names.specs.declared.tree.EnterFault.TheVariants as EnterFaults
use Rattle.file_names.specs.declared.form.FileLine.{FileLine}
use Rattle.file_names.specs.declared.form.FileLine.TheVariants as Lines
use Rattle.file_names.specs.declared.form.FileReply.{FileReply}
use Rattle.file_names.specs.declared.form.FileHeard.{FileHeard}
use Rattle.file_names.specs.declared.form.FileHeard.TheVariants.{Asked, Wrong}
use Rattle.file_layer.specs.Files.{store_fault, enter_refused}
use Rattle.file_layer.specs.PathMap.{Thing, HeldAppend, PathMap, thing_at, held_in, new_fault, bytes_fault, append_refusal, read_refusal, UnlessFault, FolderSays, FileSays, MakeSays, AppendSays, ReadSays, WhereSays, FinishSays, HeldSays, TicketSays, AtFile, stat_reply, ListSays, MapAnswers, MapItemReply}
use Rattle.file_layer.specs.Laws.{NamesNoBlob}

-- where the reply is such a one
said_so : (reply other : FileReply) → reply ≡ other → NamesNoBlob other → NamesNoBlob reply
said_so reply other e never = λ blob h. never blob (sym e ∙ h)

enter_no : (path : List ℕ) (fault : EnterFault) → NamesNoBlob (enter_refused path fault)
enter_no path EnterFaults.NoParent = λ blob e. cc
enter_no path EnterFaults.ParentNotFolder = λ blob e. cc
enter_no path EnterFaults.Exists = λ blob e. cc
enter_no path EnterFaults.TooManyNames = λ blob e. cc
enter_no path EnterFaults.NoMemory = λ blob e. cc

-- the first refusal of a list
abbrev NoneOf : Option Refusal → Type 0
NoneOf o = (refusal : Refusal) → o ≡ Some refusal → NamesNoBlob (store_fault (fault_of refusal))

none_no : NoneOf None
none_no refusal e = absurd (none-some refusal e)

first_no : (c : Bool) (r : Refusal) (o : Option Refusal) → NamesNoBlob (store_fault (fault_of r)) → NoneOf o → NoneOf (if c then Some r else o)
first_no true r o never later refusal e = subst (λ (x : Refusal). NamesNoBlob (store_fault (fault_of x))) (same_Some r refusal e) never
first_no false r o never later refusal e = later refusal e

append_no : (m : PathMap) (b : Blob) (bytes : List ℕ) → NoneOf (append_refusal m b bytes)
append_no m b bytes =
    first_no (nat_lt m.fixed.limits.max_size (size_with b Append bytes)) (Refusals.BlobTooBig (size_with b Append bytes) m.fixed.limits.max_size) _ (λ blob e. cc)
    (first_no (assigned b == m.fixed.limits.max_versions) (Refusals.TooManyVersions m.fixed.limits.max_versions) _ (λ blob e. cc)
    (first_no (waiting b == m.fixed.limits.max_open) (Refusals.TooManyOpen m.fixed.limits.max_open) None (λ blob e. cc) none_no))

read_no : (b : Blob) (version offset count : ℕ) → NoneOf (read_refusal b version offset count)
read_no b version offset count =
    first_no (nat_lt (published b) version) (Refusals.NotPublished version (published b)) _ (λ blob e. cc)
    (first_no (nat_lt (size_of b.updates version) (offset + count)) (Refusals.RangePastSize (offset + count) (size_of b.updates version)) None (λ blob e. cc) none_no)

-- the first fault
abbrev FaultNo : Option Fault → Type 0
FaultNo None = Unit {0}
FaultNo (Some fault) = NamesNoBlob (store_fault fault)

either : (c : Bool) (o p : Option Fault) → FaultNo o → FaultNo p → FaultNo (if c then o else p)
either true o p a b = a
either false o p a b = b

bytes_no : (m : PathMap) (bytes : List ℕ) → FaultNo (bytes_fault m bytes)
bytes_no m bytes =
    either (length bytes == 0) (Some Faults.EmptyUpdate) _ (λ blob e. cc)
    (either (nat_lt max_update (length bytes)) (Some (Faults.UpdateTooLong (length bytes))) _ (λ blob e. cc)
    (either (length m.held == max_tickets) (Some Faults.TooManyTickets) None (λ blob e. cc) tt))

count_no : (count : ℕ) → FaultNo (read_fault count)
count_no count = either (nat_lt max_read count) (Some (Faults.ReadTooLong count)) None (λ blob e. cc) tt

unless_no : (o : Option Fault) (m : PathMap) (reply : FileReply) (m' : PathMap) (Answer : Type 0) → FaultNo o → (Answer → NamesNoBlob reply) → UnlessFault o m reply m' Answer → NamesNoBlob reply
unless_no None m reply m' Answer never goes h = goes h
unless_no (Some fault) m reply m' Answer never goes h = said_so reply (store_fault fault) h.0 never

file_no : (m : PathMap) (path : List ℕ) (Asks : Blob → FileReply → PathMap → Type 0) (o : Option Thing) (reply : FileReply) (m' : PathMap) → ((b : Blob) → Asks b reply m' → NamesNoBlob reply) → AtFile m path Asks o reply m'
    → NamesNoBlob reply
file_no m path Asks None reply m' goes h = said_so reply _ h.0 (λ blob e. cc)
file_no m path Asks (Some Thing.folder) reply m' goes h = said_so reply _ h.0 (λ blob e. cc)
file_no m path Asks (Some (Thing.file id b)) reply m' goes h = goes b h

module _ (m : PathMap) (reply : FileReply) (m' : PathMap) where
  folder_no : (path : List ℕ) (o : Option EnterFault) → FolderSays m path o reply m' → NamesNoBlob reply
  folder_no path None h = said_so reply _ h.0 (λ blob e. cc)
  folder_no path (Some fault) h = said_so reply _ h.0 (enter_no path fault)

  made_no : (path : List ℕ) → FileSays m path reply m' → NamesNoBlob reply
  made_no path (FileSays.made room says is) = said_so reply _ says (λ blob e. cc)
  made_no path (FileSays.refused full says) = said_so reply _ says.0 (λ blob e. cc)
  made_no path (FileSays.out_of_memory says) = said_so reply _ says.0 (λ blob e. cc)
  made_no path (FileSays.unnamed room says) = said_so reply _ says.0 (λ blob e. cc)

  make_no : (path : List ℕ) (o : Option EnterFault) → MakeSays m path o reply m' → NamesNoBlob reply
  make_no path None h = made_no path h
  make_no path (Some fault) h = said_so reply _ h.0 (enter_no path fault)

  appended_no : (path : List ℕ) (b : Blob) (bytes : List ℕ) → AppendSays m path b bytes reply m' → NamesNoBlob reply
  appended_no path b bytes (AppendSays.done free says is) = said_so reply _ says (λ blob e. cc)
  appended_no path b bytes (AppendSays.held_back free folds says is) = said_so reply _ says (λ blob e. cc)
  appended_no path b bytes (AppendSays.kept free says is) = said_so reply _ says (λ blob e. cc)
  appended_no path b bytes (AppendSays.refused refusal is says) = said_so reply _ says.0 (append_no m b bytes refusal is)
  appended_no path b bytes (AppendSays.not_stored page within says) = said_so reply _ says.0 (λ blob e. cc)
  appended_no path b bytes (AppendSays.out_of_memory says) = said_so reply _ says.0 (λ blob e. cc)

  read_says_no : (b : Blob) (version offset count : ℕ) → ReadSays m b version offset count reply → NamesNoBlob reply
  read_says_no b version offset count (ReadSays.given free says) = said_so reply _ says (λ blob e. cc)
  read_says_no b version offset count (ReadSays.refused refusal is says) = said_so reply _ says (read_no b version offset count refusal is)
  read_says_no b version offset count (ReadSays.not_read free some page begins ends says) = said_so reply _ says (λ blob e. cc)
  read_says_no b version offset count (ReadSays.out_of_memory says) = said_so reply _ says (λ blob e. cc)

  where_no : (b : Blob) (version offset count : ℕ) → WhereSays m b version offset count reply → NamesNoBlob reply
  where_no b version offset count (WhereSays.places free places says are) = said_so reply _ says (λ blob e. cc)
  where_no b version offset count (WhereSays.refused refusal is says) = said_so reply _ says (read_no b version offset count refusal is)
  where_no b version offset count (WhereSays.out_of_memory says) = said_so reply _ says (λ blob e. cc)
  where_no b version offset count (WhereSays.unsaid says) = said_so reply _ says (λ blob e. cc)

  finish_no : (h : HeldAppend) (b : Blob) → FinishSays m h b reply m' → NamesNoBlob reply
  finish_no h b (FinishSays.done left says is) = said_so reply _ says (λ blob e. cc)
  finish_no h b (FinishSays.found_finished done says is) = said_so reply _ says (λ blob e. cc)
  finish_no h b (FinishSays.waits left folds waits says) = said_so reply _ says.0 (λ blob e. cc)
  finish_no h b (FinishSays.not_folded left page among ready says) = said_so reply _ says.0 (λ blob e. cc)
  finish_no h b (FinishSays.out_of_memory says) = said_so reply _ says.0 (λ blob e. cc)

  held_no : (h : HeldAppend) (o : Option Thing) → HeldSays m h o reply m' → NamesNoBlob reply
  held_no h None none = absurd none
  held_no h (Some Thing.folder) none = absurd none
  held_no h (Some (Thing.file id b)) says = finish_no h b says

  ticket_no : (ticket : ℕ) (o : Option HeldAppend) → TicketSays m ticket o reply m' → NamesNoBlob reply
  ticket_no ticket None h = said_so reply _ h.0 (λ blob e. cc)
  ticket_no ticket (Some held) h = held_no held (thing_at m.things held.path) h

  stat_no : (path : List ℕ) (o : Option Thing) → NamesNoBlob (stat_reply m path o)
  stat_no path None = λ blob e. cc
  stat_no path (Some Thing.folder) = λ blob e. cc
  stat_no path (Some (Thing.file id b)) = λ blob e. cc

  list_no : (path : List ℕ) (o : Option Thing) → ListSays m path o reply → NamesNoBlob reply
  list_no path None h = said_so reply _ h (λ blob e. cc)
  list_no path (Some Thing.folder) h = said_so reply _ h.1 (λ blob e. cc)
  list_no path (Some (Thing.file id b)) h = said_so reply _ h (λ blob e. cc)

  line_no : (line : FileLine) → MapAnswers m line reply m' → NamesNoBlob reply
  line_no (Lines.Mkdir path) (inl h) = folder_no path (new_fault m path) h
  line_no (Lines.Mkdir path) (inr h) = said_so reply _ h.0 (λ blob e. cc)
  line_no (Lines.Make path) h = make_no path (new_fault m path) h
  line_no (Lines.Append path bytes) h = file_no m path _ (thing_at m.things path) reply m' (λ b g. unless_no (bytes_fault m bytes) m reply m' _ (bytes_no m bytes) (appended_no path b bytes) g) h
  line_no (Lines.Read path version offset count) h =
      file_no m path _ (thing_at m.things path) reply m' (λ b g. unless_no (read_fault count) m reply m' _ (count_no count) (λ x. read_says_no b version offset count x.0) g) h
  line_no (Lines.Stat path) h = said_so reply _ h.0 (stat_no path (thing_at m.things path))
  line_no (Lines.List path) (inl h) = list_no path (thing_at m.things path) h.0
  line_no (Lines.List path) (inr h) = said_so reply _ h.0 (λ blob e. cc)
  line_no (Lines.Where path version offset count) h =
      file_no m path _ (thing_at m.things path) reply m' (λ b g. unless_no (read_fault count) m reply m' _ (count_no count) (λ x. where_no b version offset count x.0) g) h
  line_no (Lines.Finish ticket) h = ticket_no ticket (held_in m.held ticket) h
  line_no Lines.Quit h = said_so reply _ h.0 (λ blob e. cc)

  item_no : (item : FileHeard) → MapItemReply m item reply m' → NamesNoBlob reply
  item_no (Asked line) h = line_no line h
  item_no (Wrong fault) h = said_so reply _ h.1.0 (λ blob e. cc)

pub rounds_no : (m : PathMap) (items : List FileHeard) (replies : List FileReply) (m' : PathMap) → Rounds MapItemReply m items replies m' → All NamesNoBlob replies
rounds_no m [] [] m' run = All-nil NamesNoBlob
rounds_no m [] (reply ∷ replies) m' run = absurd run
rounds_no m (item ∷ items) [] m' run = absurd run
rounds_no m (item ∷ items) (reply ∷ replies) m' (mid, first, run) = All-cons NamesNoBlob reply replies (item_no m reply mid item first) (rounds_no mid items replies m' run)
