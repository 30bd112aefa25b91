-- A file session alone has a reply to each line for which the outside doesn't fail and which leaves it as it is, so that its answers to some lines go on to all.
use Rattle.std.proofs.Common.{◌≡◌, ℕ, ◌+◌, ◌==◌, Bool, true, false, if◌then◌else◌, List, [], ◌∷◌, ◌++◌, length, Option, Some, None, Result, Ok, Err, refl, sym, ap, subst, append-nil, arith}
use Rattle.std.specs.Prelude.{nat_lt}
use Rattle.std.proofs.lemmas.Option.{none-some}
use Rattle.items.specs.Rounds.{Rounds, sum_rounds}
use Rattle.blob_model.specs.Content.{size_of}
use Rattle.blob_model.specs.Store as Stores
use Rattle.blob_model.specs.Store.{Blob, published}
use Rattle.blob_model.specs.Answer as Answer
use Rattle.blob_model.specs.Answer.{refuse}
use Rattle.blob_model.specs.declared.call.Place.TheVariants.{Append}
use Rattle.blob_model.specs.declared.call.Call.TheVariants as Calls
use Rattle.blob_model.specs.declared.call.Event.{Event}
use Rattle.blob_model.specs.declared.call.Outcome.TheVariants as Outcomes
use Rattle.blob_model.specs.declared.call.Refusal.TheVariants as Refusals
use Rattle.request_form.specs.Session.{Session, HeldTicket, IsNobody, sees, store_at, outcome_at, ticket_at}
use Rattle.request_form.specs.Turns.{Tickets, Turn, refuses, AfterGap}
use Rattle.request_form.specs.Answers.{Unless, AddTurn, ReadTurn, UnnumberedTurn, FinishTurn, UpdateAnswer, FinishAnswer, Answers, update_fault, read_fault, max_read, max_tickets}
use Rattle.request_form.specs.Replies.{reply_of, page_faults}
use Rattle.request_form.specs.declared.form.Request.{Request}
use Rattle.request_form.specs.declared.form.Request.TheVariants as Requests
use Rattle.request_form.specs.declared.form.Reply.{Reply}
use Rattle.request_form.specs.declared.form.Reply.TheVariants as Replies
use Rattle.request_form.specs.declared.form.Fault.{Fault}
use Rattle.request_form.specs.declared.form.Fault.TheVariants as Faults
use Rattle.file_names.specs.Tree.{NameLog, ListsNamed, named_at, blob_at, stat_at, enter_fault}
use Rattle.file_names.specs.declared.tree.Named.{Named}
use Rattle.file_names.specs.declared.tree.Named.TheVariants as Nameds
use Rattle.file_names.specs.declared.tree.Stat.{Stat}
use Rattle.file_names.specs.declared.tree.Stat.TheVariants as Stats
use Rattle.file_names.specs.declared.tree.EnterFault.{EnterFault}
use Rattle.file_names.specs.declared.tree.EnterFault.TheVariants as EnterFaults
use Rattle.file_names.specs.declared.tree.FindFault.{FindFault}
use Rattle.file_names.specs.declared.tree.FindFault.TheVariants as FindFaults
use Rattle.file_names.specs.declared.tree.ListFault.TheVariants as ListFaults
use Rattle.file_names.specs.Lines.{IsWellHeard, AllWellHeard}
use Rattle.file_names.specs.declared.form.FileLine.{FileLine}
use Rattle.file_names.specs.declared.form.FileLine.TheVariants as Lines
use Rattle.file_names.specs.declared.form.FileReply.{FileReply}
use Rattle.file_names.specs.declared.form.FileReply.TheVariants as Says
use Rattle.file_names.specs.declared.form.FileFault.TheVariants as FileFaults
use Rattle.file_names.specs.declared.form.FileHeard.{FileHeard}
use Rattle.file_names.specs.declared.form.FileHeard.TheVariants.{Asked, Wrong}
use Rattle.file_layer.specs.Files.{Files, nobody, with_names, with_store, LooksAtNames, AsksStore, AsksOf, OnBlob, MakesFile, OnFree, OnStat, WhereAnswer, FileItemReply, enter_refused, find_refused, recent_reply, store_fault}
use Rattle.file_layer.specs.Faults.{file_fault_count, found_faults, file_item_faults}

-- ---- a line and a reply that changes nothing

same_names : (f : Files) → f ≡ with_names f (f.names ++ [])
same_names f = ap (λ (l : NameLog). with_names f l) (sym (append-nil f.names))

same_sees : (s : Session) → s ≡ sees s []
same_sees s = ap (λ l. let t : Session = record { fixed = s.fixed; caller = s.caller; seen = l; tickets = s.tickets; next = s.next; limit = s.limit } in t) (sym (append-nil s.seen))

same_store : (f : Files) → f ≡ with_store f (sees f.store [])
same_store f = ap (λ (s : Session). with_store f s) (same_sees f.store)

looks : (f : Files) → LooksAtNames nobody f f
looks f = record { others = []; is_gap = refl; is = same_names f }

starved : (s : Session) (May : List Event → Turn → Type 0) → May [] (refuses Faults.NoMemory) → AfterGap IsNobody s May (Replies.Refused Faults.NoMemory) s
starved s May may = record { others = []; is_gap = refl; turn = refuses Faults.NoMemory; may = may; said = refl; seen = same_sees s }

asks : (f : Files) (request : Request) (told : Reply) → Answers IsNobody f.store request told f.store → AsksStore nobody f request told f
asks f request told a = record { after = f.store; answers = a; is = refl }

-- a refusal for which the outside doesn't fail
record Idle (Answer : Fault → Type 0) : Type 0 where
  fault : Fault
  calm : page_faults fault ≡ 0
  answer : Answer fault

unless_idle : (o : Option Fault) (s : Session) (Answer : Fault → Type 0) → ((fault : Fault) → o ≡ Some fault → page_faults fault ≡ 0) → Answer Faults.NoMemory
    → Idle (λ fault. Unless o s (Replies.Refused fault) s (Answer fault))
unless_idle None s Answer calm starves = record { fault = Faults.NoMemory; calm = refl; answer = starves }
unless_idle (Some fault) s Answer calm starves = record { fault = fault; calm = calm fault refl; answer = (refl, refl) }

is_calm : Option Fault → Type 0
is_calm None = Unit {0}
is_calm (Some fault) = page_faults fault ≡ 0

calm_at : (o : Option Fault) → is_calm o → (fault : Fault) → o ≡ Some fault → page_faults fault ≡ 0
unfolding is_calm
calm_at None h fault e = absurd (none-some fault e)
calm_at (Some x) h fault e = subst is_calm e h

either : {A : Type 0} (b : Bool) (P : A → Type 0) (x y : A) → P x → P y → P (if b then x else y)
either true P x y p q = p
either false P x y p q = q

update_calm : (s : Session) (bytes : List ℕ) → is_calm (update_fault s bytes)
unfolding is_calm
update_calm s bytes =
    either (length bytes == 0) is_calm (Some Faults.EmptyUpdate) _ refl
    (either (nat_lt s.limit (length bytes)) is_calm (Some (Faults.UpdateTooLong (length bytes))) _ refl
    (either (length s.tickets == max_tickets) is_calm (Some Faults.TooManyTickets) None refl tt))

read_calm : (count : ℕ) → is_calm (read_fault count)
unfolding is_calm
read_calm count = either (nat_lt max_read count) is_calm (Some (Faults.ReadTooLong count)) None refl tt

append_idle : (f : Files) (blob : ℕ) (bytes : List ℕ) → Idle (λ fault. Answers IsNobody f.store (Requests.Append blob bytes) (Replies.Refused fault) f.store)
append_idle f blob bytes = unless_idle (update_fault f.store bytes) f.store _ (calm_at (update_fault f.store bytes) (update_calm f.store bytes)) (UpdateAnswer.once (starved f.store (UnnumberedTurn f.store blob Append bytes) UnnumberedTurn.out_of_memory))

read_idle : (f : Files) (blob version offset count : ℕ) → Idle (λ fault. Answers IsNobody f.store (Requests.Read blob version offset count) (Replies.Refused fault) f.store)
read_idle f blob version offset count = unless_idle (read_fault count) f.store _ (calm_at (read_fault count) (read_calm count)) (starved f.store (ReadTurn f.store blob version offset count) ReadTurn.out_of_memory)

finish_held : (s : Session) (ticket : ℕ) (o : Option HeldTicket) → Idle (λ fault. FinishAnswer IsNobody s ticket o (Replies.Refused fault) s)
finish_held s ticket None = record { fault = Faults.NoTicket ticket; calm = refl; answer = (refl, refl) }
finish_held s ticket (Some t) = record { fault = Faults.NoMemory; calm = refl; answer = starved s (FinishTurn s t.blob t.version (λ published. Replies.Finished published) (Tickets.drop t.number) Tickets.stay) FinishTurn.out_of_memory }

-- ---- a reply to each item

record IdleReply (f : Files) (item : FileHeard) : Type 0 where
  reply : FileReply
  answers : FileItemReply nobody f item reply f
  calm : file_item_faults f item reply ≡ 0

record Part (Answer : FileReply → Type 0) (count : FileReply → ℕ) : Type 0 where
  reply : FileReply
  answer : Answer reply
  calm : count reply ≡ 0

find_calm : (path : List ℕ) (fault : FindFault) → file_fault_count (find_refused path fault) ≡ 0
find_calm path FindFaults.NoName = refl
find_calm path FindFaults.NotFile = refl

on_blob : (f : Files) (path : List ℕ) (Ask : ℕ → FileReply → Files → Type 0) (o : Result ℕ FindFault) → ((blob : ℕ) → Part (λ reply. Ask blob reply f) file_fault_count)
    → Part (λ reply. OnBlob path f Ask o reply f) file_fault_count
on_blob f path Ask (Ok blob) part = part blob
on_blob f path Ask (Err fault) part = record { reply = find_refused path fault; answer = (refl, refl); calm = find_calm path fault }

-- the same where a line that is held back may be a fault, which a refusal isn't
on_append : (f : Files) (path bytes : List ℕ) (o : Result ℕ FindFault) → Part (λ reply. OnBlob path f (λ blob. AsksOf nobody f (Requests.Append blob bytes)) o reply f) (found_faults f o)
on_append f path bytes (Ok blob) =
    let i = append_idle f blob bytes in
    record { reply = store_fault i.fault; answer = record { told = Replies.Refused i.fault; asks = asks f (Requests.Append blob bytes) (Replies.Refused i.fault) i.answer; says = refl }; calm = i.calm }
on_append f path bytes (Err fault) = record { reply = find_refused path fault; answer = (refl, refl); calm = find_calm path fault }

read_part : (f : Files) (version offset count blob : ℕ) → Part (λ reply. AsksOf nobody f (Requests.Read blob version offset count) reply f) file_fault_count
read_part f version offset count blob =
    let i = read_idle f blob version offset count in
    record { reply = store_fault i.fault; answer = record { told = Replies.Refused i.fault; asks = asks f (Requests.Read blob version offset count) (Replies.Refused i.fault) i.answer; says = refl }; calm = i.calm }

where_part : (f : Files) (version offset count blob : ℕ) → Part (λ reply. WhereAnswer nobody f blob version offset count reply f) file_fault_count
where_part f version offset count blob = at (read_fault count) refl
  where
    at : (o : Option Fault) → read_fault count ≡ o → Part (λ reply. WhereAnswer nobody f blob version offset count reply f) file_fault_count
    at None short = record { reply = store_fault Faults.NoMemory; answer = WhereAnswer.no_memory [] refl short (same_store f) refl; calm = refl }
    at (Some fault) long = record { reply = store_fault fault; answer = WhereAnswer.too_long fault long refl refl; calm = calm_at (read_fault count) (read_calm count) fault long }

enter_calm : (path : List ℕ) (fault : EnterFault) → file_fault_count (enter_refused path fault) ≡ 0
enter_calm path EnterFaults.NoParent = refl
enter_calm path EnterFaults.ParentNotFolder = refl
enter_calm path EnterFaults.Exists = refl
enter_calm path EnterFaults.TooManyNames = refl
enter_calm path EnterFaults.NoMemory = refl

on_free : (f : Files) (path : List ℕ) (o : Option EnterFault) → Part (λ reply. OnFree nobody path f o reply f) file_fault_count
on_free f path None = record {
  reply = store_fault Faults.NoMemory;
  answer = MakesFile.not_created Faults.NoMemory (asks f Requests.Create (Replies.Refused Faults.NoMemory) (starved f.store (AddTurn f.store Calls.Create) AddTurn.out_of_memory)) refl;
  calm = refl;
}
on_free f path (Some fault) = record { reply = enter_refused path fault; answer = (refl, refl); calm = enter_calm path fault }

-- what is told of a last version is no fault of the outside
recent_part : (f : Files) (blob : ℕ) → Part (λ reply. recent_reply blob (reply_of (outcome_at f.store [] (Calls.Recent blob))) ≡ Some reply) file_fault_count
recent_part f blob = found (Stores.blob_at (store_at f.store []) blob)
  where
    found : (o : Option Blob) → (λ (a : Answer.Answered). Part (λ reply. recent_reply blob (reply_of a.1) ≡ Some reply) file_fault_count) (elim o [
      | None ↦ refuse (store_at f.store []) (Refusals.NoBlob blob)
      | Some b ↦ (store_at f.store [], Outcomes.Recent (published b) (size_of b.updates (published b)))
    ])
    found None = record { reply = store_fault (Faults.NoBlob blob); answer = refl; calm = refl }
    found (Some b) = record { reply = Says.FileIs blob (published b) (size_of b.updates (published b)); answer = refl; calm = refl }

on_stat : (f : Files) (path : List ℕ) (o : Option Stat) → Part (λ reply. OnStat nobody path f o reply f) file_fault_count
on_stat f path None = record { reply = Says.Refused (FileFaults.NoName path); answer = (refl, refl); calm = refl }
on_stat f path (Some (Stats.Folder entries)) = record { reply = Says.FolderIs entries; answer = (refl, refl); calm = refl }
on_stat f path (Some (Stats.File blob)) =
    let told = reply_of (outcome_at f.store [] (Calls.Recent blob)) in
    let p = recent_part f blob in
    let look : Answers IsNobody f.store (Requests.Recent blob) told f.store = record { others = []; is_gap = refl; said = refl; seen = same_sees f.store } in
    record { reply = p.reply; answer = (told, asks f (Requests.Recent blob) told look, p.answer); calm = p.calm }

lists_none : (log : NameLog) (path : List ℕ) (named : Option Named) → ListsNamed log path named (Err ListFaults.NoMemory)
lists_none log path None = tt
lists_none log path (Some Nameds.Folder) = tt
lists_none log path (Some (Nameds.File blob)) = tt

line_idle : (f : Files) (line : FileLine) → IdleReply f (Asked line)
line_idle f (Lines.Mkdir path) = record {
  reply = Says.Unsaid;
  answers = record { said = Err EnterFaults.NoMemory; enters = record { others = []; is_gap = refl; after = f.names ++ []; enters = refl; is = same_names f }; is = refl };
  calm = refl;
}
line_idle f (Lines.Make path) =
    let p = on_free f path (enter_fault f.names path) in
    record { reply = p.reply; answers = record { seen = f; looks = looks f; goes_on = p.answer }; calm = p.calm }
line_idle f (Lines.Append path bytes) =
    let p = on_append f path bytes (blob_at f.names path) in
    record { reply = p.reply; answers = record { seen = f; looks = looks f; goes_on = p.answer }; calm = p.calm }
line_idle f (Lines.Read path version offset count) =
    let p = on_blob f path (λ blob. AsksOf nobody f (Requests.Read blob version offset count)) (blob_at f.names path) (read_part f version offset count) in
    record { reply = p.reply; answers = record { seen = f; looks = looks f; goes_on = p.answer }; calm = p.calm }
line_idle f (Lines.Stat path) =
    let p = on_stat f path (stat_at f.names path) in
    record { reply = p.reply; answers = record { seen = f; looks = looks f; goes_on = p.answer }; calm = p.calm }
line_idle f (Lines.List path) = record {
  reply = Says.Unsaid;
  answers = record { looks = looks f; said = Err ListFaults.NoMemory; lists = lists_none f.names path (named_at f.names path); is = refl };
  calm = refl;
}
line_idle f (Lines.Where path version offset count) =
    let p = on_blob f path (λ blob. WhereAnswer nobody f blob version offset count) (blob_at f.names path) (where_part f version offset count) in
    record { reply = p.reply; answers = record { seen = f; looks = looks f; goes_on = p.answer }; calm = p.calm }
line_idle f (Lines.Finish ticket) =
    let i = finish_held f.store ticket (ticket_at f.store.tickets ticket) in
    record {
      reply = store_fault i.fault;
      answers = record { told = Replies.Refused i.fault; asks = asks f (Requests.Finish ticket) (Replies.Refused i.fault) i.answer; says = refl };
      calm = i.calm;
    }
line_idle f Lines.Quit = record { reply = Says.Bye; answers = (refl, refl); calm = refl }

item_idle : (f : Files) (item : FileHeard) → IsWellHeard item → IdleReply f item
item_idle f (Asked line) well = line_idle f line
item_idle f (Wrong fault) well = record { reply = store_fault fault; answers = (refl, refl); calm = ap page_faults well }

-- ---- rounds

-- all the items are answered, and the outside fails so often
pub record Answered (f : Files) (items : List FileHeard) (last : Files) (replies : List FileReply) (count : ℕ) : Type 0 where
  pub rounds : Rounds (FileItemReply nobody) f items replies last
  pub counts : sum_rounds file_item_faults (FileItemReply nobody) f items replies last rounds ≡ count

pub idle_rounds : (f : Files) (items : List FileHeard) → AllWellHeard items → (replies : List FileReply) × Answered f items f replies 0
idle_rounds f [] well = ([], record { rounds = refl; counts = refl })
idle_rounds f (item ∷ items) well =
    let i = item_idle f item well.0 in
    let r = idle_rounds f items well.1 in
    (i.reply ∷ r.0, record { rounds = (f, i.answers, r.1.rounds); counts = omega (arith, i.calm, r.1.counts) })

pub joined : (f mid last : Files) (first later : List FileHeard) (replies more : List FileReply) (run : Rounds (FileItemReply nobody) f first replies mid) (next : Answered mid later last more 0)
    → Answered f (first ++ later) last (replies ++ more) (sum_rounds file_item_faults (FileItemReply nobody) f first replies mid run)
joined f mid last [] later [] more run next = subst (λ (g : Files). Answered g later last more 0) run next
joined f mid last [] later (reply ∷ replies) more none next = absurd none
joined f mid last (item ∷ first) later [] more none next = absurd none
joined f mid last (item ∷ first) later (reply ∷ replies) more (after, answer, run) next =
    let r = joined after mid last first later replies more run next in
    record { rounds = (after, answer, r.rounds); counts = ap (λ (n : ℕ). file_item_faults after item reply + n) r.counts }
