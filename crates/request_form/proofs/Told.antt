-- What a request is told where nobody else is there, and memory and doors are ample, computed; each is one of the answers that the relation allows.
use Rattle.std.proofs.Common.{◌≡◌, ℕ, ◌-◌, nat_lt, Bool, true, false, if◌then◌else◌, List, [], ◌∷◌, ◌++◌, refl, sym, ap, subst, ◌∙◌, arith, append_assoc, append-nil}
use Rattle.std.specs.Prelude.{Option, Some, None}
use Rattle.std.proofs.lemmas.Bool.Decides.{nat_tests}
use Rattle.blob_model.specs.Store.{Store, Blob, blob_at, with_blob, assigned, published, held, finish, is_finished}
use Rattle.blob_model.specs.Answer.{Answered, refuse, unless_refused, first_refusal, not_numbered, pending, already, repair_refusal}
use Rattle.blob_model.specs.History.{event_of}
use Rattle.range_log.specs.Updates.{extents}
use Rattle.range_log.specs.Rows.{folds_of}
use Rattle.blob_model.specs.declared.call.Event.{Event}
use Rattle.blob_model.specs.declared.call.Event.TheVariants as Events
use Rattle.blob_model.specs.declared.call.Place.{Place}
use Rattle.blob_model.specs.declared.call.Call.{Call}
use Rattle.blob_model.specs.declared.call.Call.TheVariants as Calls
use Rattle.blob_model.specs.declared.call.Outcome.{Outcome}
use Rattle.blob_model.specs.declared.call.Outcome.TheVariants as Outcomes
use Rattle.blob_model.specs.declared.call.Refusal.{Refusal}
use Rattle.blob_model.specs.declared.call.Refusal.TheVariants as Refusals
use Rattle.request_form.specs.declared.form.Request.{Request}
use Rattle.request_form.specs.declared.form.Reply.{Reply}
use Rattle.request_form.specs.declared.form.Reply.TheVariants as Replies
use Rattle.request_form.specs.declared.form.Heard.{Heard}
use Rattle.request_form.specs.declared.form.Heard.TheVariants.{Asked, Wrong}
use Rattle.request_form.specs.declared.form.Fault.{Fault}
use Rattle.request_form.specs.declared.form.Fault.TheVariants as Faults
use Rattle.request_form.specs.Replies.{fault_of, reply_of, added_reply, update_reply, start_reply}
use Rattle.request_form.specs.Session.{Session, HeldTicket, store_at, outcome_at, sees, ticket_at, takes_up_to, IsNobody}
use Rattle.request_form.specs.Turns.{Tickets, Turn, tells, refuses, with_tickets, and_made, AfterGap}
use Rattle.request_form.specs.Answers.{Answers, Unless, AreContents, AddTurn, ReadTurn, ReadManyTurn, FinishTurn, RepairTurn, UnnumberedTurn, StartTurn, WholeTurn, Class, class_of, ClassAnswer, UpdateAnswer, StartAnswer, WholeAnswer, FinishAnswer, Folds, IsReady, folds_in, keeps, update_fault, read_fault, ranges_fault, max_update_greater}
use Rattle.request_form.specs.Transcript.{Run, ItemReply}

-- a reply, and the session then
pub record Told : Type 0 where
  pub reply : Reply
  pub next : Session

abbrev pub told : Reply → Session → Told
told reply next = record { reply = reply; next = next }

abbrev pub after : Session → Turn → Told
after s turn = told turn.said (with_tickets turn.tickets (sees s (and_made [] turn.made)))

-- by an outcome that isn't what is asked for
abbrev pub otherwise : Outcome → Turn
otherwise (Outcomes.Refused refusal) = refuses (fault_of refusal)
otherwise _ = refuses Faults.NoMemory

abbrev pub add_turn : Session → Call → Outcome → Turn
add_turn s call (Outcomes.Blob blob) = record { said = added_reply call blob; made = event_of s.caller call; tickets = Tickets.stay }
add_turn s call o = otherwise o

abbrev pub read_turn : Outcome → Turn
read_turn (Outcomes.Content bytes) = tells (Replies.Content bytes)
read_turn o = otherwise o

-- many ranges, behind those whose bytes these are; and by the outcome of the first
abbrev pub many_turn : Session → ℕ → ℕ → List (ℕ × ℕ) → List ℕ → Turn
many_turn s blob version [] bytes = tells (Replies.Contents bytes)
many_turn s blob version (range ∷ ranges) bytes =
    elim (outcome_at s [] (Calls.Read blob version range.0 range.1)) [
      | Outcomes.Content more ↦ many_turn s blob version ranges (bytes ++ more)
      | Outcomes.Refused refusal ↦ refuses (fault_of refusal)
      | _ ↦ refuses Faults.NoMemory
    ]

abbrev pub range_turn : Session → ℕ → ℕ → List (ℕ × ℕ) → List ℕ → Outcome → Turn
range_turn s blob version ranges bytes o =
    elim o [
      | Outcomes.Content more ↦ many_turn s blob version ranges (bytes ++ more)
      | Outcomes.Refused refusal ↦ refuses (fault_of refusal)
      | _ ↦ refuses Faults.NoMemory
    ]

abbrev pub any : List ℕ → Bool
any [] = false
any (page ∷ pages) = true

-- by whether the version is not numbered yet, finished, and must wait for the one before it
abbrev pub finish_tests : Session → ℕ → ℕ → (ℕ → Reply) → Tickets → Tickets → (Refusal → Turn) → Blob → Bool → Bool → Bool → Turn
finish_tests s blob version says settled hindered missing b low done waits =
    if low then missing (Refusals.NotPublished version (published b))
    else (if done then record { said = Replies.Refused (Faults.Already version); made = []; tickets = settled }
    else (if waits then record { said = Replies.Refused (Faults.Pending (version - 1) (held b)); made = []; tickets = hindered }
    else record { said = says (published (finish b version)); made = Events.Finish s.caller blob version ∷ []; tickets = settled }))

abbrev pub finish_turn : Session → ℕ → ℕ → (ℕ → Reply) → Tickets → Tickets → (Refusal → Turn) → Option Blob → Turn
finish_turn s blob version says settled hindered missing None = missing (Refusals.NoBlob blob)
finish_turn s blob version says settled hindered missing (Some b) =
    finish_tests s blob version says settled hindered missing b (nat_lt (assigned b) version) (is_finished b version)
    (let t : Bool = elim (nat_lt (published b) (version - 1)) [ true ↦ any (folds_of s.fixed.page (extents b.updates) version) | false ↦ false ] in t)

abbrev pub report_turn : Session → HeldTicket → Turn
report_turn s ticket =
    finish_turn s ticket.blob ticket.version (λ n. Replies.Finished n) (Tickets.drop ticket.number) Tickets.stay (λ refusal. refuses Faults.NoMemory) (blob_at (store_at s []) ticket.blob)

abbrev pub repair_turn : Session → ℕ → ℕ → Turn
repair_turn s blob version =
    finish_turn s blob version (λ n. Replies.Repaired n) (Tickets.let_go blob version) Tickets.stay (λ refusal. refuses (fault_of refusal)) (blob_at (store_at s []) blob)

abbrev pub start_turn : Session → ℕ → Place → List ℕ → Outcome → Turn
start_turn s blob place bytes (Outcomes.Assigned version at size) =
    record { said = start_reply place s.next version at size; made = Events.Assign s.caller blob place bytes ∷ []; tickets = Tickets.hold blob version }
start_turn s blob place bytes o = otherwise o

-- of a numbered update: by whether the version before it is not numbered, and must be waited for
abbrev pub whole_tests : Session → ℕ → Place → ℕ → ℕ → ℕ → Bool → Bool → Turn
whole_tests s blob place version at size low waits =
    if low then keeps s blob version
    else (if waits then record { said = start_reply place s.next version at size; made = []; tickets = Tickets.hold blob version }
    else record { said = update_reply place version at size; made = Events.Finish s.caller blob version ∷ []; tickets = Tickets.stay })

abbrev pub whole_turn : Session → ℕ → Place → ℕ → ℕ → ℕ → Option Blob → Turn
whole_turn s blob place version at size None = whole_tests s blob place version at size false false
whole_turn s blob place version at size (Some b) =
    whole_tests s blob place version at size (nat_lt (assigned b) (version - 1))
    (let t : Bool = elim (nat_lt (published b) (version - 1)) [ true ↦ any (folds_of s.fixed.page (extents b.updates) version) | false ↦ false ] in t)

abbrev pub after_numbering : Session → Event → Turn → Told
after_numbering s numbering turn = told turn.said (with_tickets turn.tickets (sees s (numbering ∷ and_made [] turn.made)))

abbrev pub update_told : Session → ℕ → Place → List ℕ → Outcome → Told
update_told s blob place bytes (Outcomes.Assigned version at size) =
    let numbering : Event = Events.Assign s.caller blob place bytes in
    after_numbering s numbering (whole_turn s blob place version at size (blob_at (store_at s (numbering ∷ [])) blob))
update_told s blob place bytes o = after s (otherwise o)

abbrev pub held_told : Session → ℕ → Option HeldTicket → Told
held_told s number None = told (Replies.Refused (Faults.NoTicket number)) s
held_told s number (Some ticket) = after s (report_turn s ticket)

abbrev pub unless : Option Fault → Session → Told → Told
unless (Some fault) s t = told (Replies.Refused fault) s
unless None s t = t

abbrev pub class_told : Session → Class → Told
class_told s Class.greets = told (Replies.HelloIs 2) (takes_up_to s max_update_greater)
class_told s Class.quits = told Replies.Bye s
class_told s (Class.looks call) = after s (tells (reply_of (outcome_at s [] call)))
class_told s (Class.adds call) = after s (add_turn s call (outcome_at s [] call))
class_told s (Class.reads blob version offset count) = unless (read_fault count) s (after s (read_turn (outcome_at s [] (Calls.Read blob version offset count))))
class_told s (Class.reads_many blob version ranges) = unless (ranges_fault 0 ranges) s (after s (many_turn s blob version ranges []))
class_told s (Class.starts blob place bytes) = unless (update_fault s bytes) s (after s (start_turn s blob place bytes (outcome_at s [] (Calls.Assign blob place bytes))))
class_told s (Class.updates blob place bytes) = unless (update_fault s bytes) s (update_told s blob place bytes (outcome_at s [] (Calls.Assign blob place bytes)))
class_told s (Class.reports number) = held_told s number (ticket_at s.tickets number)
class_told s (Class.repairs blob version) = after s (repair_turn s blob version)

abbrev pub request_told : Session → Request → Told
request_told s request = class_told s (class_of request)

-- ---- each is an answer
is_after : (s : Session) (May : List Event → Turn → Type 0) (turn : Turn) → May [] turn → AfterGap IsNobody s May (after s turn).reply (after s turn).next
is_after s May turn may = record { others = []; is_gap = refl; turn = turn; may = may; said = refl; seen = refl }

unless_is : (Answer : Reply → Session → Type 0) (fault : Option Fault) (s : Session) (t : Told) → Answer t.reply t.next
    → Unless fault s (unless fault s t).reply (unless fault s t).next (Answer (unless fault s t).reply (unless fault s t).next)
unless_is Answer (Some fault) s t a = (refl, refl)
unless_is Answer None s t a = a

add_is : (s : Session) (call : Call) (o : Outcome) → outcome_at s [] call ≡ o → AddTurn s call [] (add_turn s call o)
add_is s call (Outcomes.Blob blob) e = AddTurn.added blob e
add_is s call (Outcomes.Refused refusal) e = AddTurn.refused refusal e
add_is s call _ e = AddTurn.out_of_memory

read_is : (s : Session) (blob version offset count : ℕ) (o : Outcome) → outcome_at s [] (Calls.Read blob version offset count) ≡ o → ReadTurn s blob version offset count [] (read_turn o)
read_is s blob version offset count (Outcomes.Content bytes) e = ReadTurn.content bytes e
read_is s blob version offset count (Outcomes.Refused refusal) e = ReadTurn.refused refusal e
read_is s blob version offset count _ e = ReadTurn.out_of_memory

-- one range more
contents_more : (s : Session) (blob version : ℕ) (before : List (ℕ × ℕ)) (bytes : List ℕ) (range : ℕ × ℕ) (more : List ℕ) → AreContents s [] blob version before bytes
    → outcome_at s [] (Calls.Read blob version range.0 range.1) ≡ Outcomes.Content more → AreContents s [] blob version (before ++ range ∷ []) (bytes ++ more)
contents_more s blob version [] bytes range more none e = (more, e, ([], refl, ap (λ (l : List ℕ). l ++ more) none ∙ sym (append-nil more)))
contents_more s blob version (b ∷ bs) bytes range more (first, is, (rest, others, joins)) e =
    (first, is, (rest ++ more, contents_more s blob version bs rest range more others e, ap (λ (l : List ℕ). l ++ more) joins ∙ append_assoc first rest more))

-- the next range: where the store gives its bytes, it goes on behind them
range_is : (s : Session) (blob version : ℕ) (all before : List (ℕ × ℕ)) (range : ℕ × ℕ) (ranges : List (ℕ × ℕ)) (bytes : List ℕ) → all ≡ before ++ range ∷ ranges
    → AreContents s [] blob version before bytes
    → ((more : List ℕ) → outcome_at s [] (Calls.Read blob version range.0 range.1) ≡ Outcomes.Content more → ReadManyTurn s blob version all [] (many_turn s blob version ranges (bytes ++ more)))
    → (o : Outcome) → outcome_at s [] (Calls.Read blob version range.0 range.1) ≡ o
    → ReadManyTurn s blob version all [] (range_turn s blob version ranges bytes o)
range_is s blob version all before range ranges bytes joins are goes (Outcomes.Content more) e = goes more e
range_is s blob version all before range ranges bytes joins are goes (Outcomes.Refused refusal) e = ReadManyTurn.refused before ranges range bytes joins are refusal e
range_is s blob version all before range ranges bytes joins are goes _ e = ReadManyTurn.out_of_memory

many_is : (s : Session) (blob version : ℕ) (all before ranges : List (ℕ × ℕ)) (bytes : List ℕ) → all ≡ before ++ ranges → AreContents s [] blob version before bytes
    → ReadManyTurn s blob version all [] (many_turn s blob version ranges bytes)
many_is s blob version all before [] bytes joins are =
    let same : before ≡ all = sym (joins ∙ append-nil before) in
    ReadManyTurn.contents bytes (subst (λ (l : List (ℕ × ℕ)). AreContents s [] blob version l bytes) same are)
many_is s blob version all before (range ∷ ranges) bytes joins are =
    range_is s blob version all before range ranges bytes joins are
    (λ more e. many_is s blob version all (before ++ range ∷ []) ranges (bytes ++ more) (joins ∙ sym (append_assoc before (range ∷ []) ranges))
    (contents_more s blob version before bytes range more are e))
    (outcome_at s [] (Calls.Read blob version range.0 range.1)) refl

-- ---- finishes
-- what a store says of a blob's version, by the blob
module _ (store : Store) (blob version : ℕ) where
  abbrev pub refusal_by : Option Blob → Option Refusal
  refusal_by o = elim o [ None ↦ Some (Refusals.NoBlob blob) | Some b ↦ first_refusal (not_numbered b version ∷ already b version ∷ []) ]

  abbrev pub finish_by : Option Blob → Outcome
  finish_by o = (let a : Answered =
      elim o [
        | None ↦ refuse store (Refusals.NoBlob blob)
        | Some b ↦ unless_refused store (already b version ∷ []) (with_blob store blob (finish b version), Outcomes.Published (published (finish b version)))
      ] in a).1

  abbrev pub sync_by : Option Blob → Outcome
  sync_by o = (let a : Answered =
      elim o [
        | None ↦ refuse store (Refusals.NoBlob blob)
        | Some b ↦ unless_refused store (not_numbered b version ∷ pending b version ∷ []) (store, Outcomes.Synced version)
      ] in a).1

-- where the version is numbered, only a version that waits is refused
sync_numbered : (store : Store) (version least later : ℕ) (low early : Bool) → low ≡ false
    → (let a : Answered =
    elim (if low then Some (Refusals.NotPublished version later) else (if early then Some (Refusals.Pending version least) else None)) [
      | Some r ↦ refuse store r
      | None ↦ (store, Outcomes.Synced version)
    ] in a).1 ≡ (if early then Outcomes.Refused (Refusals.Pending version least) else Outcomes.Synced version)
sync_numbered store version least later true early e = let never : ⊥ = cc in absurd never
sync_numbered store version least later false true e = refl
sync_numbered store version least later false false e = refl

before_numbered : (n version : ℕ) → nat_lt n version ≡ false → nat_lt n (version - 1) ≡ false
before_numbered n version h = grind (arith, nat_tests)

module _ (s : Session) (front : List Event) (blob version : ℕ) (b : Blob) (there : blob_at (store_at s front) blob ≡ Some b) where
  pub folds_are : folds_in s.fixed.page (store_at s front) blob version ≡ folds_of s.fixed.page (extents b.updates) version
  folds_are = ap (λ (o : Option Blob). (let l : List ℕ = elim o [ None ↦ [] | Some b ↦ folds_of s.fixed.page (extents b.updates) version ] in l)) there

  -- what is said of the version before it
  pub sync_is : nat_lt (assigned b) (version - 1) ≡ false → outcome_at s front (Calls.Sync blob (version - 1))
      ≡ (if nat_lt (published b) (version - 1) then Outcomes.Refused (Refusals.Pending (version - 1) (held b)) else Outcomes.Synced (version - 1))
  sync_is numbered =
      ap (sync_by (store_at s front) blob (version - 1)) there
      ∙ sync_numbered (store_at s front) (version - 1) (held b) (published b) (nat_lt (assigned b) (version - 1)) (nat_lt (published b) (version - 1)) numbered

no_folds : (s : Session) (front : List Event) (blob version : ℕ) → folds_in s.fixed.page (store_at s front) blob version ≡ [] → Folds s front blob version → IsReady s front blob version
no_folds s front blob version none folds = absurd (folds none)

module _ (s : Session) (blob version : ℕ) (says : ℕ → Reply) (settled hindered : Tickets) (missing : Refusal → Turn) (May : Turn → Type 0)
    (finishes : (turn : Turn) → FinishTurn s blob version says settled hindered [] turn → May turn)
    (misses : (refusal : Refusal) → repair_refusal (store_at s []) blob version ≡ Some refusal → (refusal ≡ Refusals.Already version → ⊥) → May (missing refusal)) where
  tests_are : (b : Blob) (low done early : Bool) (pages : List ℕ)
      → repair_refusal (store_at s []) blob version ≡ (if low then Some (Refusals.NotPublished version (published b)) else (if done then Some (Refusals.Already version) else None))
      → (low ≡ false → done ≡ false → outcome_at s [] (Calls.Finish blob version) ≡ Outcomes.Published (published (finish b version)))
      → (low ≡ false → outcome_at s [] (Calls.Sync blob (version - 1)) ≡ (if early then Outcomes.Refused (Refusals.Pending (version - 1) (held b)) else Outcomes.Synced (version - 1)))
      → folds_in s.fixed.page (store_at s []) blob version ≡ pages → May (finish_tests s blob version says settled hindered missing b low done (let t : Bool = elim early [ true ↦ any pages | false ↦ false ] in t))
  tests_are b true done early pages refusal finish sync folds = misses (Refusals.NotPublished version (published b)) refusal (λ same. let never : ⊥ = cc in never)
  tests_are b false true early pages refusal finish sync folds = finishes _ (FinishTurn.found refusal)
  tests_are b false false true [] refusal finish sync folds = finishes _ (FinishTurn.finished _ refusal (no_folds s [] blob version folds) (finish refl refl))
  tests_are b false false true (page ∷ pages) refusal finish sync folds = finishes _ (FinishTurn.waits (held b) refusal (λ none. (let never : ⊥ = cc in never)) (sync refl))
  tests_are b false false false pages refusal finish sync folds = finishes _ (FinishTurn.finished _ refusal (λ some. sync refl) (finish refl refl))

  finish_told : (done : Bool) (b : Blob) → done ≡ false → outcome_at s [] (Calls.Finish blob version)
      ≡ (let a : Answered =
      elim (if done then Some (Refusals.Already version) else None) [
        | Some r ↦ refuse (store_at s []) r
        | None ↦ (with_blob (store_at s []) blob (finish b version), Outcomes.Published (published (finish b version)))
      ] in a).1 → outcome_at s [] (Calls.Finish blob version) ≡ Outcomes.Published (published (finish b version))
  finish_told true b e is = let never : ⊥ = cc in absurd never
  finish_told false b e is = is

  finish_is : (o : Option Blob) → blob_at (store_at s []) blob ≡ o → May (finish_turn s blob version says settled hindered missing o)
  finish_is None at = misses (Refusals.NoBlob blob) (ap (refusal_by (store_at s []) blob version) at) (λ same. let never : ⊥ = cc in never)
  finish_is (Some b) at =
      tests_are b (nat_lt (assigned b) version) (is_finished b version) (nat_lt (published b) (version - 1)) (folds_of s.fixed.page (extents b.updates) version)
      (ap (refusal_by (store_at s []) blob version) at)
      (λ numbered unfinished. finish_told (is_finished b version) b unfinished (ap (finish_by (store_at s []) blob version) at))
      (λ numbered. sync_is s [] blob version b at (before_numbered (assigned b) version numbered)) (folds_are s [] blob version b at)

held_is : (s : Session) (number : ℕ) (ticket : Option HeldTicket) → FinishAnswer IsNobody s number ticket (held_told s number ticket).reply (held_told s number ticket).next
held_is s number None = (refl, refl)
held_is s number (Some ticket) =
    is_after s _ (report_turn s ticket)
    (finish_is s ticket.blob ticket.version _ _ _ _ (λ turn. FinishTurn s ticket.blob ticket.version (λ n. Replies.Finished n) (Tickets.drop ticket.number) Tickets.stay [] turn)
    (λ turn t. t) (λ refusal e other. FinishTurn.out_of_memory) (blob_at (store_at s []) ticket.blob) refl)

repair_is : (s : Session) (blob version : ℕ) → RepairTurn s blob version [] (repair_turn s blob version)
repair_is s blob version =
    finish_is s blob version _ _ _ _ (λ turn. RepairTurn s blob version [] turn) (λ turn t. RepairTurn.finish turn t) (λ refusal e other. RepairTurn.refused refusal e other)
    (blob_at (store_at s []) blob) refl

-- ---- updates
start_is : (s : Session) (blob : ℕ) (place : Place) (bytes : List ℕ) (o : Outcome) → outcome_at s [] (Calls.Assign blob place bytes) ≡ o
    → StartTurn s blob place bytes [] (start_turn s blob place bytes o)
start_is s blob place bytes (Outcomes.Assigned version at size) e = StartTurn.started version at size e
start_is s blob place bytes (Outcomes.Refused refusal) e = StartTurn.unnumbered _ (UnnumberedTurn.refused refusal e)
start_is s blob place bytes _ e = StartTurn.unnumbered _ UnnumberedTurn.out_of_memory

module _ (s : Session) (blob : ℕ) (place : Place) (bytes : List ℕ) (version at size : ℕ) where
  abbrev front : List Event
  front = Events.Assign s.caller blob place bytes ∷ []

  abbrev Whole : Turn → Type 0
  Whole turn = WholeTurn s blob place version at size front [] turn

  whole_tests_are : (low early : Bool) (pages : List ℕ) (least : ℕ)
      → (low ≡ false → outcome_at s front (Calls.Sync blob (version - 1)) ≡ (if early then Outcomes.Refused (Refusals.Pending (version - 1) least) else Outcomes.Synced (version - 1)))
      → folds_in s.fixed.page (store_at s front) blob version ≡ pages → Whole (whole_tests s blob place version at size low (let t : Bool = elim early [ true ↦ any pages | false ↦ false ] in t))
  whole_tests_are true early pages least sync folds = WholeTurn.out_of_memory
  whole_tests_are false true [] least sync folds = WholeTurn.finished refl (no_folds s front blob version folds)
  whole_tests_are false true (page ∷ pages) least sync folds = WholeTurn.held_back refl (λ none. (let never : ⊥ = cc in never))
  whole_tests_are false false pages least sync folds = WholeTurn.finished refl (λ some. sync refl)

  whole_is : (o : Option Blob) → blob_at (store_at s front) blob ≡ o → Whole (whole_turn s blob place version at size o)
  whole_is None there =
      WholeTurn.finished refl (no_folds s front blob version
      (ap (λ (o : Option Blob). (let l : List ℕ = elim o [ None ↦ [] | Some b ↦ folds_of s.fixed.page (extents b.updates) version ] in l)) there))
  whole_is (Some b) there =
      whole_tests_are (nat_lt (assigned b) (version - 1)) (nat_lt (published b) (version - 1)) (folds_of s.fixed.page (extents b.updates) version) (held b)
      (sync_is s front blob version b there) (folds_are s front blob version b there)

update_is : (s : Session) (blob : ℕ) (place : Place) (bytes : List ℕ) (o : Outcome) → outcome_at s [] (Calls.Assign blob place bytes) ≡ o
    → WholeAnswer IsNobody s blob place bytes (update_told s blob place bytes o).reply (update_told s blob place bytes o).next
update_is s blob place bytes (Outcomes.Assigned version at size) e =
    let o : Option Blob = blob_at (store_at s (Events.Assign s.caller blob place bytes ∷ [])) blob in
    UpdateAnswer.twice (record {
      others = [];
      later = [];
      is_gap = refl;
      is_gap_later = refl;
      version = version;
      at = at;
      size = size;
      numbered = e;
      turn = whole_turn s blob place version at size o;
      may = whole_is s blob place bytes version at size o refl;
      said = refl;
      seen = refl;
    })
update_is s blob place bytes (Outcomes.Refused refusal) e = UpdateAnswer.once (is_after s _ _ (UnnumberedTurn.refused refusal e))
update_is s blob place bytes _ e = UpdateAnswer.once (is_after s _ _ UnnumberedTurn.out_of_memory)

-- What is told is one of the answers.
class_is : (s : Session) (c : Class) → ClassAnswer IsNobody s c (class_told s c).reply (class_told s c).next
class_is s Class.greets = (refl, refl)
class_is s Class.quits = (refl, refl)
class_is s (Class.looks call) = record { others = []; is_gap = refl; said = refl; seen = refl }
class_is s (Class.adds call) = is_after s _ _ (add_is s call (outcome_at s [] call) refl)
class_is s (Class.reads blob version offset count) =
    unless_is (λ r s'. AfterGap IsNobody s (ReadTurn s blob version offset count) r s') (read_fault count) s _ (is_after s _ _ (read_is s blob version offset count _ refl))
class_is s (Class.reads_many blob version ranges) =
    unless_is (λ r s'. AfterGap IsNobody s (ReadManyTurn s blob version ranges) r s') (ranges_fault 0 ranges) s _ (is_after s _ _ (many_is s blob version ranges [] ranges [] refl refl))
class_is s (Class.starts blob place bytes) =
    unless_is (λ r s'. StartAnswer IsNobody s blob place bytes r s') (update_fault s bytes) s _ (UpdateAnswer.once (is_after s _ _ (start_is s blob place bytes _ refl)))
class_is s (Class.updates blob place bytes) = unless_is (λ r s'. WholeAnswer IsNobody s blob place bytes r s') (update_fault s bytes) s _ (update_is s blob place bytes _ refl)
class_is s (Class.reports number) = held_is s number (ticket_at s.tickets number)
class_is s (Class.repairs blob version) = is_after s _ _ (repair_is s blob version)

pub request_is : (s : Session) (request : Request) → Answers IsNobody s request (request_told s request).reply (request_told s request).next
request_is s request = class_is s (class_of request)

-- ---- whole lists of items
abbrev pub item_told : Session → Heard → Told
item_told s (Asked request) = request_told s request
item_told s (Wrong fault) = told (Replies.Refused fault) s

abbrev pub replies_told : Session → List Heard → List Reply
replies_told s [] = []
replies_told s (item ∷ items) = (item_told s item).reply ∷ replies_told (item_told s item).next items

abbrev pub last_told : Session → List Heard → Session
last_told s [] = s
last_told s (item ∷ items) = last_told (item_told s item).next items

pub item_is : (s : Session) (item : Heard) → ItemReply IsNobody s item (item_told s item).reply (item_told s item).next
item_is s (Asked request) = request_is s request
item_is s (Wrong fault) = (refl, refl)

-- What is told of a list of items is a run.
unfoldable pub told_is : (s : Session) (items : List Heard) → Run IsNobody s items (replies_told s items) (last_told s items)
told_is s [] = refl
told_is s (item ∷ items) = ((item_told s item).next, item_is s item, told_is (item_told s item).next items)
