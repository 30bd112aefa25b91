-- What answers make of a session's own events.
use Rattle.std.proofs.Common.{◌≡◌, ℕ, ◌==◌, nat_lt, Bool, true, false, if◌then◌else◌, cond, List, [], ◌∷◌, ◌++◌, length, refl, sym, ap, subst, ◌∙◌, append_assoc}
use Rattle.std.specs.Prelude.{Option, Some, None, IfSome}
use Rattle.std.proofs.lemmas.Bool.{eq-eqb, ne_eqb}
use Rattle.std.proofs.lemmas.List.Elements.{filter-append}
use Rattle.blob_model.specs.Store.{Store, Blob, blob_at}
use Rattle.blob_model.specs.Answer.{Test, Answered, answer, refuse, first_refusal, offset_past_size, blob_too_big, too_many_versions, too_many_open}
use Rattle.blob_model.specs.History.{caller_of, events_by, event_of, is_refused, AllOther}
use Rattle.blob_model.specs.declared.call.Event.{Event}
use Rattle.blob_model.specs.declared.call.Event.TheVariants as Events
use Rattle.blob_model.specs.declared.call.Place.{Place}
use Rattle.blob_model.specs.declared.call.Place.TheVariants.{WriteAt, Append}
use Rattle.blob_model.specs.declared.call.Call.{Call}
use Rattle.blob_model.specs.declared.call.Call.TheVariants as Calls
use Rattle.blob_model.specs.declared.call.Outcome.{Outcome}
use Rattle.blob_model.specs.declared.call.Outcome.TheVariants as Outcomes
use Rattle.blob_model.specs.declared.call.Refusal.{Refusal}
use Rattle.blob_model.specs.declared.call.Refusal.TheVariants as Refusals
use Rattle.request_form.specs.declared.form.Request.{Request}
use Rattle.request_form.specs.declared.form.Reply.{Reply}
use Rattle.request_form.specs.declared.form.Reply.TheVariants as Replies
use Rattle.request_form.specs.declared.form.Heard.{Heard}
use Rattle.request_form.specs.declared.form.Heard.TheVariants.{Asked, Wrong}
use Rattle.request_form.specs.declared.form.Fault.{Fault}
use Rattle.request_form.specs.declared.form.Fault.TheVariants as Faults
use Rattle.request_form.specs.Replies.{fault_of, added_reply, update_reply, start_reply}
use Rattle.request_form.specs.Session.{Session, HeldTicket, store_at, outcome_at, ticket_at, AllOwn}
use Rattle.request_form.specs.Turns.{Tickets, Turn, and_made, AfterGap, AfterTwoGaps}
use Rattle.request_form.specs.Answers.{AddTurn, ReadTurn, ReadManyTurn, FinishTurn, RepairTurn, UnnumberedTurn, StartTurn, StartedTurn, WholeTurn, Unless, UpdateAnswer, FinishAnswer, Class, class_of, ClassAnswer, Answers, update_fault, read_fault, ranges_fault, max_tickets}
use Rattle.request_form.specs.Transcript.{Run, ItemReply}
use Rattle.request_form.specs.Own.{add_made, update_made, finish_made, held_made, class_made, events_made, item_made, made_by, Makes}
use Rattle.request_form.proofs.Runs.{Grows, same_grows, grows_none, changed_grows, made_is, turn_grows, two_turns_grow}

-- ---- a caller's events in a list
-- a gap has none of them
pub none_own : (caller : ℕ) (others : List Event) → AllOther caller others → events_by caller others ≡ []
none_own caller [] all = refl
none_own caller (e ∷ es) all = ap (λ (t : Bool). cond t (e ∷ events_by caller es) (events_by caller es)) (ne_eqb (caller_of e) caller all.0) ∙ none_own caller es all.1

pub events_by-append : (caller : ℕ) (xs ys : List Event) → events_by caller (xs ++ ys) ≡ events_by caller xs ++ events_by caller ys
events_by-append caller xs ys = filter-append (λ e. caller_of e == caller) xs ys

-- behind a gap, they are those that come then
pub own_behind : (caller : ℕ) (others more : List Event) → AllOther caller others → events_by caller (others ++ more) ≡ events_by caller more
own_behind caller others more all = events_by-append caller others more ∙ ap (λ (l : List Event). l ++ events_by caller more) (none_own caller others all)

-- an own event in front is the first
pub own_first : (caller : ℕ) (e : Event) (es : List Event) → caller_of e ≡ caller → events_by caller (e ∷ es) ≡ e ∷ events_by caller es
own_first caller e es own = ap (λ (t : Bool). cond t (e ∷ events_by caller es) (events_by caller es)) (eq-eqb (caller_of e) caller own)

-- own events alone
own_all : (caller : ℕ) (es : List Event) → AllOwn caller es → events_by caller es ≡ es
own_all caller [] all = refl
own_all caller (e ∷ es) all = own_first caller e es all.0 ∙ ap (λ (l : List Event). e ∷ l) (own_all caller es all.1)

-- ---- a session that has seen more
pub makes : (s s' : Session) (more own : List Event) → Grows s more s' → events_by s.caller more ≡ own → Makes s own s'
makes s s' more own goes is = record {
  fixed = goes.fixed;
  caller = goes.caller;
  more = more;
  seen = goes.seen;
  own_after = ap (λ (l : List Event). events_by s.caller l) goes.seen
      ∙ (events_by-append s.caller s.seen more ∙ ap (λ (l : List Event). events_by s.caller s.seen ++ l) is);
}

pub Makes-trans : (s mid s' : Session) (first rest : List Event) → Makes s first mid → Makes mid rest s' → Makes s (first ++ rest) s'
Makes-trans s mid s' first rest a b = record {
  fixed = b.fixed ∙ a.fixed;
  caller = b.caller ∙ a.caller;
  more = a.more ++ b.more;
  seen = b.seen ∙ (ap (λ (l : List Event). l ++ b.more) a.seen ∙ append_assoc s.seen a.more b.more);
  own_after = ap (λ (c : ℕ). events_by c s'.seen) (sym a.caller)
      ∙ (b.own_after
      ∙ (ap (λ (c : ℕ). events_by c mid.seen ++ rest) a.caller
      ∙ (ap (λ (l : List Event). l ++ rest) a.own_after ∙ append_assoc (events_by s.caller s.seen) first rest)));
}

pub makes_none : (s s' : Session) → s' ≡ s → Makes s [] s'
makes_none s s' e = makes s s' [] [] (same_grows s s' e) refl

-- a gap, and own events behind it
own_after_gap : (caller : ℕ) (others made : List Event) → AllOther caller others → AllOwn caller made → events_by caller (and_made others made) ≡ made
own_after_gap caller others made gap own = ap (λ (l : List Event). events_by caller l) (made_is others made) ∙ (own_behind caller others made gap ∙ own_all caller made own)

-- ---- what the store refuses makes none: an update for one of four reasons, or as there is no such blob
-- what holds of each test's refusal holds of the first
AllTests : (Refusal → Type 0) → List Test → Type 0
AllTests P [] = Unit {0}
AllTests P (t ∷ ts) = P t.refusal × AllTests P ts

first_of_tests : (P : Refusal → Type 0) (t : Bool) (r : Refusal) (rest : Option Refusal) → P r → IfSome rest P → IfSome (if t then Some r else rest) P
first_of_tests P true r rest here more = here
first_of_tests P false r rest here more = more

tests_each : (P : Refusal → Type 0) (tests : List Test) → AllTests P tests → IfSome (first_refusal tests) P
unfolding AllTests
tests_each P [] all = tt
tests_each P (t ∷ ts) all = first_of_tests P t.refuses t.refusal (first_refusal ts) all.0 (tests_each P ts all.1)

refusal_is : (P : Refusal → Type 0) (s : Store) (o : Option Refusal) (done : Answered) (refusal : Refusal) → IfSome o P → is_refused done.1 ≡ false
    → (let a : Answered = elim o [ Some r ↦ refuse s r | None ↦ done ] in a).1 ≡ Outcomes.Refused refusal → P refusal
refusal_is P s (Some r) done refusal each not e = let same : r ≡ refusal = cc in subst P same each
refusal_is P s None done refusal each not e =
    let no : is_refused done.1 ≡ true = ap (λ (o : Outcome). is_refused o) e in
    let never : false ≡ true = sym not ∙ no in
    (let absurdity : ⊥ = cc in absurd absurdity)

in_blob_refused : (P : Refusal → Type 0) (s : Store) (blob : ℕ) (o : Option Blob) (f : Blob → Answered) (refusal : Refusal) → P (Refusals.NoBlob blob)
    → ((b : Blob) → (f b).1 ≡ Outcomes.Refused refusal → P refusal)
    → (let a : Answered = elim o [ None ↦ refuse s (Refusals.NoBlob blob) | Some b ↦ f b ] in a).1 ≡ Outcomes.Refused refusal → P refusal
in_blob_refused P s blob None f refusal no_blob there e = let same : Refusals.NoBlob blob ≡ refusal = cc in subst P same no_blob
in_blob_refused P s blob (Some b) f refusal no_blob there e = there b e

assign_refused : (P : Refusal → Type 0) (s : Store) (caller blob : ℕ) (place : Place) (bytes : List ℕ) (refusal : Refusal) → P (Refusals.NoBlob blob)
    → ((offset size : ℕ) → P (Refusals.OffsetPastSize offset size))
    → ((end limit : ℕ) → P (Refusals.BlobTooBig end limit))
    → ((limit : ℕ) → P (Refusals.TooManyVersions limit))
    → ((limit : ℕ) → P (Refusals.TooManyOpen limit))
    → (answer s caller (Calls.Assign blob place bytes)).1 ≡ Outcomes.Refused refusal → P refusal
unfolding AllTests
assign_refused P s caller blob place bytes refusal no_blob offset big versions waiting e =
    in_blob_refused P s blob (blob_at s blob) _ refusal no_blob (λ b told.
    let tests : List Test = offset_past_size b place ∷ blob_too_big s b place bytes ∷ too_many_versions s b ∷ too_many_open s b ∷ [] in
    refusal_is P s (first_refusal tests) _ refusal (tests_each P tests (offset _ _, (big _ _, (versions _, (waiting _, tt))))) refl told) e

-- an update that the store refuses
update_refused : (s : Session) (front : List Event) (blob : ℕ) (place : Place) (bytes : List ℕ) (refusal : Refusal) → outcome_at s front (Calls.Assign blob place bytes) ≡ Outcomes.Refused refusal
    → update_made s.caller blob place bytes (Replies.Refused (fault_of refusal)) ≡ []
update_refused s front blob place bytes refusal e =
    assign_refused (λ (r : Refusal). update_made s.caller blob place bytes (Replies.Refused (fault_of r)) ≡ []) (store_at s front) s.caller blob place bytes refusal
    refl (λ o z. refl) (λ n l. refl) (λ l. refl) (λ l. refl) e

-- the session's own refusal of an update makes none
fault_first : (P : Fault → Type 0) (t : Bool) (fault : Fault) (rest : Option Fault) → P fault → IfSome rest P → IfSome (if t then Some fault else rest) P
fault_first P true fault rest here more = here
fault_first P false fault rest here more = more

own_faults : (P : Fault → Type 0) (s : Session) (bytes : List ℕ) → P Faults.EmptyUpdate → ((n : ℕ) → P (Faults.UpdateTooLong n)) → P Faults.TooManyTickets
    → IfSome (update_fault s bytes) P
own_faults P s bytes none long many =
    fault_first P (length bytes == 0) _ _ none (fault_first P (nat_lt s.limit (length bytes)) _ _ (long _) (fault_first P (length s.tickets == max_tickets) _ _ many tt))

-- ---- what a turn made, by its reply
-- These are the events that the turn made, and they are the session's own.
pub record Tells (s : Session) (made : List Event) (turn : Turn) : Type 0 where
  pub is : made ≡ turn.made
  pub own : AllOwn s.caller turn.made

event_own : (caller : ℕ) (call : Call) → AllOwn caller (event_of caller call)
event_own caller Calls.Create = (refl, tt)
event_own caller (Calls.Assign blob place bytes) = (refl, tt)
event_own caller (Calls.Finish blob version) = (refl, tt)
event_own caller (Calls.Branch blob version) = (refl, tt)
event_own caller _ = tt

added_told : (caller : ℕ) (call : Call) (blob : ℕ) → add_made caller call (added_reply call blob) ≡ event_of caller call
added_told caller (Calls.Branch other version) blob = refl
added_told caller _ blob = refl

module _ (s : Session) (front : List Event) where
  add_tells : (call : Call) (turn : Turn) → AddTurn s call front turn → Tells s (add_made s.caller call turn.said) turn
  add_tells call _ (AddTurn.added blob e) = record { is = added_told s.caller call blob; own = event_own s.caller call }
  add_tells call _ (AddTurn.refused refusal e) = record { is = refl; own = tt }
  add_tells call _ AddTurn.out_of_memory = record { is = refl; own = tt }

  pub read_tells : (blob version offset count : ℕ) (turn : Turn) → ReadTurn s blob version offset count front turn → Tells s [] turn
  read_tells blob version offset count _ (ReadTurn.content bytes e) = record { is = refl; own = tt }
  read_tells blob version offset count _ (ReadTurn.refused refusal e) = record { is = refl; own = tt }
  read_tells blob version offset count _ ReadTurn.out_of_memory = record { is = refl; own = tt }
  read_tells blob version offset count _ (ReadTurn.not_read bytes e some page meets) = record { is = refl; own = tt }

  many_tells : (blob version : ℕ) (ranges : List (ℕ × ℕ)) (turn : Turn) → ReadManyTurn s blob version ranges front turn → Tells s [] turn
  many_tells blob version ranges _ (ReadManyTurn.contents bytes are) = record { is = refl; own = tt }
  many_tells blob version ranges _ (ReadManyTurn.refused before after range bytes joins first refusal e) = record { is = refl; own = tt }
  many_tells blob version ranges _ ReadManyTurn.out_of_memory = record { is = refl; own = tt }
  many_tells blob version ranges _ (ReadManyTurn.not_read bytes are range among some page meets) = record { is = refl; own = tt }

  pub finish_tells : (blob version : ℕ) (says : ℕ → Reply) (settled hindered : Tickets)
      → ((published : ℕ) → finish_made s.caller blob version (says published) ≡ Events.Finish s.caller blob version ∷ []) → (turn : Turn)
      → FinishTurn s blob version says settled hindered front turn → Tells s (finish_made s.caller blob version turn.said) turn
  finish_tells blob version says settled hindered made _ (FinishTurn.finished published unfinished ready e) = record { is = made published; own = (refl, tt) }
  finish_tells blob version says settled hindered made _ (FinishTurn.found e) = record { is = refl; own = tt }
  finish_tells blob version says settled hindered made _ (FinishTurn.waits held unfinished folds e) = record { is = refl; own = tt }
  finish_tells blob version says settled hindered made _ (FinishTurn.not_folded page unfinished folds ready) = record { is = refl; own = tt }
  finish_tells blob version says settled hindered made _ FinishTurn.out_of_memory = record { is = refl; own = tt }

  repair_tells : (blob version : ℕ) (turn : Turn) → RepairTurn s blob version front turn → Tells s (finish_made s.caller blob version turn.said) turn
  repair_tells blob version turn (RepairTurn.finish _ t) = finish_tells blob version _ _ _ (λ published. refl) turn t
  repair_tells blob version _ (RepairTurn.refused refusal e other) = record { is = refl; own = tt }

  unnumbered_tells : (blob : ℕ) (place : Place) (bytes : List ℕ) (turn : Turn) → UnnumberedTurn s blob place bytes front turn → Tells s (update_made s.caller blob place bytes turn.said) turn
  unnumbered_tells blob place bytes _ (UnnumberedTurn.refused refusal e) = record { is = update_refused s front blob place bytes refusal e; own = tt }
  unnumbered_tells blob place bytes _ UnnumberedTurn.out_of_memory = record { is = refl; own = tt }
  unnumbered_tells blob place bytes _ (UnnumberedTurn.not_stored page is stored) = record { is = refl; own = tt }

-- the numbering and finish of an update that is told, and the numbering of one that is held
numbers_told : (caller blob : ℕ) (place : Place) (bytes : List ℕ) (version at size : ℕ)
    → update_made caller blob place bytes (update_reply place version at size) ≡ Events.Assign caller blob place bytes ∷ Events.Finish caller blob version ∷ []
numbers_told caller blob Append bytes version at size = refl
numbers_told caller blob (WriteAt offset) bytes version at size = refl

start_told : (caller blob : ℕ) (place : Place) (bytes : List ℕ) (ticket version at size : ℕ)
    → update_made caller blob place bytes (start_reply place ticket version at size) ≡ Events.Assign caller blob place bytes ∷ []
start_told caller blob Append bytes ticket version at size = refl
start_told caller blob (WriteAt offset) bytes ticket version at size = refl

module _ (s : Session) (blob : ℕ) (place : Place) (bytes : List ℕ) (front : List Event) where
  start_tells : (turn : Turn) → StartTurn s blob place bytes front turn → Tells s (update_made s.caller blob place bytes turn.said) turn
  start_tells _ (StartTurn.started version at size e) = record { is = start_told s.caller blob place bytes s.next version at size; own = (refl, tt) }
  start_tells turn (StartTurn.unnumbered _ t) = unnumbered_tells s front blob place bytes turn t

  -- what the turn after the numbering made comes behind it
  abbrev TellsThen : Turn → Type 0
  TellsThen turn = (update_made s.caller blob place bytes turn.said ≡ Events.Assign s.caller blob place bytes ∷ turn.made) × AllOwn s.caller turn.made

  started_tells : (version at size : ℕ) (later : List Event) (turn : Turn) → StartedTurn s blob version at size front later turn → TellsThen turn
  started_tells version at size later _ StartedTurn.out_of_memory = (refl, tt)

  whole_tells : (version at size : ℕ) (later : List Event) (turn : Turn) → WholeTurn s blob place version at size front later turn → TellsThen turn
  whole_tells version at size later _ (WholeTurn.finished none ready) = (numbers_told s.caller blob place bytes version at size, (refl, tt))
  whole_tells version at size later _ (WholeTurn.found some) = (refl, tt)
  whole_tells version at size later _ (WholeTurn.held_back none folds) = (start_told s.caller blob place bytes s.next version at size, tt)
  whole_tells version at size later _ WholeTurn.out_of_memory = (refl, tt)

-- ---- answers
module _ (s s' : Session) where
  pub once_makes : (May : List Event → Turn → Type 0) (M : Reply → List Event) (reply : Reply) → ((front : List Event) (turn : Turn) → May front turn → Tells s (M turn.said) turn)
      → AfterGap AllOther s May reply s' → Makes s (M reply) s'
  once_makes May M reply tells a =
      let t = tells a.others a.turn a.may in
      makes s s' (and_made a.others a.turn.made) (M reply) (turn_grows AllOther s May reply s' a)
      (own_after_gap s.caller a.others a.turn.made a.is_gap t.own ∙ (sym t.is ∙ ap M (sym a.said)))

  twice_makes : (blob : ℕ) (place : Place) (bytes : List ℕ) (May : ℕ → ℕ → ℕ → List Event → List Event → Turn → Type 0) (reply : Reply)
      → ((version at size : ℕ) (front later : List Event) (turn : Turn) → May version at size front later turn → TellsThen s blob place bytes front turn)
      → AfterTwoGaps AllOther s blob place bytes May reply s' → Makes s (update_made s.caller blob place bytes reply) s'
  twice_makes blob place bytes May reply tells a =
      let this : Event = Events.Assign s.caller blob place bytes in
      let t = tells a.version a.at a.size (a.others ++ this ∷ a.later) a.later a.turn a.may in
      makes s s' (a.others ++ this ∷ and_made a.later a.turn.made) (update_made s.caller blob place bytes reply) (two_turns_grow AllOther s blob place bytes May reply s' a)
      (own_behind s.caller a.others (this ∷ and_made a.later a.turn.made) a.is_gap
      ∙ (own_first s.caller this (and_made a.later a.turn.made) refl
      ∙ (ap (λ (l : List Event). this ∷ l) (own_after_gap s.caller a.later a.turn.made a.is_gap_later t.1)
      ∙ (sym t.0 ∙ ap (λ (r : Reply). update_made s.caller blob place bytes r) (sym a.said)))))

  unless_makes : (o : Option Fault) (M : Reply → List Event) (reply : Reply) (Answer : Type 0) → IfSome o (λ fault. M (Replies.Refused fault) ≡ []) → (Answer → Makes s (M reply) s')
      → Unless o s reply s' Answer → Makes s (M reply) s'
  unless_makes (Some fault) M reply Answer none f u = subst (λ (l : List Event). Makes s l s') (sym none ∙ ap M (sym u.0)) (makes_none s s' u.1)
  unless_makes None M reply Answer none f u = f u

  update_makes : (blob : ℕ) (place : Place) (bytes : List ℕ) (First : List Event → Turn → Type 0) (Second : ℕ → ℕ → ℕ → List Event → List Event → Turn → Type 0) (reply : Reply)
      → ((front : List Event) (turn : Turn) → First front turn → Tells s (update_made s.caller blob place bytes turn.said) turn)
      → ((version at size : ℕ) (front later : List Event) (turn : Turn) → Second version at size front later turn → TellsThen s blob place bytes front turn)
      → UpdateAnswer AllOther s blob place bytes First Second reply s' → Makes s (update_made s.caller blob place bytes reply) s'
  update_makes blob place bytes First Second reply first second (UpdateAnswer.once a) = once_makes First (λ r. update_made s.caller blob place bytes r) reply first a
  update_makes blob place bytes First Second reply first second (UpdateAnswer.twice a) = twice_makes blob place bytes Second reply second a

  own_fault_none : (blob : ℕ) (place : Place) (bytes : List ℕ) → IfSome (update_fault s bytes) (λ fault. update_made s.caller blob place bytes (Replies.Refused fault) ≡ [])
  own_fault_none blob place bytes = own_faults (λ fault. update_made s.caller blob place bytes (Replies.Refused fault) ≡ []) s bytes refl (λ n. refl) refl

  read_none : (o : Option Fault) (reply : Reply) (May : List Event → Turn → Type 0) → ((front : List Event) (turn : Turn) → May front turn → Tells s [] turn)
      → Unless o s reply s' (AfterGap AllOther s May reply s') → Makes s [] s'
  read_none (Some fault) reply May tells u = makes_none s s' u.1
  read_none None reply May tells a = once_makes May (λ r. []) reply tells a

  held_makes : (number : ℕ) (o : Option HeldTicket) (reply : Reply) → FinishAnswer AllOther s number o reply s' → Makes s (held_made s.caller o reply) s'
  held_makes number None reply a = makes_none s s' a.1
  held_makes number (Some ticket) reply a =
      once_makes _ (finish_made s.caller ticket.blob ticket.version) reply (λ front turn t. finish_tells s front ticket.blob ticket.version _ _ _ (λ published. refl) turn t) a

  class_makes : (c : Class) (reply : Reply) → ClassAnswer AllOther s c reply s' → Makes s (class_made s c reply) s'
  class_makes Class.greets reply a = makes s s' [] [] (grows_none s s' (ap (λ (x : Session). x.fixed) a.1) (ap (λ (x : Session). x.caller) a.1) (ap (λ (x : Session). x.seen) a.1)) refl
  class_makes Class.quits reply a = makes_none s s' a.1
  class_makes (Class.looks call) reply a = makes s s' a.others [] (changed_grows Tickets.stay s a.others s' a.seen) (none_own s.caller a.others a.is_gap)
  class_makes (Class.adds call) reply a = once_makes (AddTurn s call) (λ r. add_made s.caller call r) reply (λ front turn t. add_tells s front call turn t) a
  class_makes (Class.reads blob version offset count) reply a = read_none (read_fault count) reply _ (λ front turn t. read_tells s front blob version offset count turn t) a
  class_makes (Class.reads_many blob version ranges) reply a = read_none (ranges_fault 0 ranges) reply _ (λ front turn t. many_tells s front blob version ranges turn t) a
  class_makes (Class.starts blob place bytes) reply a =
      unless_makes (update_fault s bytes) (λ r. update_made s.caller blob place bytes r) reply _ (own_fault_none blob place bytes)
      (update_makes blob place bytes _ _ reply (λ front turn t. start_tells s blob place bytes front turn t) (λ v at z front later turn t. started_tells s blob place bytes front v at z later turn t)) a
  class_makes (Class.updates blob place bytes) reply a =
      unless_makes (update_fault s bytes) (λ r. update_made s.caller blob place bytes r) reply _ (own_fault_none blob place bytes)
      (update_makes blob place bytes _ _ reply (λ front turn t. unnumbered_tells s front blob place bytes turn t) (λ v at z front later turn t. whole_tells s blob place bytes front v at z later turn t)) a
  class_makes (Class.reports number) reply a = held_makes number (ticket_at s.tickets number) reply a
  class_makes (Class.repairs blob version) reply a = once_makes _ (finish_made s.caller blob version) reply (λ front turn t. repair_tells s front blob version turn t) a

pub answer_makes : (s : Session) (request : Request) (reply : Reply) (s' : Session) → Answers AllOther s request reply s' → Makes s (events_made s request reply) s'
answer_makes s request reply s' a = class_makes s s' (class_of request) reply a

item_makes : (s : Session) (item : Heard) (reply : Reply) (s' : Session) → ItemReply AllOther s item reply s' → Makes s (item_made s item reply) s'
item_makes s (Asked request) reply s' a = answer_makes s request reply s' a
item_makes s (Wrong fault) reply s' a = makes_none s s' a.1

pub run_makes : (s : Session) (items : List Heard) (replies : List Reply) (s' : Session) (run : Run AllOther s items replies s') → Makes s (made_by AllOther s items replies s' run) s'
run_makes s [] [] s' e = makes_none s s' e
run_makes s (item ∷ items) (reply ∷ replies) s' (mid, first, rest) =
    Makes-trans s mid s' _ _ (item_makes s item reply mid first) (run_makes mid items replies s' rest)
run_makes s [] (reply ∷ replies) s' none = absurd none
run_makes s (item ∷ items) [] s' none = absurd none
