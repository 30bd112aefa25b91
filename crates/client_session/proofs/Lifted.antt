-- What an act does to an update is told of the session without its tickets. Here the session with its tickets has it too.
use Rattle.std.proofs.Common.{◌≡◌, ◌≢◌, refl, sym, ◌∙◌, ap, ℕ, ◌-◌, Bool, true, false, if◌then◌else◌, List, [], ◌∷◌, ◌++◌, Some, Result, Ok, Err}
use Rattle.blob_model.specs.Store.{Store, published}
use Rattle.blob_model.specs.Answer.{repair_refusal}
use Rattle.blob_model.specs.History.{AllOther}
use Rattle.blob_model.specs.declared.call.Place.{Place}
use Rattle.blob_model.specs.declared.call.Event.{Event}
use Rattle.blob_model.specs.declared.call.Event.TheVariants as Events
use Rattle.blob_model.specs.declared.call.Refusal.{Refusal}
use Rattle.blob_model.specs.declared.call.Refusal.TheVariants as Refusals
use Rattle.request_form.specs.Session.{Session, HeldTicket, store_at, sees, without_ticket, without_version}
use Rattle.request_form.specs.Turns.{Tickets, Turn, refuses, with_tickets, and_made, AfterGap}
use Rattle.request_form.proofs.Runs.{changed_grows}
use Rattle.request_form.specs.Answers.{FinishTurn, RepairTurn, UnnumberedTurn, FinishAnswer, max_update}
use Rattle.request_form.specs.Replies.{fault_of}
use Rattle.request_form.specs.declared.form.Reply.{Reply}
use Rattle.request_form.specs.declared.form.Reply.TheVariants as Replies
use Rattle.request_form.specs.declared.form.Fault.{Fault}
use Rattle.request_form.specs.declared.form.Fault.TheVariants as Faults
use Rattle.client_session.proofs.StoreAnswers.{found_already}
use Rattle.client_session.specs.Results.{finish_reply, repair_reply}
use Rattle.client_session.specs.Finishing.{settles}

-- the session without its tickets
abbrev pub unheld : Session → Session
unheld s = record { fixed = s.fixed; caller = s.caller; seen = s.seen; tickets = []; next = 1; limit = max_update }

-- the session once it has seen that history and holds these tickets
abbrev pub then_holds : Session → List Event → List HeldTicket → Session
then_holds s seen tickets = record { fixed = s.fixed; caller = s.caller; seen = seen; tickets = tickets; next = s.next; limit = s.limit }

-- ---- replies
repaired_settles : (said : Result ℕ Fault) (published : ℕ) → repair_reply said ≡ Replies.Repaired published → settles said ≡ true
repaired_settles (Ok p) published e = refl
repaired_settles (Err fault) published e = let never : ⊥ = cc in absurd never

refused_settles : (said : Result ℕ Fault) (fault : Fault) (x : Bool) → settles (Err fault) ≡ x → repair_reply said ≡ Replies.Refused fault → settles said ≡ x
refused_settles (Ok p) fault x is e = let never : ⊥ = cc in absurd never
refused_settles (Err other) fault x is e = let same : other ≡ fault = cc in ap (λ (f : Fault). settles (Err f)) same ∙ is

repaired_finishes : (said : Result ℕ Fault) (published : ℕ) → repair_reply said ≡ Replies.Repaired published → finish_reply said ≡ Replies.Finished published
repaired_finishes (Ok p) published e = let same : p ≡ published = cc in ap (λ (n : ℕ). Replies.Finished n) same
repaired_finishes (Err fault) published e = let never : ⊥ = cc in absurd never

refused_finishes : (said : Result ℕ Fault) (fault : Fault) → repair_reply said ≡ Replies.Refused fault → finish_reply said ≡ Replies.Refused fault
refused_finishes (Ok p) fault e = let never : ⊥ = cc in absurd never
refused_finishes (Err other) fault e = e

-- a refusal that isn't Already leaves the tickets
other_settles : (store : Store) (blob version : ℕ) (refusal : Refusal) → repair_refusal store blob version ≡ Some refusal → refusal ≢ Refusals.Already version → settles (Err (fault_of refusal)) ≡ false
other_settles store blob version (Refusals.NoBlob b) e other = refl
other_settles store blob version (Refusals.NotPublished v p) e other = refl
other_settles store blob version (Refusals.OffsetPastSize o s) e other = refl
other_settles store blob version (Refusals.BlobTooBig e' l) e other = refl
other_settles store blob version (Refusals.TooManyVersions l) e other = refl
other_settles store blob version (Refusals.TooManyOpen l) e other = refl
other_settles store blob version (Refusals.TooManyBlobs l) e other = refl
other_settles store blob version (Refusals.Already v) e other = absurd (other (ap (λ (n : ℕ). Refusals.Already n) (found_already store blob version v e).0))
other_settles store blob version (Refusals.RangePastSize e' s) e other = refl
other_settles store blob version (Refusals.Pending v h) e other = refl

-- ---- with tickets
-- the tickets after it, by whether it is settled
abbrev pub left_if : Bool → List HeldTicket → List HeldTicket → List HeldTicket
left_if settled left held = if settled then left else held

module _ (s x : Session) (said : Result ℕ Fault) where
  seen_by : (tickets : Tickets) (left : List HeldTicket) (b : Bool) (more : List Event) → settles said ≡ b → x.seen ≡ s.seen ++ more
      → with_tickets tickets (sees s more) ≡ then_holds s (s.seen ++ more) (left_if b left s.tickets)
      → then_holds s x.seen (left_if (settles said) left s.tickets) ≡ with_tickets tickets (sees s more)
  seen_by tickets left b more is seen e =
      ap (λ (h : List Event). then_holds s h (left_if (settles said) left s.tickets)) seen
      ∙ (ap (λ (t : Bool). then_holds s (s.seen ++ more) (left_if t left s.tickets)) is ∙ sym e)

  -- A finish by the session without its tickets is one by the session with them, which says it in its own way.
  module _ (blob version : ℕ) (says : ℕ → Reply) (settled : Tickets) (left : List HeldTicket) (keeps : (more : List Event) → with_tickets settled (sees s more) ≡ then_holds s (s.seen ++ more) left)
      (others : List Event) (reply : Reply) where
    abbrev Lifts : Turn → Type 0
    Lifts turn = FinishTurn s blob version says settled Tickets.stay others turn × ((reply ≡ turn.said)
        × (then_holds s x.seen (left_if (settles said) left s.tickets) ≡ with_tickets turn.tickets (sees s (and_made others turn.made))))

    finish_lifts : (done : (published : ℕ) → repair_reply said ≡ Replies.Repaired published → reply ≡ says published)
        → (refused : (fault : Fault) → repair_reply said ≡ Replies.Refused fault → reply ≡ Replies.Refused fault) → (turn : Turn)
        → FinishTurn (unheld s) blob version (λ published. Replies.Repaired published) (Tickets.let_go blob version) Tickets.stay others turn
        → repair_reply said ≡ turn.said → x.seen ≡ s.seen ++ and_made others turn.made → (t : Turn) × Lifts t
    finish_lifts done refused _ (FinishTurn.finished published unfinished ready e) told seen = (
      record { said = says published; made = Events.Finish s.caller blob version ∷ []; tickets = settled },
      (
        FinishTurn.finished published unfinished ready e,
        (done published told, seen_by settled left true (others ++ Events.Finish s.caller blob version ∷ []) (repaired_settles said published told) seen (keeps (others ++ Events.Finish s.caller blob version ∷ []))),
      ),
    )
    finish_lifts done refused _ (FinishTurn.found e) told seen = (
      record { said = Replies.Refused (Faults.Already version); made = []; tickets = settled },
      (FinishTurn.found e, (refused (Faults.Already version) told, seen_by settled left true others (refused_settles said (Faults.Already version) true refl told) seen (keeps others))),
    )
    finish_lifts done refused _ (FinishTurn.waits held unfinished folds e) told seen = (
      record { said = Replies.Refused (Faults.Pending (version - 1) held); made = []; tickets = Tickets.stay },
      (
        FinishTurn.waits held unfinished folds e,
        (refused (Faults.Pending (version - 1) held) told, seen_by Tickets.stay left false others (refused_settles said (Faults.Pending (version - 1) held) false refl told) seen refl),
      ),
    )
    finish_lifts done refused _ (FinishTurn.not_folded page unfinished fold ready) told seen = (
      record { said = Replies.Refused (Faults.PageFault page); made = []; tickets = Tickets.stay },
      (
        FinishTurn.not_folded page unfinished fold ready,
        (refused (Faults.PageFault page) told, seen_by Tickets.stay left false others (refused_settles said (Faults.PageFault page) false refl told) seen refl),
      ),
    )
    finish_lifts done refused _ FinishTurn.out_of_memory told seen = (
      record { said = Replies.Refused Faults.NoMemory; made = []; tickets = Tickets.stay },
      (FinishTurn.out_of_memory, (refused Faults.NoMemory told, seen_by Tickets.stay left false others (refused_settles said Faults.NoMemory false refl told) seen refl)),
    )

-- a turn that leaves the tickets of a session without any leaves what was seen
seen_after : (s x : Session) (turn : Turn) (others : List Event) → x ≡ with_tickets turn.tickets (sees (unheld s) (and_made others turn.made)) → x.seen ≡ s.seen ++ and_made others turn.made
seen_after s x turn others e = (changed_grows turn.tickets (unheld s) (and_made others turn.made) x e).seen

-- a repair
module _ (s x : Session) (blob version : ℕ) (said : Result ℕ Fault) where
  abbrev left_by : List HeldTicket
  left_by = without_version s.tickets blob version

  abbrev Lifted : Type 0
  Lifted = AfterGap AllOther s (RepairTurn s blob version) (repair_reply said) (then_holds s x.seen (if settles said then left_by else s.tickets))

  repair_by : (others : List Event) → AllOther s.caller others → (turn : Turn) → RepairTurn (unheld s) blob version others turn → repair_reply said ≡ turn.said
      → x.seen ≡ s.seen ++ and_made others turn.made → Lifted
  repair_by others gap turn (RepairTurn.finish _ t) told seen =
      let (u, l) = finish_lifts s x said blob version (λ published. Replies.Repaired published) (Tickets.let_go blob version) left_by (λ more. refl) others (repair_reply said)
      (λ published e. e) (λ fault e. e) turn t told seen in
      record { others = others; is_gap = gap; turn = u; may = RepairTurn.finish u l.0; said = l.1.0; seen = l.1.1 }
  repair_by others gap _ (RepairTurn.refused refusal e other) told seen =
      record {
        others = others;
        is_gap = gap;
        turn = refuses (fault_of refusal);
        may = RepairTurn.refused refusal e other;
        said = told;
        seen = seen_by s x said Tickets.stay left_by false others (refused_settles said (fault_of refusal) false (other_settles (store_at s others) blob version refusal e other) told) seen refl;
      }

  pub repair_lifts : AfterGap AllOther (unheld s) (RepairTurn (unheld s) blob version) (repair_reply said) x → Lifted
  repair_lifts a = repair_by a.others a.is_gap a.turn a.may a.said (seen_after s x a.turn a.others a.seen)

-- ---- a version that was numbered
-- where it can't be finished, it is finished
abbrev pub OnlyAlready : Session → ℕ → ℕ → Type 0
OnlyAlready s blob version = (others : List Event) (refusal : Refusal) → repair_refusal (store_at s others) blob version ≡ Some refusal → refusal ≡ Refusals.Already version

module _ (s x : Session) (t : HeldTicket) (said : Result ℕ Fault) (only : OnlyAlready s t.blob t.version) where
  abbrev left_of : List HeldTicket
  left_of = without_ticket s.tickets t.number

  abbrev Reports : Type 0
  Reports = FinishAnswer AllOther s t.number (Some t) (finish_reply said) (then_holds s x.seen (if settles said then left_of else s.tickets))

  report_by : (others : List Event) → AllOther s.caller others → (turn : Turn) → RepairTurn (unheld s) t.blob t.version others turn → repair_reply said ≡ turn.said
      → x.seen ≡ s.seen ++ and_made others turn.made → Reports
  report_by others gap turn (RepairTurn.finish _ f) told seen =
      let (u, l) = finish_lifts s x said t.blob t.version (λ published. Replies.Finished published) (Tickets.drop t.number) left_of (λ more. refl) others (finish_reply said)
      (λ published e. repaired_finishes said published e) (λ fault e. refused_finishes said fault e) turn f told seen in
      record { others = others; is_gap = gap; turn = u; may = l.0; said = l.1.0; seen = l.1.1 }
  report_by others gap _ (RepairTurn.refused refusal e other) told seen = absurd (other (only others refusal e))

  pub report_lifts : AfterGap AllOther (unheld s) (RepairTurn (unheld s) t.blob t.version) (repair_reply said) x → Reports
  report_lifts a = report_by a.others a.is_gap a.turn a.may a.said (seen_after s x a.turn a.others a.seen)

-- ---- an update that isn't numbered
module _ (s x : Session) (blob : ℕ) (place : Place) (bytes : List ℕ) (reply : Reply) where
  abbrev Unnumbered : Type 0
  Unnumbered = AfterGap AllOther s (UnnumberedTurn s blob place bytes) reply (then_holds s x.seen s.tickets)

  unnumbered_by : (others : List Event) → AllOther s.caller others → (turn : Turn) → UnnumberedTurn (unheld s) blob place bytes others turn → reply ≡ turn.said
      → x.seen ≡ s.seen ++ and_made others turn.made → Unnumbered
  unnumbered_by others gap _ (UnnumberedTurn.refused refusal e) told seen =
      record { others = others; is_gap = gap; turn = _; may = UnnumberedTurn.refused refusal e; said = told; seen = ap (λ (h : List Event). then_holds s h s.tickets) seen }
  unnumbered_by others gap _ UnnumberedTurn.out_of_memory told seen =
      record { others = others; is_gap = gap; turn = _; may = UnnumberedTurn.out_of_memory; said = told; seen = ap (λ (h : List Event). then_holds s h s.tickets) seen }
  unnumbered_by others gap _ (UnnumberedTurn.not_stored page is stored) told seen =
      record { others = others; is_gap = gap; turn = _; may = UnnumberedTurn.not_stored page is stored; said = told; seen = ap (λ (h : List Event). then_holds s h s.tickets) seen }

  pub unnumbered_lifts : AfterGap AllOther (unheld s) (UnnumberedTurn (unheld s) blob place bytes) reply x → Unnumbered
  unnumbered_lifts a = unnumbered_by a.others a.is_gap a.turn a.may a.said (seen_after s x a.turn a.others a.seen)
