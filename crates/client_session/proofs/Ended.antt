-- What becomes of an update that was numbered, and then finished or not.
use Rattle.std.proofs.Common.{◌≡◌, ◌≢◌, refl, sym, ◌∙◌, ap, ℕ, ◌-◌, ◌≤◌, ◌||◌, Bool, true, false, List, [], ◌∷◌, ◌++◌, append_assoc, Some, None, arith}
use Rattle.std.specs.Prelude.{Contains}
use Rattle.blob_model.specs.Limits.{Bounds}
use Rattle.blob_model.specs.Store.{Store, Blob, blob_at, assigned, is_finished}
use Rattle.blob_model.specs.History.{AllOther, finishes, store_of}
use Rattle.blob_model.specs.declared.call.Place.{Place}
use Rattle.blob_model.specs.declared.call.Call.TheVariants as Calls
use Rattle.blob_model.specs.declared.call.Event.{Event}
use Rattle.blob_model.specs.declared.call.Event.TheVariants as Events
use Rattle.blob_model.specs.declared.call.Outcome.TheVariants as Outcomes
use Rattle.blob_model.specs.declared.call.Refusal.TheVariants as Refusals
use Rattle.blob_model.proofs.Marks.{finished_by}
use Rattle.request_form.specs.Session.{Session, store_at, outcome_at, sees}
use Rattle.request_form.specs.Turns.{Tickets, Turn, refuses, with_tickets, and_made, AfterGap}
use Rattle.request_form.specs.Answers.{FinishTurn, RepairTurn, WholeTurn, UpdateAnswer, WholeAnswer, Folds, IsReady, folds_in, keeps}
use Rattle.request_form.specs.Replies.{update_reply, start_reply}
use Rattle.request_form.proofs.Runs.{changed_grows}
use Rattle.blob_model.specs.Answer.{answer, repair_refusal}
use Rattle.request_form.specs.declared.form.Reply.TheVariants as Replies
use Rattle.request_form.specs.declared.form.Fault.{Fault}
use Rattle.request_form.specs.declared.form.Fault.TheVariants as Faults
use Rattle.client_session.proofs.StoreAnswers.{IsThere, found_already, may_be_finished}
use Rattle.client_session.proofs.Lifted.{unheld, then_holds, OnlyAlready}

-- the version was numbered in that history, and isn't finished there
pub record IsOpenIn (limits : Bounds) (history : List Event) (blob version : ℕ) : Type 0 where
  pub b : Blob
  pub is : blob_at (store_of limits history) blob ≡ Some b
  pub numbered : version ≤ assigned b
  pub unfinished : is_finished b version ≡ false

-- whether more events finish it
finishes_is : (limits : Bounds) (history more : List Event) (blob version : ℕ) (x : Bool) → IsOpenIn limits history blob version
    → IsThere (store_of limits (history ++ more)) blob (λ b. is_finished b version ≡ x) → finishes blob version more ≡ x
finishes_is limits history more blob version x open_ there =
    let by : is_finished there.b version ≡ (is_finished open_.b version || finishes blob version more) = finished_by limits history more blob version open_.b there.b open_.is there.is open_.numbered in
    sym (ap (λ (t : Bool). t || finishes blob version more) open_.unfinished) ∙ (sym by ∙ there.holds)

-- the reply of a faulted finish is its fault
same_fault : (f g : Fault) → Replies.Refused f ≡ Replies.Refused g → f ≡ g
same_fault f g e = cc

module _ (s x : Session) (blob : ℕ) (place : Place) (bytes : List ℕ) (version at size : ℕ) (others : List Event) (is_gap : AllOther s.caller others)
    (numbered : outcome_at s others (Calls.Assign blob place bytes) ≡ Outcomes.Assigned version at size)
    (open_ : IsOpenIn s.fixed.limits (s.seen ++ (others ++ Events.Assign s.caller blob place bytes ∷ [])) blob version)
    (only : OnlyAlready (sees s (others ++ Events.Assign s.caller blob place bytes ∷ [])) blob version) where
  abbrev assigns : List Event
  assigns = others ++ Events.Assign s.caller blob place bytes ∷ []

  abbrev mid : Session
  mid = sees s assigns

  -- all that came in between
  both_seen : (later : List Event) → (s.seen ++ assigns) ++ later ≡ s.seen ++ (others ++ Events.Assign s.caller blob place bytes ∷ later)
  both_seen later = append_assoc s.seen assigns later ∙ ap (λ (h : List Event). s.seen ++ h) (append_assoc others (Events.Assign s.caller blob place bytes ∷ []) later)

  abbrev front : List Event → List Event
  front later = others ++ Events.Assign s.caller blob place bytes ∷ later

  store_then : (later : List Event) → store_at mid later ≡ store_at s (front later)
  store_then later = ap (store_of s.fixed.limits) (both_seen later)

  -- the turn after the numbering came to this
  pub record Then (turn : Turn) : Type 0 where
    pub later : List Event
    pub is_gap_later : AllOther s.caller later
    pub may : WholeTurn s blob place version at size (front later) later turn
    pub seen : x.seen ≡ s.seen ++ (others ++ Events.Assign s.caller blob place bytes ∷ and_made later turn.made)

  pub then_answer : (turn : Turn) → Then turn → (s' : Session) → s' ≡ with_tickets turn.tickets (then_holds s x.seen s.tickets) → WholeAnswer AllOther s blob place bytes turn.said s'
  then_answer turn t s' is =
      UpdateAnswer.twice record {
        others = others;
        later = t.later;
        is_gap = is_gap;
        is_gap_later = t.is_gap_later;
        version = version;
        at = at;
        size = size;
        numbered = numbered;
        turn = turn;
        may = t.may;
        said = refl;
        seen = is ∙ ap (λ (h : List Event). with_tickets turn.tickets (then_holds s h s.tickets)) t.seen;
      }

  abbrev done : Turn
  done = record { said = update_reply place version at size; made = Events.Finish s.caller blob version ∷ []; tickets = Tickets.stay }

  abbrev held_back : Turn
  held_back = record { said = start_reply place s.next version at size; made = []; tickets = Tickets.hold blob version }

  folds_then : (later : List Event) → Folds s (front later) blob version → Folds (unheld mid) later blob version
  folds_then later folds none = folds (ap (λ (y : Store). folds_in s.fixed.page y blob version) (sym (store_then later)) ∙ none)

  folds_back : (later : List Event) → Folds (unheld mid) later blob version → Folds s (front later) blob version
  folds_back later folds none = folds (ap (λ (y : Store). folds_in s.fixed.page y blob version) (store_then later) ∙ none)

  ready_back : (later : List Event) → IsReady (unheld mid) later blob version → IsReady s (front later) blob version
  ready_back later e = ap (λ (y : Store). (answer y s.caller (Calls.Sync blob (version - 1))).1) (sym (store_then later)) ∙ e

  -- it wasn't finished meanwhile
  open_then : (later : List Event) → repair_refusal (store_at mid later) blob version ≡ None → finishes blob version later ≡ false
  open_then later e =
      let there = may_be_finished (store_at mid later) blob version e in
      finishes_is s.fixed.limits (s.seen ++ assigns) later blob version false open_ (record { b = there.b; is = there.is; holds = there.holds.1 })

  seen_then : (turn : Turn) (later : List Event) → x ≡ with_tickets turn.tickets (sees (unheld mid) (and_made later turn.made)) → x.seen ≡ s.seen ++ (others ++ Events.Assign s.caller blob place bytes ∷ and_made later turn.made)
  seen_then turn later e = (changed_grows turn.tickets (unheld mid) (and_made later turn.made) x e).seen ∙ both_seen (and_made later turn.made)

  -- it was finished
  done_by : (published : ℕ) (later : List Event) → AllOther s.caller later → (turn : Turn) → RepairTurn (unheld mid) blob version later turn → Replies.Repaired published ≡ turn.said
      → x ≡ with_tickets turn.tickets (sees (unheld mid) (and_made later turn.made)) → Then done
  done_by published later gap _ (RepairTurn.finish _ (FinishTurn.finished p unfinished ready e)) said seen =
      record {
        later = later;
        is_gap_later = gap;
        may = WholeTurn.finished (open_then later unfinished) (λ folds. ready_back later (ready (folds_then later folds)));
        seen = seen_then (record { said = Replies.Repaired p; made = Events.Finish s.caller blob version ∷ []; tickets = Tickets.let_go blob version }) later seen;
      }
  done_by published later gap _ (RepairTurn.finish _ (FinishTurn.found e)) said seen = let never : ⊥ = cc in absurd never
  done_by published later gap _ (RepairTurn.finish _ (FinishTurn.waits held unfinished folds e)) said seen = let never : ⊥ = cc in absurd never
  done_by published later gap _ (RepairTurn.finish _ (FinishTurn.not_folded page unfinished fold ready)) said seen = let never : ⊥ = cc in absurd never
  done_by published later gap _ (RepairTurn.finish _ FinishTurn.out_of_memory) said seen = let never : ⊥ = cc in absurd never
  done_by published later gap _ (RepairTurn.refused refusal e other) said seen = let never : ⊥ = cc in absurd never

  pub ends_done : (published : ℕ) → AfterGap AllOther (unheld mid) (RepairTurn (unheld mid) blob version) (Replies.Repaired published) x → Then done
  ends_done published a = done_by published a.others a.is_gap a.turn a.may a.said a.seen

  -- Or it wasn't: others finished it, or no memory was found, or it is held back. The fault tells which.
  pub data NotFinished (fault : Fault) : Type 0 where
    found : fault ≡ Faults.Already version → Then (refuses (Faults.Already version)) → NotFinished fault
    starved : fault ≡ Faults.NoMemory → Then (keeps s blob version) → NotFinished fault
    waits : (held : ℕ) → fault ≡ Faults.Pending (version - 1) held → (more : List Event) → x.seen ≡ mid.seen ++ more
        → outcome_at mid more (Calls.Sync blob (version - 1)) ≡ Outcomes.Refused (Refusals.Pending (version - 1) held) → Then held_back → NotFinished fault
    not_folded : (page : ℕ) → fault ≡ Faults.PageFault page → Then held_back → NotFinished fault

  some_of : (page : ℕ) (pages : List ℕ) → Contains pages page → pages ≢ []
  some_of page [] (i, lt, is) e = omega (arith, lt)
  some_of page (p ∷ ps) among e = let never : ⊥ = cc in never

  not_by : (fault : Fault) (later : List Event) → AllOther s.caller later → (turn : Turn) → RepairTurn (unheld mid) blob version later turn → Replies.Refused fault ≡ turn.said
      → x ≡ with_tickets turn.tickets (sees (unheld mid) (and_made later turn.made)) → NotFinished fault
  not_by fault later gap _ (RepairTurn.finish _ (FinishTurn.finished p unfinished ready e)) said seen = let never : ⊥ = cc in absurd never
  not_by fault later gap _ (RepairTurn.finish _ (FinishTurn.found e)) said seen =
      NotFinished.found (same_fault fault (Faults.Already version) said) (record {
        later = later;
        is_gap_later = gap;
        may = WholeTurn.found (finishes_is s.fixed.limits (s.seen ++ assigns) later blob version true open_ (found_already (store_at mid later) blob version version e).1);
        seen = seen_then (refuses (Faults.Already version)) later seen;
      })
  not_by fault later gap _ (RepairTurn.finish _ (FinishTurn.waits held unfinished folds e)) said seen =
      NotFinished.waits held (same_fault fault (Faults.Pending (version - 1) held) said) later (ap (λ (z : Session). z.seen) seen) e (record {
        later = later;
        is_gap_later = gap;
        may = WholeTurn.held_back (open_then later unfinished) (folds_back later folds);
        seen = seen_then (refuses Faults.NoMemory) later seen;
      })
  not_by fault later gap _ (RepairTurn.finish _ (FinishTurn.not_folded page unfinished fold ready)) said seen =
      NotFinished.not_folded page (same_fault fault (Faults.PageFault page) said) (record {
        later = later;
        is_gap_later = gap;
        may = WholeTurn.held_back (open_then later unfinished) (folds_back later (some_of page _ fold));
        seen = seen_then (refuses Faults.NoMemory) later seen;
      })
  not_by fault later gap _ (RepairTurn.finish _ FinishTurn.out_of_memory) said seen =
      NotFinished.starved (same_fault fault Faults.NoMemory said) (record { later = later; is_gap_later = gap; may = WholeTurn.out_of_memory; seen = seen_then (refuses Faults.NoMemory) later seen })
  not_by fault later gap _ (RepairTurn.refused refusal e other) said seen = absurd (other (only later refusal e))

  pub ends_not : (fault : Fault) → AfterGap AllOther (unheld mid) (RepairTurn (unheld mid) blob version) (Replies.Refused fault) x → NotFinished fault
  ends_not fault a = not_by fault a.others a.is_gap a.turn a.may a.said a.seen
