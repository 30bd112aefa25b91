-- The answers of an update, whichever form it has.
use Rattle.std.proofs.Common.{◌≡◌, ◌≢◌, refl, sym, ◌∙◌, ap, subst, ℕ, ◌+◌, ◌-◌, ◌≤◌, Bool, true, false, if◌then◌else◌, List, [], ◌∷◌, ◌++◌, append-nil, length, length-append, Option, Some, None, Result, Ok, Err, arith}
use Rattle.std.specs.Prelude.{IfNone, IfSome, option_map, slice_get}
use Rattle.std.proofs.lemmas.Bool.{false≢true}
use Rattle.std.proofs.lemmas.List.{map_push}
use Rattle.faults.specs.Counts.{RoseBy}
use Rattle.blob_model.specs.Content.{Update}
use Rattle.blob_model.specs.Limits.{Bounds}
use Rattle.blob_model.specs.Store.{Store, Blob, blob_at, empty_store, assigned}
use Rattle.blob_model.specs.Answer.{repair_refusal}
use Rattle.blob_model.specs.History.{AllOther, store_of}
use Rattle.blob_model.specs.declared.call.Place.{Place}
use Rattle.blob_model.specs.declared.call.Place.TheVariants.{WriteAt, Append}
use Rattle.blob_model.specs.declared.call.Event.{Event}
use Rattle.blob_model.specs.declared.call.Event.TheVariants as Events
use Rattle.blob_model.proofs.Stays.{store_kept, store_from-append}
use Rattle.node_store.specs.UpdateRows.{UpdateRow}
use Rattle.border_hints.specs.Numbered.{NumberedUpdate}
use Rattle.version_manager.specs.Desks.{IsTicketOf, updates_in, updates_or_none, finished_or_not}
use Rattle.version_manager.specs.Log.{desk_at, events}
use Rattle.version_manager.specs.declared.journal.DeskFixed.{DeskFixed}
use Rattle.request_form.specs.Session.{Session, HeldTicket, store_at, sees, holds}
use Rattle.request_form.specs.Turns.{Turn, with_tickets, AfterGap}
use Rattle.request_form.specs.Answers.{RepairTurn, UnnumberedTurn, StartTurn, StartedTurn, UpdateAnswer, StartAnswer, WholeAnswer, Unless, Answers}
use Rattle.request_form.specs.Answers.{update_fault, update_faults, held_back_faults, is_waiting_in, folds_in}
use Rattle.request_form.specs.Replies.{page_faults, fault_count}
use Rattle.request_form.specs.declared.form.Reply.{Reply}
use Rattle.request_form.specs.declared.form.Reply.TheVariants as Replies
use Rattle.request_form.specs.declared.form.Fault.{Fault}
use Rattle.request_form.specs.declared.form.Fault.TheVariants as Faults
use Rattle.tree_weaver.specs.Anew.{StoresSomeAnew, StoresNoneAnew}
use Rattle.client_session.specs.Tickets.{OpenUpdate, HasRow, ticket_of, HasNoRow, AllHeldStill}
use Rattle.client_session.specs.declared.done.Updated.{Updated as Whole}
use Rattle.client_session.specs.declared.done.Updated.TheVariants as WholeUpdates
use Rattle.client_session.specs.Results.{repair_reply, updated_reply}
use Rattle.client_session.specs.Sessions.{SessionState, session_of}
use Rattle.client_session.specs.SessionInvariant.{IsTicketHere}
use Rattle.client_session.specs.Finishing.{bare, Finishing}
use Rattle.client_session.specs.Looking.{looks_then}
use Rattle.client_session.specs.Losses.{IfPageLost, LostOrWaits}
use Rattle.client_session.specs.Updates.{WasNumbered, IsHeldNext, IsKept, held_next, update_request, start_request, update_reply, start_reply}
use Rattle.client_session.specs.Putting.{WerePut, WerePutAlone}
use Rattle.client_session.proofs.StoreAnswers.{IsThere, only_already, pending_waits}
use Rattle.client_session.proofs.Lifted.{unheld, then_holds, OnlyAlready}
use Rattle.client_session.proofs.Ended.{IsOpenIn, Then, NotFinished, then_answer, ends_done, ends_not}
use Rattle.client_session.proofs.Finished.{numbered_there}
use Rattle.client_session.proofs.Folding.{folds_told}
use Rattle.client_session.proofs.Untouched.{none_more, one_more}
use Rattle.client_session.proofs.RangeAnswers.{unless_none}

-- the session that holds one more
pub held_more : {D : Type 0} (m m' : SessionState D) (t : NumberedUpdate) (row : Option UpdateRow) → m' ≡ record m { held = m.held ++ record { number = m.next; ticket = t; row = row } ∷ []; next = m.next + 1 }
    → session_of m' ≡ holds (session_of m) t.blob t.version
held_more m m' t row is =
    ap session_of is
    ∙ ap (λ (hs : List HeldTicket). record { fixed = (session_of m).fixed; caller = m.caller; seen = (session_of m).seen; tickets = hs; next = m.next + 1; limit = m.limit })
    (map_push ticket_of m.held (record { number = m.next; ticket = t; row = row }))

by_place : (s : Session) (blob : ℕ) (place : Place) (bytes : List ℕ) (reply : Reply) (s' : Session)
    → Unless (update_fault s bytes) s reply s' (WholeAnswer AllOther s blob place bytes reply s') → Answers AllOther s (update_request blob place bytes) reply s'
by_place s blob Append bytes reply s' answer = answer
by_place s blob (WriteAt offset) bytes reply s' answer = answer

start_by_place : (s : Session) (blob : ℕ) (place : Place) (bytes : List ℕ) (reply : Reply) (s' : Session)
    → Unless (update_fault s bytes) s reply s' (StartAnswer AllOther s blob place bytes reply s') → Answers AllOther s (start_request blob place bytes) reply s'
start_by_place s blob Append bytes reply s' answer = answer
start_by_place s blob (WriteAt offset) bytes reply s' answer = answer

pub update_done : (s : Session) (blob : ℕ) (place : Place) (bytes : List ℕ) (reply : Reply) (s' : Session) → update_fault s bytes ≡ None → WholeAnswer AllOther s blob place bytes reply s'
    → Answers AllOther s (update_request blob place bytes) reply s'
update_done s blob place bytes reply s' none answer = by_place s blob place bytes reply s' (unless_none (update_fault s bytes) s reply s' _ none answer)

pub start_done : (s : Session) (blob : ℕ) (place : Place) (bytes : List ℕ) (reply : Reply) (s' : Session) → update_fault s bytes ≡ None → StartAnswer AllOther s blob place bytes reply s'
    → Answers AllOther s (start_request blob place bytes) reply s'
start_done s blob place bytes reply s' none answer = start_by_place s blob place bytes reply s' (unless_none (update_fault s bytes) s reply s' _ none answer)

-- what isn't numbered isn't done, whatever would be done
unless_as : (Answer Other : Type 0) (o : Option Fault) (s : Session) (reply : Reply) (s' : Session) → (Answer → Other) → Unless o s reply s' Answer → Unless o s reply s' Other
unless_as Answer Other None s reply s' f a = f a
unless_as Answer Other (Some fault) s reply s' f a = a

abbrev NotNumberedBy : Session → ℕ → Place → List ℕ → Fault → Session → Type 0
NotNumberedBy s blob place bytes fault s' = AfterGap AllOther s (UnnumberedTurn s blob place bytes) (Replies.Refused fault) s'

pub update_not_done : (s : Session) (blob : ℕ) (place : Place) (bytes : List ℕ) (fault : Fault) (s' : Session)
    → Unless (update_fault s bytes) s (Replies.Refused fault) s' (NotNumberedBy s blob place bytes fault s') → Answers AllOther s (update_request blob place bytes) (Replies.Refused fault) s'
update_not_done s blob place bytes fault s' a =
    by_place s blob place bytes (Replies.Refused fault) s' (unless_as _ _ (update_fault s bytes) s (Replies.Refused fault) s' (λ (x : NotNumberedBy s blob place bytes fault s'). UpdateAnswer.once x) a)

as_start : (s : Session) (blob : ℕ) (place : Place) (bytes : List ℕ) (fault : Fault) (s' : Session) → NotNumberedBy s blob place bytes fault s' → StartAnswer AllOther s blob place bytes (Replies.Refused fault) s'
as_start s blob place bytes fault s' a =
    UpdateAnswer.once record { others = a.others; is_gap = a.is_gap; turn = a.turn; may = StartTurn.unnumbered a.turn a.may; said = a.said; seen = a.seen }

pub start_not_done : (s : Session) (blob : ℕ) (place : Place) (bytes : List ℕ) (fault : Fault) (s' : Session)
    → Unless (update_fault s bytes) s (Replies.Refused fault) s' (NotNumberedBy s blob place bytes fault s') → Answers AllOther s (start_request blob place bytes) (Replies.Refused fault) s'
start_not_done s blob place bytes fault s' a =
    start_by_place s blob place bytes (Replies.Refused fault) s' (unless_as _ _ (update_fault s bytes) s (Replies.Refused fault) s' (as_start s blob place bytes fault s') a)

-- the outside didn't fail for an update that is finished at once, nor for one that is started
pub update_rose : (s : Session) (blob : ℕ) (place : Place) (version at size a b : ℕ) → a ≤ b → RoseBy (update_faults s blob (update_reply place version at size)) a b
update_rose s blob Append version at size a b le = record { later = le; by = λ few. omega arith }
update_rose s blob (WriteAt offset) version at size a b le = record { later = le; by = λ few. omega arith }

pub start_rose : (place : Place) (ticket version at size a b : ℕ) → a ≤ b → RoseBy (fault_count (start_reply place ticket version at size)) a b
start_rose Append ticket version at size a b le = record { later = le; by = λ few. omega arith }
start_rose (WriteAt offset) ticket version at size a b le = record { later = le; by = λ few. omega arith }

-- ---- an update that was numbered
-- a blob is there still, with its versions, once more events have come
pub there_later : (limits : Bounds) (h more : List Event) (blob version : ℕ) → IsThere (store_of limits h) blob (λ b. version ≤ assigned b) → IsThere (store_of limits (h ++ more)) blob (λ b. version ≤ assigned b)
there_later limits h more blob version t =
    let (new, at, stay) = store_kept (store_of limits h) more blob t.b t.is in
    let longer : length new.updates ≡ length (t.b.updates ++ stay.later) = ap (λ (us : List Update). length us) stay.updates in
    record {
      b = new;
      is = ap (λ (s : Store). blob_at s blob) (store_from-append (empty_store limits) h more) ∙ at;
      holds = omega (arith, t.holds, longer, length-append t.b.updates stay.later);
    }

-- where a numbered version can't be finished, it is finished
pub only_already_of : (f : DeskFixed) (caller : ℕ) (log : List (ℕ × Event)) (s : Session) (blob version : ℕ) → s.fixed.limits ≡ f.limits → s.seen ≡ events log → 1 ≤ version
    → version ≤ length (updates_in (desk_at f log) blob) → OnlyAlready s blob version
only_already_of f caller log s blob version limits seen some numbered others refusal e =
    let there = there_later f.limits (events log) others blob version (numbered_there f log blob version some numbered) in
    let same : store_at s others ≡ store_of f.limits (events log ++ others) =
    ap (λ (l : Bounds). store_of l (s.seen ++ others)) limits ∙ ap (λ (h : List Event). store_of f.limits (h ++ others)) seen in
    only_already (store_of f.limits (events log ++ others)) blob version refusal there (sym (ap (λ (x : Store). repair_refusal x blob version) same) ∙ e)

open_by : (o : Option Blob) (limits : Bounds) (h : List Event) (blob version : ℕ) → blob_at (store_of limits h) blob ≡ o → 1 ≤ version → version ≤ length (updates_or_none o) → finished_or_not o version ≡ false
    → IsOpenIn limits h blob version
open_by None limits h blob version is some numbered unfinished = absurd (omega (arith, some, numbered))
open_by (Some b) limits h blob version is some numbered unfinished = record { b = b; is = is; numbered = numbered; unfinished = unfinished }

weaken : (x : Bool) (a b : ℕ) → RoseBy 1 a b → RoseBy (if x then 0 else 1) a b
weaken true a b r = record { later = r.later; by = λ few. omega (arith, r.by few) }
weaken false a b r = r

none_rose : (x : Bool) (a b : ℕ) → x ≡ true → RoseBy 0 a b → RoseBy (if x then 0 else 1) a b
none_rose true a b is r = r
none_rose false a b is r = absurd (false≢true is)

-- how often the outside failed for an update that is held back, or finished
held_faults : (s : Session) (blob : ℕ) (place : Place) (ticket version at size : ℕ) (a b : ℕ) → RoseBy (held_back_faults s blob version) a b → RoseBy (update_faults s blob (start_reply place ticket version at size)) a b
held_faults s blob Append ticket version at size a b r = r
held_faults s blob (WriteAt offset) ticket version at size a b r = r

module _ {D : Type 0} (s mid : SessionState D) (blob : ℕ) (place : Place) (bytes : List ℕ) (t : NumberedUpdate) (n : WasNumbered s blob place bytes t mid) where
  abbrev assigns : List Event
  assigns = n.others ++ Events.Assign s.caller blob place bytes ∷ []

  pub next_is : mid.next ≡ s.next
  next_is = ap (λ (x : Session). x.next) n.seen

  -- ---- and then held
  holding_it : (s' : Session) → s' ≡ holds (session_of mid) t.blob t.version → s' ≡ holds (sees (session_of s) assigns) blob t.version
  holding_it s' is =
      is ∙ (ap (λ (x : Session). holds x t.blob t.version) n.seen ∙ ap (λ (b : ℕ). holds (sees (session_of s) assigns) b t.version) n.blob_is)

  pub start_kept : (s' : Session) → s' ≡ holds (session_of mid) t.blob t.version → StartAnswer AllOther (session_of s) blob place bytes (Replies.Refused (Faults.NoMemoryTicket s.next)) s'
  start_kept s' is =
      UpdateAnswer.twice record {
        others = n.others;
        later = [];
        is_gap = n.is_gap;
        is_gap_later = tt;
        version = t.version;
        at = t.at;
        size = t.size;
        numbered = n.outcome;
        turn = _;
        may = StartedTurn.out_of_memory;
        said = refl;
        seen = holding_it s' is;
      }

  pub start_held : (s' : Session) → s' ≡ holds (session_of mid) t.blob t.version → StartAnswer AllOther (session_of s) blob place bytes (start_reply place s.next t.version t.at t.size) s'
  start_held s' is =
      UpdateAnswer.once record { others = n.others; is_gap = n.is_gap; turn = _; may = StartTurn.started t.version t.at t.size n.outcome; said = refl; seen = holding_it s' is }

  -- ---- and then finished, or not
  open_mid : IsOpenIn (session_of mid).fixed.limits (session_of mid).seen t.blob t.version
  open_mid =
      open_by (blob_at (store_of mid.store.fixed.limits (events mid.log)) t.blob) mid.store.fixed.limits (events mid.log) t.blob t.version refl n.unfinished.some n.unfinished.numbered n.unfinished.unfinished

  pub open_then : IsOpenIn s.store.fixed.limits ((session_of s).seen ++ assigns) blob t.version
  open_then =
      subst (λ (b : ℕ). IsOpenIn s.store.fixed.limits ((session_of s).seen ++ assigns) b t.version) n.blob_is
      (subst (λ (x : Session). IsOpenIn x.fixed.limits x.seen t.blob t.version) n.seen open_mid)

  pub only_then : OnlyAlready (sees (session_of s) assigns) blob t.version
  only_then =
      subst (λ (b : ℕ). OnlyAlready (sees (session_of s) assigns) b t.version) n.blob_is
      (subst (λ (x : Session). OnlyAlready x t.blob t.version) n.seen
      (only_already_of mid.store.fixed mid.caller mid.log (session_of mid) t.blob t.version refl refl n.unfinished.some n.unfinished.numbered))

  module _ (m : SessionState D) (rest : m ≡ record mid { log = m.log; doors = m.doors; turns = m.turns }) where
    -- its finish, told of the session that saw the numbering
    finish_then : (said : Result ℕ Fault) → Finishing mid.store.fixed mid.caller mid.log t.blob t.version said m.log
        → AfterGap AllOther (unheld (sees (session_of s) assigns)) (RepairTurn (unheld (sees (session_of s) assigns)) blob t.version) (repair_reply said) (bare mid.store.fixed mid.caller m.log)
    finish_then said a =
        subst (λ (b : ℕ). AfterGap AllOther (unheld (sees (session_of s) assigns)) (RepairTurn (unheld (sees (session_of s) assigns)) b t.version) (repair_reply said) (bare mid.store.fixed mid.caller m.log)) n.blob_is
        (subst (λ (x : Session). AfterGap AllOther (unheld x) (RepairTurn (unheld x) t.blob t.version) (repair_reply said) (bare mid.store.fixed mid.caller m.log)) n.seen a)

    -- and the session after it
    after_is : session_of m ≡ then_holds (session_of s) (events m.log) (session_of s).tickets
    after_is = ap session_of rest ∙ ap (λ (y : Session). then_holds y (events m.log) y.tickets) n.seen

    pub update_finished : (published : ℕ) → Finishing mid.store.fixed mid.caller mid.log t.blob t.version (Ok published) m.log
        → WholeAnswer AllOther (session_of s) blob place bytes (update_reply place t.version t.at t.size) (session_of m)
    update_finished published a =
        let x : Session = bare mid.store.fixed mid.caller m.log in
        then_answer (session_of s) x blob place bytes t.version t.at t.size n.others n.is_gap n.outcome open_then only_then _
        (ends_done (session_of s) x blob place bytes t.version t.at t.size n.others n.is_gap n.outcome open_then only_then published (finish_then (Ok published) a)) (session_of m) after_is

    -- ---- not finished, and kept
    next_then : m.next ≡ s.next
    next_then = ap (λ (x : SessionState D). x.next) rest ∙ next_is

    held_then : (s' : SessionState D) → IsHeldNext m t s' → session_of s' ≡ holds (then_holds (session_of s) (events m.log) (session_of s).tickets) blob t.version
    held_then s' is =
        held_more m s' t None is
        ∙ (ap (λ (y : Session). holds y t.blob t.version) after_is
        ∙ ap (λ (b : ℕ). holds (then_holds (session_of s) (events m.log) (session_of s).tickets) b t.version) n.blob_is)

    -- what is said of it, and how often the outside failed then
    pub record Kept (said : Result Whole Fault) (s' : SessionState D) (fault : Fault) (a b : ℕ) : Type 0 where
      pub answer : WholeAnswer AllOther (session_of s) blob place bytes (updated_reply place said) (session_of s')
      pub faults : RoseBy (page_faults fault) a b → RoseBy (update_faults (session_of s') blob (updated_reply place said)) a b
      pub same : s' ≡ record m { held = s'.held; next = s'.next }
      pub taken : (before : Bool) → looks_then before said ≡ false
      pub stay : AllHeldStill m.held s'.held

    module _ (said : Result Whole Fault) (s' : SessionState D) (a b : ℕ) where
      says : (reply : Reply) → updated_reply place said ≡ reply → WholeAnswer AllOther (session_of s) blob place bytes reply (session_of s') → WholeAnswer AllOther (session_of s) blob place bytes (updated_reply place said) (session_of s')
      says reply is x = subst (λ (r : Reply). WholeAnswer AllOther (session_of s) blob place bytes r (session_of s')) (sym is) x

      rose : (reply : Reply) → updated_reply place said ≡ reply → RoseBy (update_faults (session_of s') blob reply) a b → RoseBy (update_faults (session_of s') blob (updated_reply place said)) a b
      rose reply is x = subst (λ (r : Reply). RoseBy (update_faults (session_of s') blob r) a b) (sym is) x

      held_says : said ≡ Ok (WholeUpdates.Held (held_next m t)) → updated_reply place said ≡ start_reply place s.next t.version t.at t.size
      held_says is = ap (updated_reply place) is ∙ ap (λ (k : ℕ). start_reply place k t.version t.at t.size) next_then

      held_same : IsHeldNext m t s' → s' ≡ record m { held = s'.held; next = s'.next }
      held_same is = subst (λ (x : SessionState D). x ≡ record m { held = x.held; next = x.next }) (sym is) refl

      held_one_more : IsHeldNext m t s' → AllHeldStill m.held s'.held
      held_one_more is = one_more m.held m.held s'.held _ refl (ap (λ (x : SessionState D). x.held) is)

      -- what waits once all was seen waits in the session that holds it
      waits_last : (x : SessionState D) → IsHeldNext m t x → (more : List Event) → events m.log ≡ ((session_of s).seen ++ assigns) ++ more → (v : ℕ)
          → is_waiting_in (store_at (sees (session_of s) assigns) more) blob v ≡ true → is_waiting_in (store_at (session_of x) []) blob v ≡ true
      waits_last x is more seen v w =
          let same : session_of x ≡ holds (then_holds (session_of s) (events m.log) (session_of s).tickets) blob t.version = held_then x is in
          let there : store_at (session_of x) [] ≡ store_at (sees (session_of s) assigns) more =
          ap (λ (y : Session). store_at y []) same ∙ ap (store_of s.store.fixed.limits) (append-nil (events m.log) ∙ seen) in
          ap (λ (y : Store). is_waiting_in y blob v) there ∙ w

      -- the answer that a turn after the numbering comes to
      answered : (turn : Turn) → Then (session_of s) (bare mid.store.fixed mid.caller m.log) blob place bytes t.version t.at t.size n.others n.is_gap n.outcome open_then only_then turn
          → session_of s' ≡ with_tickets turn.tickets (then_holds (session_of s) (events m.log) (session_of s).tickets) → updated_reply place said ≡ turn.said
          → WholeAnswer AllOther (session_of s) blob place bytes (updated_reply place said) (session_of s')
      answered turn u is reply =
          says turn.said reply
          (then_answer (session_of s) (bare mid.store.fixed mid.caller m.log) blob place bytes t.version t.at t.size n.others n.is_gap n.outcome open_then only_then turn u (session_of s') is)

      pub kept_by : (fault : Fault) → NotFinished (session_of s) (bare mid.store.fixed mid.caller m.log) blob place bytes t.version t.at t.size n.others n.is_gap n.outcome open_then only_then fault
          → IsKept m t fault said s' → Kept said s' fault a b
      kept_by fault (NotFinished.found is u) kept =
          let k = subst (λ (x : Fault). IsKept m t x said s') is kept in
          let reply : updated_reply place said ≡ Replies.Refused (Faults.Already t.version) = ap (updated_reply place) k.0 in
          record {
            answer = answered _ u (ap session_of k.1 ∙ after_is) reply;
            faults = λ r. rose (Replies.Refused (Faults.Already t.version)) reply (subst (λ (x : Fault). RoseBy (page_faults x) a b) is r);
            same = subst (λ (x : SessionState D). x ≡ record m { held = x.held; next = x.next }) (sym k.1) refl;
            taken = λ before. ap (λ (r : Result Whole Fault). looks_then before r) k.0;
            stay = none_more m.held s'.held (ap (λ (x : SessionState D). x.held) k.1);
          }
      kept_by fault (NotFinished.starved is u) kept =
          let k = subst (λ (x : Fault). IsKept m t x said s') is kept in
          let reply : updated_reply place said ≡ Replies.Refused (Faults.NoMemoryTicket s.next) = ap (updated_reply place) k.0 ∙ ap (λ (i : ℕ). Replies.Refused (Faults.NoMemoryTicket i)) next_then in
          record {
            answer = answered _ u (held_then s' k.1) reply;
            faults = λ r. rose (Replies.Refused (Faults.NoMemoryTicket s.next)) reply (subst (λ (x : Fault). RoseBy (page_faults x) a b) is r);
            same = held_same k.1;
            taken = λ before. ap (λ (r : Result Whole Fault). looks_then before r) k.0;
            stay = held_one_more k.1;
          }
      kept_by fault (NotFinished.waits held is more seen waits u) kept =
          let k = subst (λ (x : Fault). IsKept m t x said s') is kept in
          let reply = held_says k.0 in
          record {
            answer = answered _ u (held_then s' k.1) reply;
            faults =
                λ r. rose (start_reply place s.next t.version t.at t.size) reply
                (held_faults (session_of s') blob place s.next t.version t.at t.size a b
                (none_rose (is_waiting_in (store_at (session_of s') []) blob (t.version - 1)) a b (waits_last s' k.1 more seen (t.version - 1) (pending_waits _ s.caller blob (t.version - 1) (t.version - 1) held waits))
                (subst (λ (x : Fault). RoseBy (page_faults x) a b) is r)));
            same = held_same k.1;
            taken = λ before. ap (λ (r : Result Whole Fault). looks_then before r) k.0;
            stay = held_one_more k.1;
          }
      kept_by fault (NotFinished.not_folded page is u) kept =
          let k = subst (λ (x : Fault). IsKept m t x said s') is kept in
          let reply = held_says k.0 in
          record {
            answer = answered _ u (held_then s' k.1) reply;
            faults =
                λ r. rose (start_reply place s.next t.version t.at t.size) reply
                (held_faults (session_of s') blob place s.next t.version t.at t.size a b
                (weaken (is_waiting_in (store_at (session_of s') []) blob (t.version - 1)) a b (subst (λ (x : Fault). RoseBy (page_faults x) a b) is r)));
            same = held_same k.1;
            taken = λ before. ap (λ (r : Result Whole Fault). looks_then before r) k.0;
            stay = held_one_more k.1;
          }

      pub kept : (fault : Fault) → Finishing mid.store.fixed mid.caller mid.log t.blob t.version (Err fault) m.log → IsKept m t fault said s' → Kept said s' fault a b
      kept fault x k =
          kept_by fault
          (ends_not (session_of s) (bare mid.store.fixed mid.caller m.log) blob place bytes t.version t.at t.size n.others n.is_gap n.outcome open_then only_then fault
          (finish_then (Err fault) x)) k

    -- which page was lost, where it is held and the version before it doesn't wait
    module _ (said : Result Whole Fault) (s' : SessionState D) (fault : Fault) (Lost : ℕ → Type 0) (lost : IfPageLost fault Lost) where
      abbrev LostIn : Result Whole Fault → Type 0
      LostIn r = LostOrWaits r (is_waiting_in (store_at (session_of s') []) blob) (λ version page. (version ≡ t.version) × Lost page)

      kept_lost_by : NotFinished (session_of s) (bare mid.store.fixed mid.caller m.log) blob place bytes t.version t.at t.size n.others n.is_gap n.outcome open_then only_then fault → IsKept m t fault said s' → LostIn said
      kept_lost_by (NotFinished.found is u) kept =
          let k = subst (λ (x : Fault). IsKept m t x said s') is kept in
          subst LostIn (sym k.0) tt
      kept_lost_by (NotFinished.starved is u) kept =
          let k = subst (λ (x : Fault). IsKept m t x said s') is kept in
          subst LostIn (sym k.0) tt
      kept_lost_by (NotFinished.waits held is more seen waits u) kept =
          let k = subst (λ (x : Fault). IsKept m t x said s') is kept in
          subst LostIn (sym k.0)
          (λ not. absurd (false≢true (sym not ∙ waits_last said s' 0 0 s' k.1 more seen (t.version - 1) (pending_waits _ s.caller blob (t.version - 1) (t.version - 1) held waits))))
      kept_lost_by (NotFinished.not_folded page is u) kept =
          let k = subst (λ (x : Fault). IsKept m t x said s') is kept in
          subst LostIn (sym k.0) (λ not. (page, (refl, lost page is)))

      pub kept_lost : Finishing mid.store.fixed mid.caller mid.log t.blob t.version (Err fault) m.log → IsKept m t fault said s' → LostIn said
      kept_lost x k =
          kept_lost_by
          (ends_not (session_of s) (bare mid.store.fixed mid.caller m.log) blob place bytes t.version t.at t.size n.others n.is_gap n.outcome open_then only_then fault
          (finish_then (Err fault) x)) k

-- a count that rose by so much later on rose by so much
pub rose_both : (n a b d : ℕ) → a ≤ b → RoseBy n b d → RoseBy n a d
rose_both n a b d le r = record { later = omega (arith, le, r.later); by = λ few. omega (arith, le, r.by few) }

-- ---- an update that is held with its row
last_is : (os : List OpenUpdate) (o : OpenUpdate) → slice_get (os ++ o ∷ []) (length os) ≡ Some o
last_is [] o = refl
last_is (x ∷ os) o = last_is os o

has_row : {X : Type 0} (value : X → UpdateRow) (row : Option X) (f : DeskFixed) (log : List (ℕ × Event)) (t : NumberedUpdate) → 1 ≤ t.version → IsTicketOf (desk_at f log) t → IfNone row (StoresSomeAnew t)
    → folds_in f.page_size (store_of f.limits (events log)) t.blob t.version ≡ [] → (os : List OpenUpdate) (number : ℕ) → HasRow (os ++ record { number = number; ticket = t; row = option_map value row } ∷ []) number
has_row value None f log t some ticket anew none os number = absurd (anew _ ticket.stands (sym (folds_told f log t some ticket) ∙ none))
has_row value (Some r) f log t some ticket anew none os number =
    let o : OpenUpdate = record { number = number; ticket = t; row = Some (value r) } in
    record { index = length os; update = o; is = last_is os o; number_is = refl; row = value r; row_is = refl }

has_no_row : {X : Type 0} (value : X → UpdateRow) (row : Option X) (f : DeskFixed) (log : List (ℕ × Event)) (t : NumberedUpdate) → 1 ≤ t.version → IsTicketOf (desk_at f log) t → IfSome row (λ _. StoresNoneAnew t)
    → folds_in f.page_size (store_of f.limits (events log)) t.blob t.version ≢ [] → (os : List OpenUpdate) (number : ℕ) → HasNoRow (os ++ record { number = number; ticket = t; row = option_map value row } ∷ []) number
has_no_row value None f log t some ticket anew folds os number =
    let o : OpenUpdate = record { number = number; ticket = t; row = None } in
    record { index = length os; update = o; is = last_is os o; number_is = refl; no_row = refl }
has_no_row value (Some r) f log t some ticket anew folds os number = absurd (folds (folds_told f log t some ticket ∙ anew _ ticket.stands))

module _ {D X : Type 0} (value : X → UpdateRow) (row : Option X) (m new : SessionState D) (t : NumberedUpdate) (blob version : ℕ) (blob_is : t.blob ≡ blob) (version_is : version ≡ t.version)
    (h : IsTicketHere m.store.fixed m.log t) (is : new ≡ record m { held = m.held ++ record { number = m.next; ticket = t; row = option_map value row } ∷ []; next = m.next + 1 }) where
  -- the pages that it stores anew, as the session tells them then
  folds_then : folds_in m.store.fixed.page_size (store_of m.store.fixed.limits (events m.log)) t.blob t.version ≡ folds_in new.store.fixed.page_size (store_at (session_of new) []) blob version
  folds_then =
      let f : DeskFixed = m.store.fixed in
      ap (λ (b : ℕ). folds_in f.page_size (store_of f.limits (events m.log)) b t.version) blob_is
      ∙ (ap (λ (v : ℕ). folds_in f.page_size (store_of f.limits (events m.log)) blob v) (sym version_is)
      ∙ (ap (λ (l : List Event). folds_in f.page_size (store_of f.limits l) blob version) (sym (append-nil (events m.log)))
      ∙ ap (λ (x : SessionState D). folds_in x.store.fixed.page_size (store_at (session_of x) []) blob version) (sym is)))

  pub start_row : IfNone row (StoresSomeAnew t) → folds_in new.store.fixed.page_size (store_at (session_of new) []) blob version ≡ [] → HasRow new.held m.next
  start_row anew none =
      subst (λ (os : List OpenUpdate). HasRow os m.next) (sym (ap (λ (x : SessionState D). x.held) is))
      (has_row value row m.store.fixed m.log t (omega (arith, h.below)) h.ticket anew (folds_then ∙ none) m.held m.next)

  pub start_alone : IfSome row (λ _. StoresNoneAnew t) → folds_in new.store.fixed.page_size (store_at (session_of new) []) blob version ≢ [] → HasNoRow new.held m.next
  start_alone anew folds =
      subst (λ (os : List OpenUpdate). HasNoRow os m.next) (sym (ap (λ (x : SessionState D). x.held) is))
      (has_no_row value row m.store.fixed m.log t (omega (arith, h.below)) h.ticket anew (λ none. folds (sym folds_then ∙ none)) m.held m.next)

-- ---- where the pages of an update were put that is held then
pub put_last : {D : Type 0} (called : D → D → Type 0) (faults : D → ℕ) (s m new : SessionState D) (number : ℕ) (t : NumberedUpdate) (row : Option UpdateRow) → number ≡ m.next
    → new ≡ record m { held = m.held ++ record { number = m.next; ticket = t; row = row } ∷ []; next = m.next + 1 } → WerePut called faults s m t → WerePutAlone called faults s new number
put_last {D = D} called faults s m new number t row number_is is put =
    let o : OpenUpdate = record { number = m.next; ticket = t; row = row } in
    let after : SessionState D = record m { held = m.held ++ o ∷ []; next = m.next + 1 } in
    let last : WerePutAlone called faults s after m.next = record { index = length m.held; update = o; is = last_is m.held o; number_is = refl; put = put } in
    subst (λ (k : ℕ). WerePutAlone called faults s new k) (sym number_is) (subst (λ (x : SessionState D). WerePutAlone called faults s x m.next) (sym is) last)
