-- A session that hangs up, ticket by ticket.
use Rattle.std.proofs.Common.{◌≡◌, refl, sym, ◌∙◌, ap, subst, ℕ, suc, ◌+◌, ◌<◌, ◌≤◌, List, [], ◌∷◌, ◌++◌, append_assoc, append-nil, Bool, true, false, length, length-append, take, Option, Some, None, eq-eqb, arith}
use Rattle.std.specs.Prelude.{All, cond, count_by, sum_by, slice_get}
use Rattle.std.proofs.lemmas.Bool.{false≢true}
use Rattle.std.proofs.lemmas.List.{length-map, length-take-le}
use Rattle.std.proofs.lemmas.List.Sums.{sum_by-cons}
use Rattle.blob_model.specs.History.{AllOther, IsNumbered, store_of}
use Rattle.blob_model.specs.declared.call.Event.{Event}
use Rattle.blob_model.specs.Content.{Update}
use Rattle.blob_model.specs.Store.{Store, Blob, blob_at}
use Rattle.range_log.specs.Updates.{extents}
use Rattle.range_log.specs.Laws.{TouchesAre, ExtentsAre}
use Rattle.border_hints.specs.Numbered.{NumberedUpdate, IsTicketAmong, own_touch, log_with}
use Rattle.version_manager.specs.Desks.{finished_or_not, updates_or_none, updates_in}
use Rattle.version_manager.specs.Log.{desk_at, events}
use Rattle.version_manager.specs.declared.journal.DeskFixed.{DeskFixed}
use Rattle.request_form.specs.Session.{Session, HeldTicket, sees, drops, ticket_at, without_ticket}
use Rattle.faults.specs.Counts.{RoseBy}
use Rattle.request_form.specs.Turns.{Tickets, Turn, with_tickets, and_made}
use Rattle.request_form.specs.Answers.{FinishTurn, FinishAnswer}
use Rattle.request_form.specs.declared.form.Reply.TheVariants as Replies
use Rattle.request_form.specs.Replies.{fault_count}
use Rattle.request_form.specs.HangUp.{GivesUp, HungUp, IsFinishedIn, AllNumbered, AllFinished, GivenUpCounts, given_up_counts, tells_finished, tells_no_memory, tells_pending, tells_page_fault, begins_anew}
use Rattle.request_form.specs.Laws.{GivingUpGoesOn, HungUpAreFinished}
use Rattle.request_form.proofs.HangUps.{count_more}
use Rattle.request_form.specs.declared.form.Reply.{Reply}
use Rattle.client_session.specs.TurnCounts.{UpTo}
use Rattle.client_session.specs.Sessions.{SessionState, Continues, session_of}
use Rattle.client_session.specs.Tickets.{OpenUpdate, ticket_of, tickets_of}
use Rattle.client_session.specs.SessionInvariant.{IsOpen}
use Rattle.client_session.specs.HangUp.{GivesUpOne, GivingUp, finished_seen, counted, tells_hindered}
use Rattle.client_session.proofs.Waiting.{goes_both}
use Rattle.faults.proofs.Counts.{RoseBy-trans}

-- the first ticket is found under its number, and left out by it
first_found : (t : HeldTicket) (ts : List HeldTicket) → ticket_at (t ∷ ts) t.number ≡ Some t
first_found t ts = rw (eq-eqb t.number t.number refl) refl

first_left : (t : HeldTicket) (ts : List HeldTicket) → without_ticket (t ∷ ts) t.number ≡ ts
first_left t ts = rw (eq-eqb t.number t.number refl) refl

-- a finish of the first ticket
abbrev First : Session → HeldTicket → Reply → Session → Type 0
First s t reply s' = FinishAnswer AllOther s t.number (Some t) reply s'

report_of : (s : Session) (t : HeldTicket) (ts : List HeldTicket) (reply : Reply) (s' : Session) → s.tickets ≡ t ∷ ts → FinishAnswer AllOther s t.number (ticket_at s.tickets t.number) reply s' → First s t reply s'
report_of s t ts reply s' is a =
    subst (λ (o : Option HeldTicket). FinishAnswer AllOther s t.number o reply s') (ap (λ (hs : List HeldTicket). ticket_at hs t.number) is ∙ first_found t ts) a

pub dropped_left : (s : Session) (t : HeldTicket) (ts : List HeldTicket) → s.tickets ≡ t ∷ ts → without_ticket s.tickets t.number ≡ ts
dropped_left s t ts is = ap (λ (hs : List HeldTicket). without_ticket hs t.number) is ∙ first_left t ts

-- where something is held, there is a first ticket
pub some_held : (os : List OpenUpdate) → 0 < length os → (t : HeldTicket) × ((ts : List HeldTicket) × (tickets_of os ≡ t ∷ ts))
some_held [] some = absurd (omega arith)
some_held (o ∷ os) some = (ticket_of o, (tickets_of os, refl))

pub first_number : (os : List OpenUpdate) (o : OpenUpdate) (t : HeldTicket) (ts : List HeldTicket) → slice_get os 0 ≡ Some o → tickets_of os ≡ t ∷ ts → o.number ≡ t.number
first_number [] o t ts at is = cc
first_number (x ∷ os) o t ts at is =
    let same : x ≡ o = cc in
    let first : ticket_of x ≡ t = cc in
    ap (λ (y : OpenUpdate). y.number) (sym same) ∙ ap (λ (h : HeldTicket). h.number) first

pub fewer_held : (old new : List OpenUpdate) (t : HeldTicket) (ts : List HeldTicket) → tickets_of old ≡ t ∷ ts → tickets_of new ≡ ts → length old ≡ length new + 1
fewer_held old new t ts is left = omega (arith, ap length is, ap length left, length-map old ticket_of, length-map new ticket_of)

pub some_left : (os : List OpenUpdate) (t : HeldTicket) (ts : List HeldTicket) → tickets_of os ≡ t ∷ ts → 0 < length os
some_left os t ts is = omega (arith, ap length is, length-map os ticket_of)

abbrev ways_told : Reply → ℕ
ways_told reply = cond (tells_finished reply) 1 0 + cond (tells_no_memory reply) 1 0 + cond (tells_pending reply) 1 0 + cond (tells_page_fault reply) 1 0

abbrev FaultsAre : Reply → Type 0
FaultsAre reply = fault_count reply ≡ cond (tells_page_fault reply) 1 0

module _ (s : Session) (t : HeldTicket) (others : List Event) where
  -- Given up, a ticket's finish says the same, and the ticket is given up in any case.
  record GivesUpBy (turn : Turn) : Type 0 where
    pub may : FinishTurn s t.blob t.version (λ published. Replies.Finished published) (Tickets.drop t.number) (Tickets.drop t.number) others
        (record { said = turn.said; made = turn.made; tickets = Tickets.drop t.number })
    pub once : ways_told turn.said ≡ 1
    pub faults : FaultsAre turn.said
    pub calm : tells_hindered turn.said ≡ false → turn.tickets ≡ Tickets.drop t.number
    pub hindered : tells_hindered turn.said ≡ true → turn.tickets ≡ Tickets.stay

  gives_up_by : (turn : Turn) → FinishTurn s t.blob t.version (λ published. Replies.Finished published) (Tickets.drop t.number) Tickets.stay others turn → GivesUpBy turn
  gives_up_by _ (FinishTurn.finished published unfinished ready e) = record {
    may = FinishTurn.finished published unfinished ready e;
    once = refl;
    faults = refl;
    calm = λ no. refl;
    hindered = λ yes. absurd (false≢true yes);
  }
  gives_up_by _ (FinishTurn.found e) = record { may = FinishTurn.found e; once = refl; faults = refl; calm = λ no. refl; hindered = λ yes. absurd (false≢true yes) }
  gives_up_by _ (FinishTurn.waits held unfinished folds e) = record {
    may = FinishTurn.waits held unfinished folds e;
    once = refl;
    faults = refl;
    calm = λ no. absurd (false≢true (sym no));
    hindered = λ yes. refl;
  }
  gives_up_by _ (FinishTurn.not_folded page unfinished fold ready) = record {
    may = FinishTurn.not_folded page unfinished fold ready;
    once = refl;
    faults = refl;
    calm = λ no. absurd (false≢true (sym no));
    hindered = λ yes. refl;
  }
  gives_up_by _ FinishTurn.out_of_memory = record { may = FinishTurn.out_of_memory; once = refl; faults = refl; calm = λ no. absurd (false≢true (sym no)); hindered = λ yes. refl }

module _ (s : Session) (t : HeldTicket) (ts : List HeldTicket) (is : s.tickets ≡ t ∷ ts) (reply : Reply) (mid : Session) where
  -- what is seen of a turn that keeps its tickets, and of one that gives this one up
  seen_with : (a : First s t reply mid) (tickets : Tickets) → a.turn.tickets ≡ tickets → mid ≡ with_tickets tickets (sees s (and_made a.others a.turn.made))
  seen_with a tickets e = a.seen ∙ ap (λ (x : Tickets). with_tickets x (sees s (and_made a.others a.turn.made))) e

  given_up_by : (a : First s t reply mid) (s' : Session) → s' ≡ with_tickets (Tickets.drop t.number) (sees s (and_made a.others a.turn.made)) → GivesUpOne s t ts reply s'
  given_up_by a s' seen =
      let g : GivesUpBy s t a.others a.turn = gives_up_by s t a.others a.turn a.may in
      record {
        given_up = record { others = a.others; is_gap = a.is_gap; turn = record { said = a.turn.said; made = a.turn.made; tickets = Tickets.drop t.number }; may = g.may; said = a.said; seen = seen };
        left = ap (λ (y : Session). y.tickets) seen ∙ dropped_left s t ts is;
        once = ap ways_told a.said ∙ g.once;
        faults = subst FaultsAre (sym a.said) g.faults;
      }

  -- the finish of the first ticket was done, or found done
  gone_by : (a : First s t reply mid) → tells_hindered reply ≡ false → GivesUpOne s t ts reply mid
  gone_by a calm =
      given_up_by a mid (seen_with a (Tickets.drop t.number) ((gives_up_by s t a.others a.turn a.may).calm (sym (ap tells_hindered a.said) ∙ calm)))

  pub one_gone : FinishAnswer AllOther s t.number (ticket_at s.tickets t.number) reply mid → tells_hindered reply ≡ false → GivesUpOne s t ts reply mid
  one_gone a calm = gone_by (report_of s t ts reply mid is a) calm

  -- it was hindered: the same tickets are held
  kept_by : (a : First s t reply mid) → tells_hindered reply ≡ true → mid ≡ sees s (and_made a.others a.turn.made)
  kept_by a told = seen_with a Tickets.stay ((gives_up_by s t a.others a.turn a.may).hindered (sym (ap tells_hindered a.said) ∙ told))

  pub same_tickets : FinishAnswer AllOther s t.number (ticket_at s.tickets t.number) reply mid → tells_hindered reply ≡ true → mid.tickets ≡ t ∷ ts
  same_tickets a told = ap (λ (y : Session). y.tickets) (kept_by (report_of s t ts reply mid is a) told) ∙ is

  -- and it is dropped
  pub one_dropped : FinishAnswer AllOther s t.number (ticket_at s.tickets t.number) reply mid → tells_hindered reply ≡ true → (s' : Session) → s' ≡ drops mid t.number → GivesUpOne s t ts reply s'
  one_dropped a told s' dropped =
      let b : First s t reply mid = report_of s t ts reply mid is a in
      given_up_by b s' (dropped ∙ ap (λ (y : Session). drops y t.number) (kept_by b told))

-- ---- what is finished then
none_below : (x y : Bool) → (x ≡ true → y ≡ true) → cond x 1 0 ≤ cond y 1 0
none_below true y h = rw (h refl) (omega arith)
none_below false y h = omega arith

found_there : (store : Store) (t : HeldTicket) → IsFinishedIn store t → finished_or_not (blob_at store t.blob) t.version ≡ true
found_there store t (b, is, done) = ap (λ (o : Option Blob). finished_or_not o t.version) is ∙ done

-- no more replies tell of a finish than versions are finished
few_finished : (s : Session) (ts : List HeldTicket) (replies : List Reply) (s' : Session) (store : Store) → GivesUp AllOther s ts replies s' → AllFinished store ts replies
    → count_by tells_finished replies ≤ count_by (λ (t : HeldTicket). finished_or_not (blob_at store t.blob) t.version) ts
few_finished s [] [] s' store g all = omega arith
few_finished s (t ∷ ts) (r ∷ rs) s' store (mid, first, rest) all =
    let f : HeldTicket → Bool = λ t. finished_or_not (blob_at store t.blob) t.version in
    let one = none_below (tells_finished r) (f t) (λ e. found_there store t (all.0 e)) in
    let more = few_finished mid ts rs s' store rest all.1 in
    let a = sum_by-cons (λ (x : Reply). cond (tells_finished x) 1 0) r rs in
    let b = sum_by-cons (λ (x : HeldTicket). cond (f x) 1 0) t ts in
    omega (arith, one, more, a, b)
few_finished s [] (r ∷ rs) s' store none all = absurd none
few_finished s (t ∷ ts) [] s' store none all = absurd none

-- a ticket's version isn't 0, since the ticket stands for the updates up to it
some_version : TouchesAre → ExtentsAre → (t : NumberedUpdate) (us : List Update) → t.version ≤ length us → IsTicketAmong t (extents (take t.version us)) → 1 ≤ t.version
some_version touched counted t us numbered stands =
    omega (
      arith,
      length-take-le t.version us numbered,
      counted (take t.version us),
      touched t.snapshot.page_size (extents (take t.version us)),
      ap length stands.touches,
      length-append (log_with t.snapshot t.waiting) (own_touch t ∷ []),
    )

there_numbered : (o : Option Blob) (version : ℕ) → 1 ≤ version → version ≤ length (updates_or_none o) → IsNumbered o version
there_numbered None version some upto = omega (arith, some, upto)
there_numbered (Some b) version some upto = (some, upto)

-- each held update was numbered in what the session has seen
pub all_numbered : TouchesAre → ExtentsAre → (f : DeskFixed) (log : List (ℕ × Event)) (held : List OpenUpdate) → All (IsOpen f log) held → AllNumbered (store_of f.limits (events log)) (tickets_of held)
all_numbered touched counted f log [] all = tt
all_numbered touched counted f log (o ∷ os) all =
    let first : IsOpen f log o = all 0 o (omega arith) in
    let some = some_version touched counted o.ticket (updates_in (desk_at f log) o.ticket.blob) first.ticket.numbered first.ticket.stands in
    (there_numbered (blob_at (store_of f.limits (events log)) o.ticket.blob) o.ticket.version some first.ticket.numbered, all_numbered touched counted f log os (λ k x lt. all (suc k) x (omega arith)))

pub finished_then : HungUpAreFinished → (s : Session) (counts : GivenUpCounts) (s' : Session) → HungUp AllOther s counts s' → AllNumbered (store_of s.fixed.limits s.seen) s.tickets
    → counts.finished ≤ finished_seen s' s.tickets
finished_then law s counts s' h numbered =
    let few = few_finished s s.tickets h.replies h.mid (store_of s'.fixed.limits s'.seen) h.gives_up (law s counts s' h numbered) in
    omega (arith, few, ap (λ (c : GivenUpCounts). c.finished) h.counts_are)

abbrev these : ℕ → ℕ → ℕ → ℕ → GivenUpCounts
these finished no_memory pending page_fault = record { finished = finished; no_memory = no_memory; pending = pending; page_fault = page_fault }

-- one reply more
counted_more : (replies : List Reply) (reply : Reply) → counted (given_up_counts replies) reply ≡ given_up_counts (replies ++ reply ∷ [])
counted_more replies reply =
    let old : GivenUpCounts = counted (given_up_counts replies) reply in
    let new : GivenUpCounts = given_up_counts (replies ++ reply ∷ []) in
    ap (λ (n : ℕ). these n old.no_memory old.pending old.page_fault) (sym (count_more tells_finished replies reply))
    ∙ (ap (λ (n : ℕ). these new.finished n old.pending old.page_fault) (sym (count_more tells_no_memory replies reply))
    ∙ (ap (λ (n : ℕ). these new.finished new.no_memory n old.page_fault) (sym (count_more tells_pending replies reply))
    ∙ ap (λ (n : ℕ). these new.finished new.no_memory new.pending n) (sym (count_more tells_page_fault replies reply))))

-- ---- the loop
module _ {D : Type 0} (faults : D → ℕ) where
  pub giving_start : (s : SessionState D) → GivingUp faults s s (these 0 0 0 0)
  giving_start s = record {
    gone = [];
    replies = [];
    split = refl;
    gives_up = refl;
    counts_are = refl;
    each_once = omega arith;
    faults_rose = record { later = omega arith; by = λ few. omega arith };
    goes_on = record { store = refl; caller = refl; begins = ([], sym (append-nil s.log)) };
    turns = record { least = omega arith; most = omega arith };
  }

  pub giving_more : GivingUpGoesOn → (a b d : SessionState D) (counts : GivenUpCounts) (reply : Reply) (t : HeldTicket) (ts : List HeldTicket) → GivingUp faults a b counts → (session_of b).tickets ≡ t ∷ ts
      → GivesUpOne (session_of b) t ts reply (session_of d) → length b.held ≡ length d.held + 1 → RoseBy (fault_count reply) (sum_by faults b.doors) (sum_by faults d.doors) → Continues b d → UpTo 2 b.turns d.turns
      → GivingUp faults a d (counted counts reply)
  giving_more law a b d counts reply t ts g is one fewer rose goes turns = record {
    gone = g.gone ++ t ∷ [];
    replies = g.replies ++ reply ∷ [];
    split = g.split ∙ (ap (λ (hs : List HeldTicket). g.gone ++ hs) (is ∙ ap (λ (hs : List HeldTicket). t ∷ hs) (sym one.left)) ∙ sym (append_assoc g.gone (t ∷ []) (session_of d).tickets));
    gives_up = law (session_of a) g.gone g.replies (session_of b) t reply (session_of d) g.gives_up one.given_up;
    counts_are = ap (λ (c : GivenUpCounts). counted c reply) g.counts_are ∙ counted_more g.replies reply;
    each_once = omega (arith, g.each_once, fewer, one.once);
    faults_rose = RoseBy-trans counts.page_fault (cond (tells_page_fault reply) 1 0) (sum_by faults a.doors) (sum_by faults b.doors) (sum_by faults d.doors) g.faults_rose
        (subst (λ (n : ℕ). RoseBy n (sum_by faults b.doors) (sum_by faults d.doors)) one.faults rose);
    goes_on = goes_both a b d g.goes_on goes;
    turns = record { least = omega (arith, g.turns.least, turns.least); most = omega (arith, g.turns.most, turns.most, fewer, g.each_once) };
  }

  none_left : (xs : List HeldTicket) → length xs ≤ 0 → xs ≡ []
  none_left [] le = refl
  none_left (x ∷ xs) le = absurd (omega arith)

  -- all are given up
  pub hung_up : (a b : SessionState D) (counts : GivenUpCounts) (s' : Session) → GivingUp faults a b counts → length b.held ≤ 0 → s' ≡ begins_anew (session_of b) → HungUp AllOther (session_of a) counts s'
  hung_up a b counts s' g none anew =
      let left : (session_of b).tickets ≡ [] = none_left (session_of b).tickets (omega (arith, none, length-map b.held ticket_of)) in
      let all : g.gone ≡ (session_of a).tickets = sym (g.split ∙ (ap (λ (hs : List HeldTicket). g.gone ++ hs) left ∙ append-nil g.gone)) in
      record {
        replies = g.replies;
        mid = session_of b;
        gives_up = subst (λ (hs : List HeldTicket). GivesUp AllOther (session_of a) hs g.replies (session_of b)) all g.gives_up;
        counts_are = g.counts_are;
        anew = anew;
      }
