-- Giving up tickets, and hanging up.
use Rattle.std.proofs.Common.{◌≡◌, ℕ, ◌+◌, Bool, if◌then◌else◌, cond, List, [], ◌∷◌, ◌++◌, length, refl, ap, subst, ◌∙◌, arith}
use Rattle.std.specs.Prelude.{count_by}
use Rattle.std.proofs.lemmas.Bool.{eq-eqb}
use Rattle.std.proofs.lemmas.List.Sums.{sum_by-cons, sum_by_push}
use Rattle.blob_model.specs.History.{AllOther}
use Rattle.request_form.specs.declared.form.Reply.{Reply}
use Rattle.request_form.specs.declared.form.Reply.TheVariants as Replies
use Rattle.blob_model.specs.declared.call.Event.{Event}
use Rattle.request_form.specs.Session.{Session, HeldTicket, sees, without_ticket}
use Rattle.request_form.specs.Turns.{Gap, Tickets, Turn, with_tickets, and_made}
use Rattle.request_form.specs.Answers.{FinishTurn}
use Rattle.request_form.specs.Own.{Makes, finish_made}
use Rattle.request_form.specs.HangUp.{GivenUp, GivesUp, GivenUpCounts, given_up_counts, tells_finished, tells_no_memory, tells_pending, tells_page_fault, finishes_made}
use Rattle.request_form.specs.Laws.{GivingUpGoesOn, HangUpsHold}
use Rattle.request_form.proofs.Own.{makes_none, Makes-trans, once_makes, finish_tells}

pub given_up_more : GivingUpGoesOn
given_up_more s [] [] mid ticket reply s' e one = (s', subst (λ (x : Session). GivenUp AllOther x ticket reply s') e one, refl)
given_up_more s (t ∷ ts) (r ∷ rs) mid ticket reply s' (next, first, rest) one = (next, first, given_up_more next ts rs mid ticket reply s' rest one)
given_up_more s [] (r ∷ rs) mid ticket reply s' none one = absurd none
given_up_more s (t ∷ ts) [] mid ticket reply s' none one = absurd none

-- one reply more in a count
pub count_more : (tells : Reply → Bool) (replies : List Reply) (reply : Reply) → count_by tells (replies ++ reply ∷ []) ≡ count_by tells replies + cond (tells reply) 1 0
count_more tells replies reply = sum_by_push (λ r. cond (tells r) 1 0) replies reply

-- ---- one ticket
-- the first ticket of a list is the one of its number
first_without : (ticket : HeldTicket) (tickets : List HeldTicket) → without_ticket (ticket ∷ tickets) ticket.number ≡ tickets
first_without ticket tickets = ap (λ (t : Bool). if t then tickets else ticket ∷ without_ticket tickets ticket.number) (eq-eqb ticket.number ticket.number refl)

-- its reply is counted once
abbrev counted : Reply → ℕ
counted r = cond (tells_finished r) 1 0 + cond (tells_no_memory r) 1 0 + cond (tells_pending r) 1 0 + cond (tells_page_fault r) 1 0

module _ (s : Session) (ticket : HeldTicket) (front : List Event) where
  abbrev pub Given : Turn → Type 0
  Given turn = FinishTurn s ticket.blob ticket.version (λ published. Replies.Finished published) (Tickets.drop ticket.number) (Tickets.drop ticket.number) front turn

  given_drops : (turn : Turn) → Given turn → turn.tickets ≡ Tickets.drop ticket.number
  given_drops _ (FinishTurn.finished published unfinished ready e) = refl
  given_drops _ (FinishTurn.found e) = refl
  given_drops _ (FinishTurn.waits held unfinished folds e) = refl
  given_drops _ (FinishTurn.not_folded page unfinished folds ready) = refl
  given_drops _ FinishTurn.out_of_memory = refl

  given_counted : (turn : Turn) → Given turn → counted turn.said ≡ 1
  given_counted _ (FinishTurn.finished published unfinished ready e) = refl
  given_counted _ (FinishTurn.found e) = refl
  given_counted _ (FinishTurn.waits held unfinished folds e) = refl
  given_counted _ (FinishTurn.not_folded page unfinished folds ready) = refl
  given_counted _ FinishTurn.out_of_memory = refl

module _ (s s' : Session) (ticket : HeldTicket) (reply : Reply) where
  pub given_up_makes : GivenUp AllOther s ticket reply s' → Makes s (finish_made s.caller ticket.blob ticket.version reply) s'
  given_up_makes a =
      once_makes s s' _ (λ r. finish_made s.caller ticket.blob ticket.version r) reply
      (λ front turn t. finish_tells s front ticket.blob ticket.version _ _ _ (λ published. refl) turn t) a

  -- it was the first of those that are held
  given_up_tickets : (gap : Gap) (tickets : List HeldTicket) → s.tickets ≡ ticket ∷ tickets → GivenUp gap s ticket reply s' → s'.tickets ≡ tickets
  given_up_tickets gap tickets e a =
      let is : s' ≡ with_tickets (Tickets.drop ticket.number) (sees s (and_made a.others a.turn.made)) =
      a.seen ∙ ap (λ (t : Tickets). with_tickets t (sees s (and_made a.others a.turn.made))) (given_drops s ticket a.others a.turn a.may) in
      ap (λ (x : Session). x.tickets) is ∙ (ap (λ (l : List HeldTicket). without_ticket l ticket.number) e ∙ first_without ticket tickets)

  given_up_counted : (gap : Gap) → GivenUp gap s ticket reply s' → counted reply ≡ 1
  given_up_counted gap a = ap counted a.said ∙ given_counted s ticket a.others a.turn a.may

-- ---- all of them
gives_up_tickets : (gap : Gap) (s : Session) (tickets : List HeldTicket) (replies : List Reply) (s' : Session) → s.tickets ≡ tickets → GivesUp gap s tickets replies s' → s'.tickets ≡ []
gives_up_tickets gap s [] [] s' e same = ap (λ (x : Session). x.tickets) same ∙ e
gives_up_tickets gap s (t ∷ ts) (r ∷ rs) s' e (mid, first, rest) = gives_up_tickets gap mid ts rs s' (given_up_tickets s mid t r gap ts e first) rest
gives_up_tickets gap s [] (r ∷ rs) s' e none = absurd none
gives_up_tickets gap s (t ∷ ts) [] s' e none = absurd none

abbrev all_counts : GivenUpCounts → ℕ
all_counts c = c.finished + c.no_memory + c.pending + c.page_fault

gives_up_counts : (gap : Gap) (s : Session) (tickets : List HeldTicket) (replies : List Reply) (s' : Session) → GivesUp gap s tickets replies s'
    → all_counts (given_up_counts replies) ≡ length tickets
gives_up_counts gap s [] [] s' same = refl
gives_up_counts gap s (t ∷ ts) (r ∷ rs) s' (mid, first, rest) =
    let one = given_up_counted s mid t r gap first in
    let more = gives_up_counts gap mid ts rs s' rest in
    let a = sum_by-cons (λ x. cond (tells_finished x) 1 0) r rs in
    let b = sum_by-cons (λ x. cond (tells_no_memory x) 1 0) r rs in
    let c = sum_by-cons (λ x. cond (tells_pending x) 1 0) r rs in
    let d = sum_by-cons (λ x. cond (tells_page_fault x) 1 0) r rs in
    omega (arith, one, more, a, b, c, d)
gives_up_counts gap s [] (r ∷ rs) s' none = absurd none
gives_up_counts gap s (t ∷ ts) [] s' none = absurd none

pub gives_up_makes : (s : Session) (tickets : List HeldTicket) (replies : List Reply) (s' : Session) → GivesUp AllOther s tickets replies s' → Makes s (finishes_made s.caller tickets replies) s'
gives_up_makes s [] [] s' same = makes_none s s' same
gives_up_makes s (t ∷ ts) (r ∷ rs) s' (mid, first, rest) =
    let a = given_up_makes s mid t r first in
    let b : Makes mid (finishes_made s.caller ts rs) s' = subst (λ (c : ℕ). Makes mid (finishes_made c ts rs) s') a.caller (gives_up_makes mid ts rs s' rest) in
    Makes-trans s mid s' (finish_made s.caller t.blob t.version r) (finishes_made s.caller ts rs) a b
gives_up_makes s [] (r ∷ rs) s' none = absurd none
gives_up_makes s (t ∷ ts) [] s' none = absurd none

pub hang_ups : HangUpsHold
hang_ups s counts s' h =
    let m = gives_up_makes s s.tickets h.replies h.mid h.gives_up in
    let all = gives_up_counts AllOther s s.tickets h.replies h.mid h.gives_up in
    record {
      tickets = ap (λ (x : Session). x.tickets) h.anew ∙ gives_up_tickets AllOther s s.tickets h.replies h.mid refl h.gives_up;
      next = ap (λ (x : Session). x.next) h.anew;
      limit = ap (λ (x : Session). x.limit) h.anew;
      each_once = ap all_counts h.counts_are ∙ all;
      makes = record {
        fixed = ap (λ (x : Session). x.fixed) h.anew ∙ m.fixed;
        caller = ap (λ (x : Session). x.caller) h.anew ∙ m.caller;
        more = m.more;
        seen = ap (λ (x : Session). x.seen) h.anew ∙ m.seen;
        own_after = rw (ap (λ (x : Session). x.seen) h.anew) m.own_after;
      };
    }
