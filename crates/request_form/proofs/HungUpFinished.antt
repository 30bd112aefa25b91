-- What hanging up counts as finished is finished.
use Rattle.std.proofs.Common.{◌≡◌, ℕ, ◌==◌, ◌&&◌, ◌||◌, nat_lt, Bool, true, false, if◌then◌else◌, List, [], ◌∷◌, ◌++◌, refl, sym, ap, subst, ◌∙◌}
use Rattle.std.specs.Prelude.{Option, Some, None}
use Rattle.std.proofs.lemmas.Bool.{eq-eqb, false≢true}
use Rattle.blob_model.specs.Limits.{Bounds}
use Rattle.blob_model.specs.Store.{Store, Blob, blob_at, assigned, published, is_finished}
use Rattle.blob_model.specs.Answer.{first_refusal, not_numbered, already}
use Rattle.blob_model.specs.History.{AllOther, finishes, store_of}
use Rattle.blob_model.specs.Laws.{OldVersionsStay, FinishedByEvents}
use Rattle.blob_model.specs.declared.call.Event.{Event}
use Rattle.blob_model.specs.declared.call.Event.TheVariants as Events
use Rattle.blob_model.specs.declared.call.Refusal.{Refusal}
use Rattle.blob_model.specs.declared.call.Refusal.TheVariants as Refusals
use Rattle.request_form.specs.declared.form.Reply.{Reply}
use Rattle.request_form.specs.Session.{Fixed, Session, HeldTicket, store_at}
use Rattle.request_form.specs.Turns.{Turn, and_made}
use Rattle.request_form.specs.Answers.{FinishTurn}
use Rattle.request_form.specs.HangUp.{GivenUp, GivesUp, tells_finished, IsFinishedIn, AllNumbered, AllFinished}
use Rattle.request_form.specs.Laws.{HungUpAreFinished}
use Rattle.request_form.proofs.Numbered.{Numbered, numbered, numbered_later, all_numbered_later}
use Rattle.request_form.proofs.Runs.{turn_grows}
use Rattle.request_form.proofs.HangUps.{Given, given_up_makes, gives_up_makes}
use Rattle.blob_model.proofs.Stays.{some_is}

or_true : (t : Bool) → (t || true) ≡ true
or_true true = refl
or_true false = refl

-- the last event finishes the version
finishes_last : (caller blob version : ℕ) (xs : List Event) → finishes blob version (xs ++ Events.Finish caller blob version ∷ []) ≡ true
finishes_last caller blob version [] =
    ap (λ (t : Bool). (t && (version == version)) || false) (eq-eqb blob blob refl) ∙ ap (λ (t : Bool). (true && t) || false) (eq-eqb version version refl)
finishes_last caller blob version (Events.Create c ∷ xs) = finishes_last caller blob version xs
finishes_last caller blob version (Events.Assign c other place bytes ∷ xs) = finishes_last caller blob version xs
finishes_last caller blob version (Events.Finish c other v ∷ xs) =
    ap (λ (t : Bool). ((other == blob) && (v == version)) || t) (finishes_last caller blob version xs) ∙ or_true ((other == blob) && (v == version))
finishes_last caller blob version (Events.Branch c other v ∷ xs) = finishes_last caller blob version xs

-- ---- a finish that is refused as it was done before
pub refused_already : (low done : Bool) (version least : ℕ)
    → (if low then Some (Refusals.NotPublished version least) else (if done then Some (Refusals.Already version) else None)) ≡ Some (Refusals.Already version) → done ≡ true
refused_already true done version least e = let never : ⊥ = cc in absurd never
refused_already false true version least e = refl
refused_already false false version least e = let never : ⊥ = cc in absurd never

found_in : (store : Store) (ticket : HeldTicket) (o : Option Blob) → blob_at store ticket.blob ≡ o
    → (let r : Option Refusal =
    elim o [ None ↦ Some (Refusals.NoBlob ticket.blob) | Some b ↦ first_refusal (not_numbered b ticket.version ∷ already b ticket.version ∷ []) ] in r)
    ≡ Some (Refusals.Already ticket.version) → IsFinishedIn store ticket
found_in store ticket None at e = let never : ⊥ = cc in absurd never
found_in store ticket (Some b) at e = (b, at, refused_already (nat_lt (assigned b) ticket.version) (is_finished b ticket.version) ticket.version (published b) e)

-- ---- later
module _ (stay : OldVersionsStay) (by_events : FinishedByEvents) (limits : Bounds) where
  -- a numbered version is finished later where it was, or where an event finishes it
  marked_later : (h more h' : List Event) (ticket : HeldTicket) → h' ≡ h ++ more → (n : Numbered (store_of limits h) ticket)
      → (is_finished n.b ticket.version || finishes ticket.blob ticket.version more) ≡ true → IsFinishedIn (store_of limits h') ticket
  marked_later h more h' ticket e n marked =
      let (new, at, stays) = stay limits h more ticket.blob n.b n.at in
      let mark : is_finished new ticket.version ≡ true = by_events limits h more ticket.blob ticket.version n.b new n.at at n.within ∙ marked in
      subst (λ (x : List Event). IsFinishedIn (store_of limits x) ticket) (sym e) (new, at, mark)

  finished_later : (h more h' : List Event) (ticket : HeldTicket) → h' ≡ h ++ more → Numbered (store_of limits h) ticket → IsFinishedIn (store_of limits h) ticket → IsFinishedIn (store_of limits h') ticket
  finished_later h more h' ticket e n (b, at, mark) =
      let same : b ≡ n.b = some_is (blob_at (store_of limits h) ticket.blob) b n.b at n.at in
      let was : is_finished n.b ticket.version ≡ true = ap (λ (x : Blob). is_finished x ticket.version) (sym same) ∙ mark in
      marked_later h more h' ticket e n (ap (λ (t : Bool). t || finishes ticket.blob ticket.version more) was)

  finished_by_last : (h others : List Event) (caller : ℕ) (h' : List Event) (ticket : HeldTicket) → h' ≡ h ++ (others ++ Events.Finish caller ticket.blob ticket.version ∷ [])
      → Numbered (store_of limits h) ticket → IsFinishedIn (store_of limits h') ticket
  finished_by_last h others caller h' ticket e n =
      marked_later h (others ++ Events.Finish caller ticket.blob ticket.version ∷ []) h' ticket e n
      (ap (λ (t : Bool). is_finished n.b ticket.version || t) (finishes_last caller ticket.blob ticket.version others) ∙ or_true (is_finished n.b ticket.version))

-- ---- tickets that are given up
module _ (stay : OldVersionsStay) (by_events : FinishedByEvents) where
  finished_turn : (s : Session) (seen : List Event) (ticket : HeldTicket) (front : List Event) (turn : Turn) → Numbered (store_of s.fixed.limits s.seen) ticket → Given s ticket front turn
      → seen ≡ s.seen ++ and_made front turn.made → tells_finished turn.said ≡ true → IsFinishedIn (store_of s.fixed.limits seen) ticket
  finished_turn s seen ticket front _ n (FinishTurn.finished published unfinished ready e) is told =
      finished_by_last stay by_events s.fixed.limits s.seen front s.caller seen ticket is n
  finished_turn s seen ticket front _ n (FinishTurn.found e) is told =
      subst (λ (x : List Event). IsFinishedIn (store_of s.fixed.limits x) ticket) (sym is) (found_in (store_at s front) ticket (blob_at (store_at s front) ticket.blob) refl e)
  finished_turn s seen ticket front _ n (FinishTurn.waits held unfinished folds e) is told = absurd (false≢true told)
  finished_turn s seen ticket front _ n (FinishTurn.not_folded page unfinished folds ready) is told = absurd (false≢true told)
  finished_turn s seen ticket front _ n FinishTurn.out_of_memory is told = absurd (false≢true told)

  finished_then : (s mid : Session) (ticket : HeldTicket) (reply : Reply) → Numbered (store_of s.fixed.limits s.seen) ticket → GivenUp AllOther s ticket reply mid
      → tells_finished reply ≡ true → IsFinishedIn (store_of s.fixed.limits mid.seen) ticket
  finished_then s mid ticket reply n a told =
      finished_turn s mid.seen ticket a.others a.turn n a.may (turn_grows AllOther s (λ front turn. Given s ticket front turn) reply mid a).seen
      (sym (ap (λ (r : Reply). tells_finished r) a.said) ∙ told)

  all_finished : (s : Session) (tickets : List HeldTicket) (replies : List Reply) (s' : Session) → GivesUp AllOther s tickets replies s'
      → AllNumbered (store_of s.fixed.limits s.seen) tickets → AllFinished (store_of s.fixed.limits s'.seen) tickets replies
  all_finished s [] [] s' same all = tt
  all_finished s (t ∷ ts) (r ∷ rs) s' (mid, first, rest) all =
      let one = given_up_makes s mid t r first in
      let later = gives_up_makes mid ts rs s' rest in
      let n : Numbered (store_of s.fixed.limits s.seen) t = numbered (store_of s.fixed.limits s.seen) t all.0 in
      let still : Numbered (store_of s.fixed.limits mid.seen) t = numbered_later stay s.fixed.limits s.seen one.more mid.seen t one.seen n in
      let others : AllNumbered (store_of s.fixed.limits mid.seen) ts = all_numbered_later stay s.fixed.limits s.seen one.more mid.seen ts one.seen all.1 in
      let limits : mid.fixed.limits ≡ s.fixed.limits = ap (λ (x : Fixed). x.limits) one.fixed in
      let more : AllFinished (store_of mid.fixed.limits s'.seen) ts rs =
      all_finished mid ts rs s' rest (subst (λ (l : Bounds). AllNumbered (store_of l mid.seen) ts) (sym limits) others) in (
        λ told. finished_later stay by_events s.fixed.limits mid.seen later.more s'.seen t later.seen still (finished_then s mid t r n first told),
        subst (λ (l : Bounds). AllFinished (store_of l s'.seen) ts rs) limits more,
      )
  all_finished s [] (r ∷ rs) s' none all = absurd none
  all_finished s (t ∷ ts) [] s' none all = absurd none

  pub hung_up_finished : HungUpAreFinished
  hung_up_finished s counts s' h all =
      let m = gives_up_makes s s.tickets h.replies h.mid h.gives_up in
      let seen : s'.seen ≡ h.mid.seen = ap (λ (x : Session). x.seen) h.anew in
      let limits : s'.fixed.limits ≡ s.fixed.limits = ap (λ (x : Session). x.fixed.limits) h.anew ∙ ap (λ (x : Fixed). x.limits) m.fixed in
      let ended : AllFinished (store_of s.fixed.limits h.mid.seen) s.tickets h.replies = all_finished s s.tickets h.replies h.mid h.gives_up all in
      subst (λ (l : Bounds). AllFinished (store_of l s'.seen) s.tickets h.replies) (sym limits)
      (subst (λ (x : List Event). AllFinished (store_of s.fixed.limits x) s.tickets h.replies) (sym seen) ended)
