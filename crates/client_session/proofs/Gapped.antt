-- Others' events before a turn are part of its gap.
use Rattle.std.proofs.Common.{◌≡◌, ◌≢◌, refl, sym, ◌∙◌, ap, ℕ, List, [], ◌∷◌, ◌++◌, append_assoc}
use Rattle.blob_model.specs.Store.{Store}
use Rattle.blob_model.specs.Answer.{answer}
use Rattle.blob_model.specs.History.{AllOther, store_of}
use Rattle.blob_model.specs.declared.call.Place.{Place}
use Rattle.blob_model.specs.declared.call.Call.{Call}
use Rattle.blob_model.specs.declared.call.Call.TheVariants as Calls
use Rattle.blob_model.specs.declared.call.Event.{Event}
use Rattle.request_form.specs.Session.{Session, store_at, outcome_at, sees}
use Rattle.request_form.specs.Turns.{Turn, AfterGap}
use Rattle.request_form.specs.Answers.{RepairTurn, UnnumberedTurn}
use Rattle.request_form.proofs.Elsewhere.{repair_too, turn_later}
use Rattle.request_form.specs.declared.form.Reply.{Reply}
use Rattle.request_form.specs.declared.form.Reply.TheVariants as Replies
use Rattle.request_form.specs.declared.form.Fault.TheVariants as Faults

pub others_both : (caller : ℕ) (a b : List Event) → AllOther caller a → AllOther caller b → AllOther caller (a ++ b)
others_both caller [] b x y = y
others_both caller (e ∷ a) b x y = (x.0, others_both caller a b x.1 y)

module _ (s : Session) (gap : List Event) (is_gap : AllOther s.caller gap) where
  abbrev mid : Session
  mid = sees s gap

  store_is : (more : List Event) → store_at mid more ≡ store_at s (gap ++ more)
  store_is more = ap (store_of s.fixed.limits) (append_assoc s.seen gap more)

  outcome_is : (more : List Event) (call : Call) → outcome_at s (gap ++ more) call ≡ outcome_at mid more call
  outcome_is more call = ap (λ (x : Store). (answer x s.caller call).1) (sym (store_is more))

  pub finish_later : (blob version : ℕ) (reply : Reply) (x : Session) → AfterGap AllOther mid (RepairTurn mid blob version) reply x → AfterGap AllOther s (RepairTurn s blob version) reply x
  finish_later blob version reply x a =
      turn_later AllOther s gap _ _ (λ more other. others_both s.caller gap more is_gap other)
      (λ more turn t. repair_too mid s more (gap ++ more) refl refl (store_is more) blob version turn t) reply x a

  -- An update that isn't numbered, but for a page that wasn't stored.
  unnumbered_too : (blob : ℕ) (place : Place) (bytes : List ℕ) (reply : Reply) → ((page : ℕ) → reply ≢ Replies.Refused (Faults.PageFault page)) → (more : List Event) (turn : Turn)
      → UnnumberedTurn mid blob place bytes more turn → reply ≡ turn.said → UnnumberedTurn s blob place bytes (gap ++ more) turn
  unnumbered_too blob place bytes reply calm more _ (UnnumberedTurn.refused refusal e) said = UnnumberedTurn.refused refusal (outcome_is more (Calls.Assign blob place bytes) ∙ e)
  unnumbered_too blob place bytes reply calm more _ UnnumberedTurn.out_of_memory said = UnnumberedTurn.out_of_memory
  unnumbered_too blob place bytes reply calm more _ (UnnumberedTurn.not_stored page is stored) said = absurd (calm page said)

  pub unnumbered_later : (blob : ℕ) (place : Place) (bytes : List ℕ) (reply : Reply) (x : Session) → ((page : ℕ) → reply ≢ Replies.Refused (Faults.PageFault page))
      → AfterGap AllOther mid (UnnumberedTurn mid blob place bytes) reply x → AfterGap AllOther s (UnnumberedTurn s blob place bytes) reply x
  unnumbered_later blob place bytes reply x calm a =
      turn_later AllOther s gap (λ more turn. UnnumberedTurn mid blob place bytes more turn × (reply ≡ turn.said)) _ (λ more other. others_both s.caller gap more is_gap other)
      (λ more turn t. unnumbered_too blob place bytes reply calm more turn t.0 t.1) reply x
      (record { others = a.others; is_gap = a.is_gap; turn = a.turn; may = (a.may, a.said); said = a.said; seen = a.seen })
