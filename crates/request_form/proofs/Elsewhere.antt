-- What a turn may come to depends on the store alone, on who is there, and on the page size.
use Rattle.std.proofs.Common.{◌≡◌, ℕ, ◌-◌, List, [], ◌∷◌, ◌++◌, refl, sym, ap, subst, ◌∙◌, append_assoc}
use Rattle.std.specs.Prelude.{Contains}
use Rattle.blob_model.specs.Store.{Store}
use Rattle.blob_model.specs.Answer.{answer, repair_refusal}
use Rattle.blob_model.specs.declared.call.Call.{Call}
use Rattle.blob_model.specs.declared.call.Call.TheVariants as Calls
use Rattle.blob_model.specs.declared.call.Event.{Event}
use Rattle.blob_model.specs.declared.call.Event.TheVariants as Events
use Rattle.request_form.specs.declared.form.Reply.{Reply}
use Rattle.request_form.specs.Session.{Session, store_at, outcome_at, sees}
use Rattle.request_form.specs.Turns.{Gap, Tickets, Turn, with_tickets, and_made, AfterGap}
use Rattle.request_form.specs.Answers.{FinishTurn, RepairTurn, folds_in}

-- two sessions of one caller, over pages of one size, and the same store at two fronts
module _ (s x : Session) (at there : List Event) (caller : s.caller ≡ x.caller) (page : s.fixed.page ≡ x.fixed.page) (store : store_at s at ≡ store_at x there) where
  outcome_too : (call : Call) → outcome_at x there call ≡ outcome_at s at call
  outcome_too call = ap (λ (st : Store). (answer st x.caller call).1) (sym store) ∙ ap (λ (c : ℕ). (answer (store_at s at) c call).1) (sym caller)

  refusal_too : (blob version : ℕ) → repair_refusal (store_at x there) blob version ≡ repair_refusal (store_at s at) blob version
  refusal_too blob version = ap (λ (st : Store). repair_refusal st blob version) (sym store)

  folds_too : (blob version : ℕ) → folds_in x.fixed.page (store_at x there) blob version ≡ folds_in s.fixed.page (store_at s at) blob version
  folds_too blob version =
      ap (λ (st : Store). folds_in x.fixed.page st blob version) (sym store) ∙ ap (λ (p : ℕ). folds_in p (store_at s at) blob version) (sym page)

  pub finish_too : (blob version : ℕ) (says : ℕ → Reply) (settled hindered : Tickets) (turn : Turn) → FinishTurn s blob version says settled hindered at turn
      → FinishTurn x blob version says settled hindered there turn
  finish_too blob version says settled hindered _ (FinishTurn.finished published unfinished ready e) =
      let told : FinishTurn x blob version says settled hindered there (record { said = says published; made = Events.Finish x.caller blob version ∷ []; tickets = settled }) =
      FinishTurn.finished published (refusal_too blob version ∙ unfinished)
      (λ folds. outcome_too (Calls.Sync blob (version - 1)) ∙ ready (λ none. folds (folds_too blob version ∙ none))) (outcome_too (Calls.Finish blob version) ∙ e) in
      subst (λ (c : ℕ). FinishTurn x blob version says settled hindered there (record { said = says published; made = Events.Finish c blob version ∷ []; tickets = settled })) (sym caller) told
  finish_too blob version says settled hindered _ (FinishTurn.found e) = FinishTurn.found (refusal_too blob version ∙ e)
  finish_too blob version says settled hindered _ (FinishTurn.waits held unfinished folds e) =
      FinishTurn.waits held (refusal_too blob version ∙ unfinished) (λ none. folds (sym (folds_too blob version) ∙ none)) (outcome_too (Calls.Sync blob (version - 1)) ∙ e)
  finish_too blob version says settled hindered _ (FinishTurn.not_folded page unfinished fold ready) =
      FinishTurn.not_folded page (refusal_too blob version ∙ unfinished) (subst (λ (l : List ℕ). Contains l page) (sym (folds_too blob version)) fold) (outcome_too (Calls.Sync blob (version - 1)) ∙ ready)
  finish_too blob version says settled hindered _ FinishTurn.out_of_memory = FinishTurn.out_of_memory

  pub repair_too : (blob version : ℕ) (turn : Turn) → RepairTurn s blob version at turn → RepairTurn x blob version there turn
  repair_too blob version turn (RepairTurn.finish _ t) = RepairTurn.finish turn (finish_too blob version _ _ _ turn t)
  repair_too blob version _ (RepairTurn.refused refusal e other) = RepairTurn.refused refusal (refusal_too blob version ∙ e) other

-- ---- behind a gap
pub made_later : (gap others made : List Event) → gap ++ and_made others made ≡ and_made (gap ++ others) made
made_later gap others [] = refl
made_later gap others (e ∷ es) = sym (append_assoc gap others (e ∷ es))

-- a turn of a session that has seen a gap is one of the session before it, behind the longer gap
module _ (Gap' : Gap) (s : Session) (gap : List Event) (May Then : List Event → Turn → Type 0) (both : (more : List Event) → Gap' s.caller more → Gap' s.caller (gap ++ more))
    (later : (more : List Event) (turn : Turn) → May more turn → Then (gap ++ more) turn) where
  pub turn_later : (reply : Reply) (x : Session) → AfterGap Gap' (sees s gap) May reply x → AfterGap Gap' s Then reply x
  turn_later reply x a =
      let longer : sees (sees s gap) (and_made a.others a.turn.made) ≡ sees s (and_made (gap ++ a.others) a.turn.made) =
      ap (λ (h : List Event). record { fixed = s.fixed; caller = s.caller; seen = h; tickets = s.tickets; next = s.next; limit = s.limit })
      (append_assoc s.seen gap (and_made a.others a.turn.made) ∙ ap (λ (l : List Event). s.seen ++ l) (made_later gap a.others a.turn.made)) in
      record {
        others = gap ++ a.others;
        is_gap = both a.others a.is_gap;
        turn = a.turn;
        may = later a.others a.turn a.may;
        said = a.said;
        seen = a.seen ∙ ap (λ (y : Session). with_tickets a.turn.tickets y) longer;
      }
