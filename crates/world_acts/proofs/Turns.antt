-- Turns that are done are steps, and looks are none.
use Rattle.std.proofs.Common.{◌≡◌, ℕ, List, [], ◌∷◌, ◌++◌, refl, sym, ap, subst, ◌∙◌}
use Rattle.std.specs.Prelude.{Result, Ok, Err}
use Rattle.std.proofs.lemmas.List.{map-append}
use Rattle.blob_model.specs.Store.{Store}
use Rattle.blob_model.specs.Answer.{answer}
use Rattle.blob_model.specs.History.{caller_of, call_of, store_from, IsAccepted, IsLegalFrom}
use Rattle.blob_model.specs.declared.call.Call.{Call}
use Rattle.blob_model.specs.declared.call.Event.{Event}
use Rattle.blob_model.specs.declared.call.Event.TheVariants as Events
use Rattle.blob_model.specs.declared.call.Outcome.{Outcome}
use Rattle.blob_core.specs.World.{World}
use Rattle.blob_core.specs.Steps.{IsAllowed, events_of}
use Rattle.blob_core.specs.declared.step.Step.{Step}
use Rattle.blob_core.specs.declared.step.Step.TheVariants as Moves
use Rattle.version_manager.specs.declared.fault.DeskFault.{DeskFault}
use Rattle.version_manager.specs.declared.journal.DeskFixed.{DeskFixed}
use Rattle.version_manager.specs.Log.{IsLog, Changed, events, tag}
use Rattle.world_acts.specs.Worlds.{IsWorldOf, StoresAgree}
use Rattle.world_acts.specs.Turns.{IsTurn, CreatesAreSteps, BranchesAreSteps, LooksAreNoSteps}
use Rattle.world_acts.proofs.Steps.{one_step}

-- the last event of a legal history is accepted by the store of those before it
last_accepted : (s : Store) (xs : List Event) (e : Event) → IsLegalFrom s (xs ++ e ∷ []) → IsAccepted (store_from s xs) e
last_accepted s [] e legal = legal.0
last_accepted s (x ∷ xs) e legal = last_accepted (answer s (caller_of x) (call_of x)).0 xs e legal.1

pub events_more : (before : List (ℕ × Event)) (e : Event) → events (before ++ tag e ∷ []) ≡ events before ++ e ∷ []
events_more before e = map-append (λ (x : ℕ × Event). x.1) before (tag e ∷ [])

-- the event of a turn that is done is accepted by the store of the world
pub accepted : (agree : StoresAgree) (f : DeskFixed) (before now : List (ℕ × Event)) (w : World) (e : Event) → IsWorldOf f before w → IsLog f now → now ≡ before ++ tag e ∷ [] → IsAccepted w.store e
accepted agree f before now w e a log added =
    let more : events now ≡ events before ++ e ∷ [] = ap events added ∙ events_more before e in
    rw (agree f before w a) (last_accepted (record { limits = f.limits; blobs = [] }) (events before) e (rw more at log.legal))

-- a turn whose event the step is, and which is allowed where the store takes the event
pub turn : {A E : Type 0} (agree : StoresAgree) (f : DeskFixed) (before now : List (ℕ × Event)) (w : World) (caller : ℕ) (call : Call) (event : Event) (tells : A → Outcome) (fault : E → DeskFault)
    (said : Result A E) (step : Step) → IsWorldOf f before w → Changed f call event tells fault before caller said now
    → events_of w step ≡ event ∷ [] → (IsAccepted w.store event → IsAllowed f.page_size w step) → IsTurn f w step said now
turn agree f before now w caller call event tells fault (Ok x) step a c is may = record {
  done = one_step f before now w step a (may (accepted agree f before now w event a c.log_after c.added)) c.log_after
      (ap events c.added ∙ events_more before event ∙ ap (λ (l : List Event). events before ++ l) (sym is));
  none = tt;
}
turn agree f before now w caller call event tells fault (Err x) step a c is may =
    record { done = tt; none = rw c.same a }

pub creating : StoresAgree → CreatesAreSteps
creating agree f before now w caller said a c = turn agree f before now w caller _ (Events.Create caller) _ _ said (Moves.Create caller) a c refl (λ x. x.accepted)

pub branching : StoresAgree → BranchesAreSteps
branching agree f before now w caller blob version said a c =
    turn agree f before now w caller _ (Events.Branch caller blob version) _ _ said (Moves.Branch caller blob version) a c refl (λ x. x.accepted)

pub looking : LooksAreNoSteps
looking = record {
  looked = λ f before now w caller call said a l. subst (λ (h : List (ℕ × Event)). IsWorldOf f h w) (sym l.same) a;
  opened = λ f before now w caller blob version said a l. subst (λ (h : List (ℕ × Event)). IsWorldOf f h w) (sym l.same) a;
  reissued = λ f before now w blob version said a l. subst (λ (h : List (ℕ × Event)). IsWorldOf f h w) (sym l.same) a;
  foreseen = λ f before now w caller blob place len said a l. subst (λ (h : List (ℕ × Event)). IsWorldOf f h w) (sym l.same) a;
}
