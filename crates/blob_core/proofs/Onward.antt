-- One allowed step more.
use Rattle.std.proofs.Common.{◌≡◌, ℕ, ◌+◌, ◌<◌, List, [], ◌∷◌, ◌++◌, length, take, get_or, refl, ap, sym, subst, ◌∙◌}
use Rattle.std.specs.Prelude.{Result, Ok, Err, IfOk, OnErr}
use Rattle.std.proofs.lemmas.List.{take_more}
use Rattle.blob_core.specs.World.{World, empty_world}
use Rattle.blob_core.specs.Steps.{IsAllowed, AllAllowed, after, world_after}
use Rattle.blob_core.specs.Standing.{IsReached}
use Rattle.blob_core.specs.Acts.{IsDone}
use Rattle.blob_core.specs.declared.step.Step.{Step}

world_next : (p : ℕ) (w : World) (steps : List Step) (step : Step) → world_after p w (steps ++ step ∷ []) ≡ after p (world_after p w steps) step
world_next p w [] step = refl
world_next p w (s ∷ steps) step = world_next p (after p w s) steps step

all_next : (p : ℕ) (w : World) (steps : List Step) (step : Step) → AllAllowed p w steps → IsAllowed p (world_after p w steps) step → AllAllowed p w (steps ++ step ∷ [])
all_next p w [] step all ok = (ok, tt)
all_next p w (s ∷ steps) step all ok = (all.0, all_next p (after p w s) steps step all.1 ok)

-- a list of allowed steps leads to the world after one more
pub reached_next : (p : ℕ) (w v : World) (step : Step) → IsReached p w → IsDone p w step v → IsReached p v
reached_next p w v step r done =
    let A : World → Type 0 = λ x. IsAllowed p x step in
    record {
      limits = r.limits;
      within = r.within;
      some = r.some;
      steps = r.steps ++ step ∷ [];
      allowed = all_next p (empty_world r.limits) r.steps step r.allowed (subst A r.is done.allowed);
      is = done.is ∙ ap (λ (x : World). after p x step) r.is ∙ sym (world_next p (empty_world r.limits) r.steps step);
    }

pub reached_on : {E : Type 0} (p : ℕ) (w v : World) (step : Step) (result : Result (Unit {0}) E) → IsReached p w → IfOk result (λ _. IsDone p w step v) → OnErr result (v ≡ w) → IsReached p v
reached_on p w v step (Ok u) r done same = reached_next p w v step r done
reached_on p w v step (Err e) r done same = let R : World → Type 0 = λ x. IsReached p x in subst R (sym same) r

-- the same of the first i of some steps
pub steps_next : (p : ℕ) (w v x : World) (steps : List Step) (i : ℕ) (d : Step) → i < length steps → AllAllowed p w (take i steps) → v ≡ world_after p w (take i steps)
    → IsDone p v (get_or steps i d) x → AllAllowed p w (take (i + 1) steps) × (x ≡ world_after p w (take (i + 1) steps))
steps_next p w v x steps i d lt all is done =
    let step : Step = get_or steps i d in
    let e : take (i + 1) steps ≡ take i steps ++ step ∷ [] = take_more steps i d lt in
    let A : World → Type 0 = λ y. IsAllowed p y step in
    let L : List Step → Type 0 = λ l. AllAllowed p w l × (x ≡ world_after p w l) in
    subst L (sym e)
    (all_next p w (take i steps) step all (subst A is done.allowed), done.is ∙ ap (λ (y : World). after p y step) is ∙ sym (world_next p w (take i steps) step))

-- what holds anyway holds where an act fails
pub on_err : {T E N : Type 0} (result : Result T E) → N → OnErr result N
on_err (Ok t) n = tt
on_err (Err e) n = n
