-- One step more, in a world of a history.
use Rattle.std.proofs.Common.{◌≡◌, ℕ, List, [], ◌∷◌, ◌++◌, refl, sym, ap, ◌∙◌, arith, append_assoc, append-nil}
use Rattle.blob_model.specs.History.{store_of}
use Rattle.blob_model.specs.declared.call.Event.{Event}
use Rattle.tree_geom.proofs.Spans.{page_pos}
use Rattle.blob_core.specs.World.{World, empty_world}
use Rattle.blob_core.specs.Steps.{IsAllowed, AllAllowed, after, world_after, events_from, events_of}
use Rattle.blob_core.specs.Promises.{StepsHold}
use Rattle.blob_core.specs.declared.step.Step.{Step}
use Rattle.blob_core.specs.declared.step.Step.TheVariants as Moves
use Rattle.version_manager.specs.declared.journal.DeskFixed.{DeskFixed}
use Rattle.version_manager.specs.Log.{IsLog, events}
use Rattle.version_manager.specs.Origins.{parents_from, parents_of}
use Rattle.version_manager.proofs.Orders.{none_in_order}
use Rattle.world_acts.specs.Worlds.{IsWorldOf, IsStep, EmptyIsAWorld, WorldsAreReached, StoresAgree, LineagesAgree}

-- ---- lists of steps, one after the other
pub world_append : (p : ℕ) (w : World) (xs ys : List Step) → world_after p w (xs ++ ys) ≡ world_after p (world_after p w xs) ys
world_append p w [] ys = refl
world_append p w (x ∷ xs) ys = world_append p (after p w x) xs ys

pub allowed_append : (p : ℕ) (w : World) (xs ys : List Step) → AllAllowed p w xs → AllAllowed p (world_after p w xs) ys → AllAllowed p w (xs ++ ys)
allowed_append p w [] ys a b = b
allowed_append p w (x ∷ xs) ys a b = (a.0, allowed_append p (after p w x) xs ys a.1 b)

pub events_append : (p : ℕ) (w : World) (xs ys : List Step) → events_from p w (xs ++ ys) ≡ events_from p w xs ++ events_from p (world_after p w xs) ys
events_append p w [] ys = refl
events_append p w (x ∷ xs) ys =
    ap (λ (l : List Event). events_of w x ++ l) (events_append p (after p w x) xs ys)
    ∙ sym (append_assoc (events_of w x) (events_from p (after p w x) xs) (events_from p (world_after p w (x ∷ xs)) ys))

-- the lineage is that of the events
pub lineage_after : (p : ℕ) (w : World) (steps : List Step) → (world_after p w steps).lineage ≡ parents_from w.lineage (events_from p w steps)
lineage_after p w [] = refl
lineage_after p w (Moves.Read blob version offset count ∷ steps) = lineage_after p w steps
lineage_after p w (step ∷ steps) = lineage_after p (after p w step) steps

-- ---- one step more
pub one_step : (f : DeskFixed) (before now : List (ℕ × Event)) (w : World) (step : Step) → IsWorldOf f before w → IsAllowed f.page_size w step → IsLog f now
    → events now ≡ events before ++ events_of w step → IsStep f w step now
one_step f before now w step a ok log added =
    let p : ℕ = f.page_size in
    let e : World = empty_world f.limits in
    record {
      allowed = ok;
      leads = record {
        within = a.within;
        page_size = a.page_size;
        log = log;
        steps = a.steps ++ step ∷ [];
        allowed = allowed_append p e a.steps (step ∷ []) a.allowed (rw a.is at ok, tt);
        is = ap (λ (x : World). after p x step) a.is ∙ sym (world_append p e a.steps (step ∷ []));
        changes =
            events_append p e a.steps (step ∷ [])
            ∙ ap (λ (l : List Event). events_from p e a.steps ++ l) (append-nil (events_of (world_after p e a.steps) step))
            ∙ ap (λ (x : World). events_from p e a.steps ++ events_of x step) (sym a.is)
            ∙ ap (λ (l : List Event). l ++ events_of w step) a.changes
            ∙ sym added;
      };
    }

-- a step that is no event
pub quiet_step : (f : DeskFixed) (history : List (ℕ × Event)) (w : World) (step : Step) → IsWorldOf f history w → IsAllowed f.page_size w step → events_of w step ≡ [] → IsStep f w step history
quiet_step f history w step a ok none =
    one_step f history history w step a ok a.log (sym (ap (λ (l : List Event). events history ++ l) none ∙ append-nil (events history)))

-- ---- what follows
pub empty_is_a_world : EmptyIsAWorld
empty_is_a_world f within page = record {
  within = within;
  page_size = page;
  log = record { tags = refl; legal = tt; short = omega arith; in_order = none_in_order f.page_size f.limits };
  steps = [];
  allowed = tt;
  is = refl;
  changes = refl;
}

pub worlds_are_reached : WorldsAreReached
worlds_are_reached f history w a = record {
  limits = f.limits;
  within = a.within;
  some = page_pos f.page_size a.page_size;
  steps = a.steps;
  allowed = a.allowed;
  is = a.is;
}

pub stores_agree : StepsHold → StoresAgree
stores_agree hold f history w a =
    ap (λ (x : World). x.store) a.is
    ∙ (hold f.page_size f.limits a.steps (page_pos f.page_size a.page_size) a.allowed).store
    ∙ ap (λ (l : List Event). store_of f.limits l) a.changes

pub lineages_agree : LineagesAgree
lineages_agree f history w a =
    ap (λ (x : World). x.lineage) a.is
    ∙ lineage_after f.page_size (empty_world f.limits) a.steps
    ∙ ap (λ (l : List Event). parents_of l) a.changes
