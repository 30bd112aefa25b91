-- By allowed steps an update that stores a page anew is finished after the version before it is published.
use Rattle.std.proofs.Common.{◌≡◌, ◌≢◌, ◌⊎◌, ℕ, ◌-◌, ◌≤◌, List, [], ◌∷◌, ◌++◌, length, refl, sym, ap, ◌∙◌, arith, inl, inr}
use Rattle.std.specs.Prelude.{Some}
use Rattle.std.specs.List.{Contains}
use Rattle.blob_model.specs.Store.{Store, Blob, blob_at, published}
use Rattle.blob_model.specs.History.{store_of}
use Rattle.blob_model.specs.declared.call.Event.{Event}
use Rattle.blob_model.specs.declared.call.Event.TheVariants as Events
use Rattle.tree_geom.specs.declared.range.Range.{Range}
use Rattle.tree_geom.specs.declared.node.NodeKey.{NodeKey}
use Rattle.tree_geom.specs.Geometry.{page_range}
use Rattle.range_log.specs.Extents.{Extent, InBounds}
use Rattle.range_log.specs.Log.{HasNode}
use Rattle.range_log.specs.Rows.{folds_of}
use Rattle.range_log.specs.Updates.{extents}
use Rattle.range_log.proofs.Bytes.{length-extents}
use Rattle.range_log.proofs.Exact.{row_keys_exact}
use Rattle.range_log.proofs.Folds.{folds_are}
use Rattle.blob_core.specs.World.{World, empty_world, log_of}
use Rattle.blob_core.specs.Steps.{IsAllowed, AllAllowed, after, world_after, events_of, events_from}
use Rattle.blob_core.specs.Promises.{StepsHold}
use Rattle.blob_core.specs.declared.step.Step.{Step}
use Rattle.blob_core.specs.declared.step.Step.TheVariants as Moves
use Rattle.blob_core.proofs.Lists.{one_value}
use Rattle.blob_core.proofs.Growing.{Cited}
use Rattle.blob_core.proofs.Finding.{touched_node}
use Rattle.blob_core.proofs.Keeping.{Stands, empty_stands, in_bounds}
use Rattle.blob_core.proofs.Running.{stands_after}
use Rattle.version_manager.specs.Desks.{updates_or_none, published_or_none}
use Rattle.world_acts.specs.Worlds.{StepsAreInOrder}
use Rattle.tree_geom.proofs.Spans.{page_pos}
use Rattle.world_acts.proofs.Following.{IsAfterPublished, Follows, steps_follow}

-- ---- the step of an event
one_or_none : (w : World) (step : Step) → (events_of w step ≡ []) ⊎ ((e : Event) × (events_of w step ≡ e ∷ []))
one_or_none w (Moves.Create caller) = inr (_, refl)
one_or_none w (Moves.Assign caller blob place pages) = inr (_, refl)
one_or_none w (Moves.Finish caller blob version) = inr (_, refl)
one_or_none w (Moves.Branch caller blob version) = inr (_, refl)
one_or_none w step = inl refl

-- the steps before it, whose events are those before it, and the step
record StepOf (p : ℕ) (w : World) (before : List Event) (e : Event) : Type 0 where
  done : List Step
  step : Step
  allowed : AllAllowed p w done
  changes : events_from p w done ≡ before
  may : IsAllowed p (world_after p w done) step
  is : events_of (world_after p w done) step ≡ e ∷ []

-- one step before it
earlier : (p : ℕ) (w : World) (step : Step) (own before : List Event) (e : Event) → IsAllowed p w step → events_of w step ≡ own → StepOf p (after p w step) before e → StepOf p w (own ++ before) e
earlier p w step own before e ok is x = record {
  done = step ∷ x.done;
  step = x.step;
  allowed = (ok, x.allowed);
  changes = ap (λ (l : List Event). l ++ events_from p (after p w step) x.done) is ∙ ap (λ (l : List Event). own ++ l) x.changes;
  may = x.may;
  is = x.is;
}

step_of : (p : ℕ) (w : World) (steps : List Step) (before later : List Event) (e : Event) → AllAllowed p w steps → events_from p w steps ≡ before ++ e ∷ later → StepOf p w before e
step_of p w [] [] later e ok is = absurd (let no : ⊥ = cc in no)
step_of p w [] (x ∷ before) later e ok is = absurd (let no : ⊥ = cc in no)
step_of p w (step ∷ steps) [] later e ok is =
    let rest : List Event = events_from p (after p w step) steps in
    elim (one_or_none w step) [
      | inl none ↦ earlier p w step [] [] e ok.0 none (step_of p (after p w step) steps [] later e ok.1 (sym (ap (λ (l : List Event). l ++ rest) none) ∙ is))
      | inr some ↦
          (let joined : some.0 ∷ rest ≡ e ∷ later = sym (ap (λ (l : List Event). l ++ rest) some.1) ∙ is in
          let same : some.0 ≡ e = cc in
          record { done = []; step = step; allowed = tt; changes = refl; may = ok.0; is = some.1 ∙ ap (λ (x : Event). x ∷ []) same })
    ]
step_of p w (step ∷ steps) (x ∷ before) later e ok is =
    let rest : List Event = events_from p (after p w step) steps in
    elim (one_or_none w step) [
      | inl none ↦ earlier p w step [] (x ∷ before) e ok.0 none (step_of p (after p w step) steps (x ∷ before) later e ok.1 (sym (ap (λ (l : List Event). l ++ rest) none) ∙ is))
      | inr some ↦
          (let joined : some.0 ∷ rest ≡ x ∷ (before ++ e ∷ later) = sym (ap (λ (l : List Event). l ++ rest) some.1) ∙ is in
          let same : some.0 ≡ x = cc in
          let left : rest ≡ before ++ e ∷ later = cc in
          earlier p w step (x ∷ []) before e ok.0 (some.1 ∙ ap (λ (y : Event). y ∷ []) same) (step_of p (after p w step) steps before later e ok.1 left))
    ]

the_finish : (w : World) (step : Step) (caller blob version : ℕ) → events_of w step ≡ Events.Finish caller blob version ∷ [] → step ≡ Moves.Finish caller blob version
the_finish w (Moves.Finish caller blob version) c b v e = cc
the_finish w step c b v e = absurd (let no : ⊥ = cc in no)

-- ---- the finish of an update that stores a page anew
first_of : (l : List ℕ) → l ≢ [] → (x : ℕ) × Contains l x
first_of [] some = absurd (some refl)
first_of (x ∷ xs) some = (x, (0, omega arith, refl))

-- the version before is published where its finish is allowed
finish_follows : Cited → (p : ℕ) (w : World) (caller blob version : ℕ) (b : Blob) → 1 ≤ p → Stands p w → Follows w → blob_at w.store blob ≡ Some b
    → IsAllowed p w (Moves.Finish caller blob version) → folds_of p (extents b.updates) version ≢ [] → version - 1 ≤ published b
finish_follows c p w caller blob version b pos s follow there ok folds =
    let (x, own, row) = ok.1 in
    let same : x ≡ b = one_value (blob_at w.store blob) x b own.there there in
    let xs : List Extent = extents x.updates in
    let (page, one) = first_of (folds_of p xs version) (rw same folds) in
    let bounds : InBounds xs = in_bounds c x.updates (s.blobs blob x own.there).replay in
    let long : version ≤ length xs = omega (arith, own.upto, length-extents x.updates) in
    let met = ((folds_are p version xs pos bounds own.some long).0 page).0 one in
    let r : Range = page_range p page in
    let has : HasNode p (log_of p x.updates) version r = touched_node p version page xs pos bounds own.some long met.0 in
    let key : NodeKey = record { blob = blob; version = version; range = r } in
    let (n, node) = row r ((row_keys_exact p version xs r pos bounds own.some long).1 has) in
    let (bytes, fold) = s.anew key n node x own.there page refl met.1 in
    let h : IsAfterPublished w.store blob version = follow blob version page bytes fold in
    let known : h.b ≡ b = one_value (blob_at w.store blob) h.b b h.there there in
    omega (arith, h.before, ap published known)

pub steps_in_order : Cited → StepsHold → StepsAreInOrder
steps_in_order c hold p limits steps page allowed before later by blob version split folds =
    let pos : 1 ≤ p = page_pos p page in
    let empty : World = empty_world limits in
    let x : StepOf p empty before (Events.Finish by blob version) = step_of p empty steps before later (Events.Finish by blob version) allowed split in
    let u : World = world_after p empty x.done in
    let store : u.store ≡ store_of limits before = (hold p limits x.done pos x.allowed).store ∙ ap (λ (l : List Event). store_of limits l) x.changes in
    let ok : IsAllowed p u (Moves.Finish by blob version) = rw (the_finish u x.step by blob version x.is) at x.may in
    let b : Blob = ok.1.0 in
    let is : blob_at u.store blob ≡ Some b = ok.1.1.there in
    let there : blob_at (store_of limits before) blob ≡ Some b = ap (λ (s : Store). blob_at s blob) (sym store) ∙ is in
    let last : version - 1 ≤ published b =
    finish_follows c p u by blob version b pos (stands_after c p empty x.done pos (empty_stands p limits) x.allowed) (steps_follow p limits x.done x.allowed) is ok
    (rw (ap updates_or_none there) at folds) in
    omega (arith, last, ap published_or_none there)
