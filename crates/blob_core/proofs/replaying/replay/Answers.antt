use Rattle.std.proofs.Common.{◌≡◌, ℕ, ◌+◌, ◌-◌, List, length, take, get_or, arith, refl, ap, subst, ◌∙◌}
use Rattle.std.specs.Prelude.{Some, Err, slice_get}
use Rattle.std.proofs.lemmas.List.{take_all}
use Rattle.std.proofs.lemmas.Option.{slice_get_read}
use Rattle.blob_core.specs.World.{World, empty_world}
use Rattle.blob_core.specs.Steps.{IsAllowed, AllAllowed, world_after}
use Rattle.blob_core.specs.Acts.{IsDone, IsFirstRefused}
use Rattle.blob_core.specs.declared.state.ActFault.TheVariants.{NotAllowed}
use Rattle.blob_core.specs.declared.step.Step.{Step}
use Rattle.blob_core.proofs.Onward.{steps_next}
use Rattle.blob_core.proofs.replaying.replay.Goals as goal

pub loop-i-preserved : goal.loop-i-preserved
loop-i-preserved c =
    let P : ℕ → Type 0 = λ p. IsDone p c.loop-i.world.world c.index-steps-i.result c.act.new.self.world in
    let S : Step → Type 0 = λ s. IsDone c.args.p c.loop-i.world.world s c.act.new.self.world in
    let done : S (get_or c.args.steps.now c.loop-i.i c.index-steps-i.result) = subst S c.index-steps-i.is (subst P c.loop-i.invariant.page c.in-Ok.ensures.done) in
    let next = steps_next c.args.p (empty_world c.args.limits) c.loop-i.world.world c.act.new.self.world c.args.steps.now c.loop-i.i c.index-steps-i.result c.loop-i-test.true
    c.loop-i.invariant.allowed c.loop-i.invariant.world done in
    record { page = c.act.ensures.page ∙ c.loop-i.invariant.page; allowed = next.0; world = next.1 }

pub returns-clause-allowed : goal.returns-clause-allowed
returns-clause-allowed c =
    let whole : take c.loop-i.i c.args.steps.now ≡ c.args.steps.now = take_all c.loop-i.i c.args.steps.now c.loop-i-test.false in
    let A : List Step → Type 0 = λ l. AllAllowed c.args.p (empty_world c.args.limits) l in
    subst A whole c.loop-i.invariant.allowed

pub returns-clause-world : goal.returns-clause-world
returns-clause-world c =
    let whole : take c.loop-i.i c.args.steps.now ≡ c.args.steps.now = take_all c.loop-i.i c.args.steps.now c.loop-i-test.false in
    c.loop-i.invariant.world ∙ ap (λ (l : List Step). world_after c.args.p (empty_world c.args.limits) l) whole

pub returns-in-Err-NotAllowed-clause-refused : goal.returns-in-Err-NotAllowed-clause-refused
returns-in-Err-NotAllowed-clause-refused c number is =
    let p : ℕ = c.args.p in
    let w : World = empty_world c.args.limits in
    let steps : List Step = c.args.steps.now in
    let i : ℕ = c.loop-i.i in
    let step : Step = c.index-steps-i.result in
    let fault : c.act.result ≡ Err NotAllowed = cc in
    let P : ℕ → Type 0 = λ n. ¬ IsAllowed n c.loop-i.world.world step in
    let W : World → Type 0 = λ v. ¬ IsAllowed p v step in
    let refused : ¬ IsAllowed p (world_after p w (take i steps)) step = subst W c.loop-i.invariant.world (subst P c.loop-i.invariant.page (c.act.ensures.refused fault)) in
    let here : slice_get steps i ≡ Some step = slice_get_read steps (length steps) i step refl c.loop-i-test.true c.index-steps-i.is in
    let At : ℕ → Type 0 = λ n. (slice_get steps n ≡ Some step) × AllAllowed p w (take n steps) × (¬ IsAllowed p (world_after p w (take n steps)) step) in
    let less : i ≡ i + 1 - 1 = omega arith in
    let at : At (i + 1 - 1) = subst At less (here, c.loop-i.invariant.allowed, refused) in
    let F : ℕ → Type 0 = λ n. IsFirstRefused p w steps n in
    let first : F (i + 1) = record { some = omega arith; step = step; there = at.0; before = at.1; refused = at.2 } in
    let same : i + 1 ≡ number = cc in
    subst F same first
