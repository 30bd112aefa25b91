use Rattle.std.proofs.Common.{◌≡◌, sym, ◌∙◌, ap, subst, arith}
use Rattle.blob_model.specs.History.{store_of}
use Rattle.blob_model.specs.Answer.{answer}
use Rattle.blob_model.specs.declared.call.Call.TheVariants as Calls
use Rattle.blob_model.specs.declared.call.Refusal.TheVariants as Refusals
use Rattle.std.specs.Prelude.{Some}
use Rattle.version_manager.specs.Desks.{DeskState, refusal_in}
use Rattle.version_manager.proofs.Desks.{at_index}
use Rattle.version_manager.proofs.Numbering.{assign_told, assign_absent}
use Rattle.version_manager.proofs.desk.Desk.refusal_of.Goals as goal

pub refusal_of_update-requires-clause-kept : goal.refusal_of_update-requires-clause-kept
refusal_of_update-requires-clause-kept c =
    let d = c.self.inside in
    let x = at_index c.self.invariant.kept c.args.blob c.in-Some.index _ c.index.result.now d.windows.ok.0 c.in-Some.ensures c.index.ensures in
    (x.found.b, x.keeps)

pub returns-in-Some : goal.returns-in-Some
returns-in-Some c = λ caller bytes n.
    let d = c.self.inside in
    let x = at_index c.self.invariant.kept c.args.blob c.in-Some.index _ c.index.result.now d.windows.ok.0 c.in-Some.ensures c.index.ensures in
    let P : DeskState → Type 0 = λ s. c.refusal_of_update.result ≡ refusal_in (answer (store_of s.limits s.history) caller (Calls.Assign c.args.blob c.args.place bytes)).1 in
    subst P c.self.view_is (c.refusal_of_update.ensures.refusal x.found.b bytes x.keeps n ∙ sym (assign_told c.self.invariant.kept caller c.args.blob c.args.place bytes x.found))

pub returns-in-None : goal.returns-in-None
returns-in-None c = λ caller bytes n.
    let d = c.self.inside in
    let P : DeskState → Type 0 = λ s. Some (Refusals.NoBlob c.args.blob) ≡ refusal_in (answer (store_of s.limits s.history) caller (Calls.Assign c.args.blob c.args.place bytes)).1 in
    subst P c.self.view_is (sym (ap refusal_in (assign_absent c.self.invariant.kept caller c.args.blob c.args.place bytes (λ some. omega (arith, d.windows.ok.0, c.in-None.ensures some)))))
