use Rattle.std.proofs.Common.{sym, subst}
use Rattle.std.specs.Prelude.{IsErrOf}
use Rattle.blob_core.specs.Steps.{IsAllowed}
use Rattle.blob_core.specs.declared.step.Step.{Step}
use Rattle.blob_core.specs.declared.state.ActFault.TheVariants.{NotAllowed}
use Rattle.blob_core.proofs.state.State.act.Goals as goal

pub returns-in-Finish-clause-refused : goal.returns-in-Finish-clause-refused
returns-in-Finish-clause-refused c =
    let A : Step → Type 0 = λ x. IsErrOf c.finish.result NotAllowed → IsAllowed c.args.p c.args.self.now x → ⊥ in
    subst A (sym c.in-Finish.is) c.finish.ensures.refused
