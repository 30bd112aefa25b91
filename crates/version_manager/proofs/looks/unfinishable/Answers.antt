use Rattle.std.proofs.Common.{sym, ◌∙◌, arith}
use Rattle.std.proofs.Common.{true≢false}
use Rattle.std.proofs.lemmas.Bool.{eq-eqb}
use Rattle.version_manager.proofs.Blobs.{unfinished_above}
use Rattle.version_manager.proofs.looks.unfinishable.Goals.{then-version-eq0, else-version-eq0}
use Rattle.version_manager.proofs.looks.unfinishable.Goals as goal

pub returns-else-is_finished-clause-waits : goal.returns-else-is_finished-clause-waits
returns-else-is_finished-clause-waits c = elim c.if-version-eq0.branch [
  | then-version-eq0 w ↦ absurd (true≢false (sym (eq-eqb c.args.version 0 w.if-version-eq0.true) ∙ sym w.value-is ∙ c.if-is_finished.false))
  | else-version-eq0 w ↦ (
    unfinished_above c.args.window.now.numbered c.args.version (omega (arith, w.if-version-eq0.false)) (sym w.is_finished.ensures ∙ sym w.value-is ∙ c.if-is_finished.false),
    omega (arith, c.assigned.ensures.log, c.if-assigned-version.false),
  )
]
