use Rattle.std.proofs.Common.{ℕ, sym, subst}
use Rattle.blobseer_run.specs.Status.{code_of, Tells}
use Rattle.blobseer_run.proofs.ErrorLines.{tells}
use Rattle.blobseer_run.proofs.status.Status.end.Goals as goal

pub returns-clause-tells : goal.returns-clause-tells
returns-clause-tells g c =
    let P : ℕ → Type 0 = λ n. Tells n (g.E.Ends.written c.args.err.now) (g.E.Ends.written c.write.new.self) (g.E.Ends.write_faults c.args.err.now) (g.E.Ends.write_faults c.write.new.self) in
    subst P (sym c.code.ensures) (tells (code_of c.args.self) _ c.write.result _ _ _ _ c.line.ensures c.write.ensures.written c.write.ensures.write_faults)
