use Rattle.std.proofs.Common.{ℕ, List, subst}
use Rattle.blobseer_run.specs.Writing.{ToldLine}
use Rattle.blobseer_run.specs.Status.{write_fault}
use Rattle.blobseer_run.proofs.PeersServed.{told_part}
use Rattle.blobseer_run.proofs.writing.tell.Goals as goal

pub returns-in-Failed-clause-told : goal.returns-in-Failed-clause-told
returns-in-Failed-clause-told g c =
    let line = c.as_bytes.result.now in
    let T : List ℕ → Type 0 = λ l. ToldLine l (g.K.Ends.written c.args.out.now) (g.K.Ends.written c.write.new.self) (g.K.Ends.write_faults c.args.out.now) (g.K.Ends.write_faults c.write.new.self) write_fault in
    let f = c.in-Failed.ensures in
    subst T c.as_bytes.ensures.value (told_part line c.in-Failed.field-0 _ _ _ _ f.written f.write_faults f.part)
