use Rattle.std.proofs.Common.{arith}
use Rattle.std.proofs.lemmas.Slice.Eq.{text_from_reads}
use Rattle.request_form.proofs.operation.Operation.of_word.Goals as goal

pub returns-in-115 : goal.returns-in-115
returns-in-115 c = text_from_reads c.args.word.now _ (omega arith) (omega arith, (omega arith, (omega arith, (omega arith, (omega arith, (omega arith, (omega arith, (omega arith, (omega arith, (omega arith, (omega arith, (omega arith, tt))))))))))))

pub returns-in-115-2 : goal.returns-in-115-2
returns-in-115-2 c = text_from_reads c.args.word.now _ (omega arith) (omega arith, (omega arith, (omega arith, (omega arith, (omega arith, (omega arith, (omega arith, (omega arith, (omega arith, (omega arith, (omega arith, tt)))))))))))
