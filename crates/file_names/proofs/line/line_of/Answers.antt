use Rattle.std.proofs.Common.{ℕ, List, Bor}
use Rattle.file_names.proofs.FieldLemmas.{starts, no_line}
use Rattle.file_names.proofs.line.line_of.Goals as goal

pub returns-in_default : goal.returns-in_default
returns-in_default c = no_line c.args.text.now c.cut.result.0.now (starts c.cut.result.1 (λ (b : Bor (List ℕ)). b.now) c.args.text.now c.cut.result.0.now c.cut.ensures) c.in_default.ensures
