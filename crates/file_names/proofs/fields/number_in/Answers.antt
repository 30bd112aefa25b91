use Rattle.file_names.proofs.NumberLemmas.{no_text}
use Rattle.file_names.proofs.fields.number_in.Goals as goal

pub returns-in-Err : goal.returns-in-Err
returns-in-Err c = no_text c.args.field.now c.in-Err.ensures.cases.0
