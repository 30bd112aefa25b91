use Rattle.file_names.specs.declared.form.FileLine.TheVariants.{Quit}
use Rattle.file_names.proofs.FieldLemmas.{not_alone}
use Rattle.file_names.proofs.line.line_with.Goals as goal

pub returns-in-Quit : goal.returns-in-Quit
returns-in-Quit c = rw c.in-Quit.is (not_alone Quit c.args.text.now)
