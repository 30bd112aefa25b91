use Rattle.script_text.specs.Fields.{bytes_of}
use Rattle.file_names.proofs.FieldLemmas.{not_only}
use Rattle.file_names.proofs.fields.one_bytes.Goals as goal

pub returns-in_default-Some : goal.returns-in_default-Some
returns-in_default-Some c = not_only bytes_of c.args.text.now c.cut.result.0.now c.in_default-Some.field-0-1.now (rw c.in_default-Some.is-1 at c.cut.ensures)
