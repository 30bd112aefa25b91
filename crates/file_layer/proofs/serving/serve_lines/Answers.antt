use Rattle.std.proofs.Common.{◌≡◌, List, ℕ, [], ◌++◌, refl, sym, subst}
use Rattle.file_names.specs.Lines.{heard}
use Rattle.file_names.specs.declared.form.FileHeard.{FileHeard}
use Rattle.file_layer.proofs.StreamEnds.{unserved, served_from}
use Rattle.file_layer.proofs.serving.serve_lines.Goals as goal

pub serve_asked-requires-clause-fresh : goal.serve_asked-requires-clause-fresh
serve_asked-requires-clause-fresh g c = λ κs lives. subst (λ (l : List ℕ). ◌≡◌ {A = List FileHeard} (heard (l ++ [])).whole []) (sym c.in-Ok.ensures) refl

pub returns-in-Err-clause-served : goal.returns-in-Err-clause-served
returns-in-Err-clause-served g c = unserved _ _ _

pub returns-in-Ok-clause-served : goal.returns-in-Ok-clause-served
returns-in-Ok-clause-served g c = served_from _ _ _ _ _ _ _ c.in-Ok.ensures c.serve_asked.ensures.served
