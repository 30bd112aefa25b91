use Rattle.std.proofs.Common.{ap, ◌∙◌}
use Rattle.file_names.specs.Paths.{is_path}
use Rattle.file_names.proofs.Splitting.{parent_ok}
use Rattle.file_names.proofs.path.parent_of.Goals as goal

pub returns-clause-path : goal.returns-clause-path
returns-clause-path c = ap is_path c.parent_end.ensures.parent ∙ parent_ok c.args.text.now c.requires
