use Rattle.std.proofs.Common.{◌≡◌, ap, ◌∙◌}
use Rattle.file_names.specs.Paths.{is_path, parent_of}
use Rattle.file_names.proofs.Splitting.{parent_ok}
use Rattle.file_names.proofs.path.Path.into_parent.Goals as goal

pub invariant_of-result : goal.invariant_of-result
invariant_of-result c =
    let same : c.truncate.new.self.items ≡ parent_of c.self.inside.text.items = cc in
    ap is_path same ∙ parent_ok c.self.inside.text.items c.self.invariant
