use Rattle.std.proofs.Common.{◌∙◌, ap}
use Rattle.file_names.specs.Tree.{named_at}
use Rattle.file_names.proofs.Entering.{named_ok}
use Rattle.file_names.proofs.names.Names.named.Goals as goal

pub returns : goal.returns
returns c = c.named_in.ensures ∙ named_ok c.self.inside.history.items c.self.inside.folders c.self.invariant c.args.path.now c.requires ∙ ap (λ l. named_at l c.args.path.now) c.self.view_is
