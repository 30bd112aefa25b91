use Rattle.std.proofs.Common.{◌∙◌}
use Rattle.border_hints.proofs.border.Borders.leaf.Goals as goal

pub returns : goal.returns
returns c = λ log k are. c.from.ensures ∙ (c.edge.ensures.knows log k are).leaf
