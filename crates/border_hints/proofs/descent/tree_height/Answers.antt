use Rattle.std.proofs.Common.{sym, ◌∙◌}
use Rattle.snapshot.specs.Versions.{size_now}
use Rattle.border_hints.proofs.Published.{height_none}
use Rattle.border_hints.proofs.descent.tree_height.Goals as goal

pub returns-then-size-eq0 : goal.returns-then-size-eq0
returns-then-size-eq0 c = height_none c.args.snapshot.now.page_size (size_now c.args.snapshot.now) (sym c.size-size.ensures.size ∙ c.if-size-eq0.true)
