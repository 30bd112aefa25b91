use Rattle.std.proofs.Common.{sym, ap, ◌∙◌}
use Rattle.std.specs.Option.{option_copied}
use Rattle.radix_list.proofs.Tree.{grouped_none, grouped_some}
use Rattle.radix_list.proofs.packed.PackedList.handle.Goals as goal

pub returns-in_err-leaf : goal.returns-in_err-leaf
returns-in_err-leaf g c =
    rw c.from_residual.ensures (sym (grouped_none c.args.self.now c.args.i (sym c.leaf.ensures ∙ ap option_copied c.in_err-leaf.was)))

pub returns : goal.returns
returns g c = c.handle.ensures ∙ sym (grouped_some c.args.self.now c.args.i c.in_ok-leaf.field-0.now (sym c.leaf.ensures ∙ ap option_copied c.in_ok-leaf.was))
