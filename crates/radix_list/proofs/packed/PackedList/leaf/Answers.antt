use Rattle.std.proofs.Common.{◌/◌, sym, ap, ◌∙◌}
use Rattle.std.specs.Option.{option_copied}
use Rattle.radix_list.specs.Packing.{groups}
use Rattle.radix_list.proofs.Tree.{grouped_none, grouped_some}
use Rattle.radix_list.proofs.packed.PackedList.leaf.Goals as goal

pub returns-in_err-twig : goal.returns-in_err-twig
returns-in_err-twig g c =
    ap option_copied c.from_residual.ensures ∙ sym (grouped_none (groups c.args.self.now) (c.args.i / 32) (sym c.twig.ensures ∙ ap option_copied c.in_err-twig.was))

pub returns : goal.returns
returns g c =
    c.at.ensures ∙ sym (grouped_some (groups c.args.self.now) (c.args.i / 32) c.in_ok-twig.field-0.now (sym c.twig.ensures ∙ ap option_copied c.in_ok-twig.was))
