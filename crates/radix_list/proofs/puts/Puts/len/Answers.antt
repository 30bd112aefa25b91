use Rattle.std.proofs.Common.{sym, ap, ◌∙◌, length, arith}
use Rattle.std.proofs.lemmas.List.{length-take-le}
use Rattle.radix_list.proofs.puts.Puts.len.Goals as goal

pub returns-clause-is : goal.returns-clause-is
returns-clause-is g c =
    sym (length-take-le c.self.inside.count c.self.inside.shown (omega (arith, c.self.invariant.0, c.self.invariant.1))) ∙ ap length c.self.view_is
