use Rattle.std.proofs.Common.{◌≤◌, List, length, take, ap, ◌∙◌, arith}
use Rattle.std.specs.Arc.{arc_value}
use Rattle.radix_list.proofs.Tailed.{length_tailed, front_tailed, tailed_front}
use Rattle.radix_list.proofs.grown.Grown.prefix.Goals as goal

pub invariant_of-result : goal.invariant_of-result
invariant_of-result g c =
    let body : List g.row.T.Denot = (arc_value c.self.inside.trunk).body in
    let within : c.self.inside.front ≤ length body = omega (arith, c.self.invariant.within, c.self.invariant.cut) in
    rw (c.in_ok-try_clone.ensures, c.in_ok-front.ensures)
    (tailed_front c.self.invariant c.args.n c.min-front.result (omega (arith, c.requires, length_tailed body c.self.inside.front c.self.inside.puts within, ap length c.self.view_is)) c.min-front.ensures)

pub returns : goal.returns
returns g c =
    let body : List g.row.T.Denot = (arc_value c.self.inside.trunk).body in
    let within : c.self.inside.front ≤ length body = omega (arith, c.self.invariant.within, c.self.invariant.cut) in
    rw (c.in_ok-try_clone.ensures, c.in_ok-front.ensures)
    (front_tailed body c.self.inside.front c.args.n c.min-front.result c.self.inside.puts within c.min-front.ensures ∙ ap (take c.args.n) c.self.view_is)
