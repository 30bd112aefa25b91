use Rattle.std.proofs.Common.{arith, ap, ◌∙◌}
use Rattle.frame_wire.specs.Said.{field}
use Rattle.items.proofs.Numbers.{bytes_again}
use Rattle.frame_wire.proofs.number.number.Goals as goal

pub returns : goal.returns
unfolding field
returns c = ap field c.read_u64.ensures ∙ bytes_again 8 c.args.bytes.now c.requires (λ i. omega (arith, c.type_inv.bytes i))
