use Rattle.std.proofs.Common.{◌/◌, ap}
use Rattle.range_log.proofs.Doublings.{log_of_power}
use Rattle.range_log.proofs.index.number_of.Goals as goal

pub returns : goal.returns
returns c =
    ap (λ n. c.args.offset / n) (log_of_power c.args.size c.ilog2.result (record { reaches = c.ilog2.ensures.power_le; below = c.ilog2.ensures.next_power_gt }) c.requires)
