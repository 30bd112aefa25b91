use Rattle.std.proofs.Common.{◌-◌, ◌+◌, arith}
use Rattle.range_log.proofs.Positions.{reached_first, reached_itself}
use Rattle.range_log.proofs.index.level_of_size.Goals as goal

pub returns : goal.returns
returns c = (
  0,
  reached_itself c.args.p c.args.touch.now c.args.height c.args.size 0 c.args.p c.args.touch.now.first c.args.touch.now.last (c.args.touch.now.last - c.args.touch.now.first + 1)
      (reached_first c.args.p c.args.touch.now c.args.height c.args.size c.requires.ordered) (omega arith),
)
