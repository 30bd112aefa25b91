use Rattle.std.proofs.Common.{codes}
use Rattle.std.specs.Fmt.{decimal}
use Rattle.workload_law.proofs.PrintedLines.{prints_three}
use Rattle.workload_law.proofs.watch_said.plan_line.Goals as goal

pub returns : goal.returns
returns c =
    prints_three c.format.result (codes "watch readers ") (decimal c.args.plan.now.readers) (codes " ops ") (decimal c.args.plan.now.ops) (codes " seed ") (decimal c.args.plan.now.seed)
    c.format.ensures.ok
