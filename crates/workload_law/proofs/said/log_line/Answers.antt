use Rattle.std.proofs.Common.{codes}
use Rattle.std.specs.Fmt.{decimal}
use Rattle.workload_law.proofs.PrintedLines.{prints_three}
use Rattle.workload_law.proofs.said.log_line.Goals as goal

pub returns : goal.returns
returns c =
    prints_three c.format.result (codes "log size ") (decimal c.args.summary.now.log_size) (codes " versions ") (decimal c.args.summary.now.log_versions) (codes " in-order ") (decimal c.args.summary.now.in_order)
    c.format.ensures.ok
