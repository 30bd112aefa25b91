use Rattle.std.proofs.Common.{codes}
use Rattle.std.specs.Fmt.{decimal}
use Rattle.workload_law.proofs.PrintedLines.{prints_three}
use Rattle.workload_law.proofs.said.grid_line.Goals as goal

pub returns : goal.returns
returns c =
    prints_three c.format.result (codes "grid size ") (decimal c.args.summary.now.grid_size) (codes " versions ") (decimal c.args.summary.now.grid_versions) (codes " sum ") (decimal c.args.summary.now.grid_sum)
    c.format.ensures.ok
