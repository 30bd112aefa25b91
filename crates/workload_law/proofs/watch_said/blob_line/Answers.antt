use Rattle.std.proofs.Common.{codes}
use Rattle.std.specs.Fmt.{decimal}
use Rattle.workload_law.proofs.PrintedLines.{prints_three}
use Rattle.workload_law.proofs.watch_said.blob_line.Goals as goal

pub returns : goal.returns
returns c =
    prints_three c.format.result (codes "blob size ") (decimal c.args.summary.now.size) (codes " versions ") (decimal c.args.summary.now.versions) (codes " agree ") (decimal c.args.summary.now.agree)
    c.format.ensures.ok
