use Rattle.std.proofs.Common.{arith}
use Rattle.std.proofs.lemmas.List.Splits.{length-slice_split}
use Rattle.file_names.specs.Paths.{is_slash}
use Rattle.file_names.proofs.path.are_names.Goals as goal

pub returns-then-slashes-lt-MOST_PARTS : goal.returns-then-slashes-lt-MOST_PARTS
returns-then-slashes-lt-MOST_PARTS c = grind (arith, length-slice_split is_slash c.args.text.now)

pub returns-else-slashes-lt-MOST_PARTS : goal.returns-else-slashes-lt-MOST_PARTS
returns-else-slashes-lt-MOST_PARTS c = grind (arith, length-slice_split is_slash c.args.text.now)
