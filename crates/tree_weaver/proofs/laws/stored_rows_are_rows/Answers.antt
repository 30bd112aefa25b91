use Rattle.tree_weaver.proofs.Storing.{row_is}
use Rattle.tree_weaver.proofs.laws.stored_rows_are_rows.Goals as goal

pub returns : goal.returns
returns c t row us is version touch pages st nodes bytes folds = row_is c.logs_are_grown.ensures.touches c.logs_are_grown.ensures.sizes t row us is version touch pages st nodes bytes folds
