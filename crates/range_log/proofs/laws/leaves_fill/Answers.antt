use Rattle.range_log.proofs.Leaves.{leaves_fill, leaves_fit, pieces_join, pieces_fit}
use Rattle.range_log.proofs.laws.leaves_fill.Goals as goal

pub returns-clause-fill : goal.returns-clause-fill
returns-clause-fill c = leaves_fill

pub returns-clause-fit : goal.returns-clause-fit
returns-clause-fit c = leaves_fit

pub returns-clause-join : goal.returns-clause-join
returns-clause-join c = pieces_join

pub returns-clause-pieces : goal.returns-clause-pieces
returns-clause-pieces c = pieces_fit
