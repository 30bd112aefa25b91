use Rattle.read_board.proofs.Holding.{all_hold_on}
use Rattle.read_board.proofs.laws.refreshes_stay.Goals as goal

pub returns : goal.returns
returns c = λ f log log' rs begins all. all_hold_on c.old_versions_stay.ensures c.older_versions_stay.ensures.extents c.extents_hold.ensures.count f log log' begins rs all
