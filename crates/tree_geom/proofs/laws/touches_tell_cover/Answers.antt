use Rattle.tree_geom.proofs.Covers.{touches_tell_cover}
use Rattle.tree_geom.proofs.laws.touches_tell_cover.Goals as goal

pub returns : goal.returns
returns c = touches_tell_cover
