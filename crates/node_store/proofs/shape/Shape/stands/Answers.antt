use Rattle.std.proofs.Common.{subst}
use Rattle.tree_geom.specs.Geometry.{IsPageSize}
use Rattle.node_store.proofs.shape.Shape.stands.Goals as goal

pub returns : goal.returns
returns c = subst IsPageSize c.page_size-size.ensures.is c.page_size-size.ensures.power
