use Rattle.range_log.proofs.Weaving.{weaver_finds}
use Rattle.range_log.proofs.walks.weaver_finds.Goals as goal

pub returns : goal.returns
returns c = weaver_finds
