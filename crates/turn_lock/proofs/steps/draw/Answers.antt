use Rattle.std.proofs.Common.{rules}
use Rattle.turn_lock.proofs.Turning.{draws}
use Rattle.turn_lock.proofs.steps.draw.Goals as goal

pub fetch_add-requires : goal.fetch_add-requires
fetch_add-requires g c = (search rules, search rules, draws g.S.Journaled.history g.S.Journaled.fixed _ _ _ c.requires.idle)
