use Rattle.std.proofs.Common.{rules}
use Rattle.turn_lock.proofs.Turning.{passes}
use Rattle.turn_lock.proofs.steps.pass_on.Goals as goal

pub fetch_add-number-requires : goal.fetch_add-number-requires
fetch_add-number-requires g c = let held = c.requires.held in (
  search rules,
  search rules,
  passes g.S.Journaled.history g.S.Journaled.fixed _ _ _ held.0 _ c.requires.inside held.1 held.2 held.3,
)
