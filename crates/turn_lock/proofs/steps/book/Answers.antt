use Rattle.std.proofs.Common.{rules}
use Rattle.turn_lock.proofs.Turning.{books}
use Rattle.turn_lock.proofs.steps.book.Goals as goal

pub fetch_add-requires : goal.fetch_add-requires
fetch_add-requires g c = let held = c.requires.held in (
  search rules,
  search rules,
  books g.S.Journaled.history g.S.Journaled.fixed _ _ _ _ held.0 _ c.requires.inside held.1 held.2 held.3 held.4,
)
