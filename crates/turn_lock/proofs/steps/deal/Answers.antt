use Rattle.std.proofs.Common.{rules}
use Rattle.turn_lock.proofs.Passes.{splits}
use Rattle.turn_lock.proofs.steps.deal.Goals as goal

pub split_seat-requires : goal.split_seat-requires
split_seat-requires g c = (search rules, search rules, splits g.S.Journaled.history g.S.Journaled.fixed _ _ _ _ c.requires.owns.0 c.requires.owns.1)
