use Rattle.std.proofs.Common.{rules, ap, ◌∙◌}
use Rattle.turn_lock.specs.Told.{joining_stage}
use Rattle.turn_lock.proofs.Passes.{joins, settles}
use Rattle.turn_lock.proofs.steps.take_in.Goals as goal

pub join_seat-requires : goal.join_seat-requires
join_seat-requires g c = (search rules, search rules, search rules, search rules, joins g.S.Journaled.history g.S.Journaled.fixed _ _ _ _ _ _ c.requires.owns c.requires.idle.0)

pub load-requires : goal.load-requires
load-requires g c = let p = c.args.other.me.0 in (
  search rules,
  search rules,
  settles g.S.Journaled.history g.S.Journaled.fixed _ _ _ _ _ _ _ (ap (λ m. m.0.stage) c.join_seat.ensures.2 ∙ ap (joining_stage p.caller p.seen) c.requires.owns),
)
