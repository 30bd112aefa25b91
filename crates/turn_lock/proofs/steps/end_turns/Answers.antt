use Rattle.std.proofs.Common.{sym, ◌∙◌, subst}
use mathlib.Core.Option.{some-injective}
use Rattle.turn_lock.specs.Told.{Closes}
use Rattle.turn_lock.proofs.Passes.{closes}
use Rattle.turn_lock.proofs.steps.end_turns.Goals as goal

pub returns : goal.returns
returns g c = let t = closes g.S.Journaled.history g.S.Journaled.fixed _ _ _ _ _ _ c.requires.owns.0 c.requires.owns.1 c.close_with-closed.ensures.values.2 in
    subst (λ (x : g.row.S.Denot). Closes c.args.made c.args.seat.me.0 (g.S.Journaled.history x) (g.S.Journaled.fixed x)) (some-injective _ _ (sym t.1 ∙ c.take-state.ensures.value)) t.2
