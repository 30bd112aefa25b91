use Rattle.std.proofs.Common.{rules, ◌≡◌, sym, subst}
use Rattle.turn_lock.specs.declared.view.Stage.TheVariants.{Waits}
use Rattle.turn_lock.specs.Told.{Sat, number_of}
use Rattle.turn_lock.proofs.Turning.{looks}
use Rattle.turn_lock.proofs.steps.enter.Goals as goal

pub load-found-requires : goal.load-found-requires
load-found-requires g c = let still = subst (λ (m : Sat g.row.S.Denot g.row.S-Entry.Denot g.row.S-Fixed.Denot). m.0.stage ≡ Waits (number_of m.0.stage)) (sym c.loop.invariant.1) c.requires.waits in
    (search rules, search rules, looks g.S.Journaled.history g.S.Journaled.fixed _ _ _ still)
