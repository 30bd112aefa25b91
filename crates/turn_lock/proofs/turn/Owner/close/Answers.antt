use Rattle.std.proofs.Common.{ℕ, ◌<◌, ◌≤◌, subst, Contains}
use Rattle.turn_lock.specs.Shown.{OwnerView}
use Rattle.turn_lock.proofs.turn.Owner.close.Goals as goal

pub returns-clause-all_kept : goal.returns-clause-all_kept
returns-clause-all_kept g c =
    subst (λ (o : OwnerView g.row.S-Entry.Denot g.row.S-Fixed.Denot). (k : ℕ) → 0 < k → k ≤ o.made → Contains o.kept k) c.self.view_is c.end_turns.ensures.2
