use Rattle.std.proofs.Common.{◌≡◌, ◌+◌, ◌*◌, ◌≤◌, ℕ, length, arith, refl, subst}
use Rattle.tree_geom.specs.Geometry.{height_of}
use Rattle.range_log.specs.Depths.{fold_number}
use Rattle.range_log.specs.Extents.{size_after}
use Rattle.range_log.specs.Visits.{pages_met, visits}
use Rattle.client_session.proofs.laws.reads_are_bounded.Goals as goal

sixteen : fold_number ≡ 16
unfolding fold_number
sixteen = refl

pub returns-clause-fold : goal.returns-clause-fold
returns-clause-fold c = sixteen

pub returns-clause-backs : goal.returns-clause-backs
returns-clause-backs c = λ p v i us pos in_bounds within.
    omega (arith, sixteen, (c.folds_are.ensures.few p v 0 0 us (omega (arith, sixteen)) pos in_bounds within).0 i)

pub returns-clause-visits : goal.returns-clause-visits
returns-clause-visits c = λ p v o n us pos in_bounds within.
    let N : ℕ → Type 0 = λ fold. visits p us v o n ≤ (fold + 1) * length (pages_met p o n) + 2 * height_of p (size_after us v) in
    subst N sixteen (c.folds_are.ensures.few p v o n us (omega (arith, sixteen)) pos in_bounds within).1
