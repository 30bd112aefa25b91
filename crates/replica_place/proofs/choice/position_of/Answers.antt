-- This provider does not come before those at the positions passed.
use Rattle.std.proofs.Common.{sym, arith}
use Rattle.std.proofs.lemmas.List.Sums.{position_or_len_is}
use Rattle.replica_place.specs.Order.{comes_before}
use Rattle.replica_place.proofs.choice.position_of.Goals as goal

pub returns-then-comes_before : goal.returns-then-comes_before
returns-then-comes_before c =
    sym (position_or_len_is (comes_before c.args.loads.now c.args.provider) c.args.kept.now c.loop-position.position 0 (omega arith) c.loop-position.invariant (λ h. cc))

pub returns : goal.returns
returns c =
    let end = position_or_len_is (comes_before c.args.loads.now c.args.provider) c.args.kept.now c.loop-position.position 0 (omega arith) c.loop-position.invariant (λ h. absurd (omega arith)) in
    omega (arith, end)
