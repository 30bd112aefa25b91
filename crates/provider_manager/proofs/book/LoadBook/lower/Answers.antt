-- The rest follows from what it is to be lowered.
use Rattle.std.proofs.Common.{ap, arith, length}
use Rattle.provider_manager.proofs.Lowering.{lowered-from, least-lowered, even-lowered, small-lowered}
use Rattle.provider_manager.proofs.book.LoadBook.lower.Goals as goal

pub returns-clause-lowered : goal.returns-clause-lowered
returns-clause-lowered c =
    lowered-from c.args.self.now.loads c.self.inside.loads.items c.as_slice.result.now c.as_mut_slice.result.now c.lower_by.new.loads c.self.inside.loads.len c.least_load-least.result
    (ap (λ b. b.loads) c.self.view_is) c.as_slice.ensures.value c.least_load-least.ensures.one c.least_load-least.ensures.least c.as_mut_slice.ensures.value c.lower_by.ensures.loads (omega (arith, c.lower_by.auto.loads, c.as_mut_slice.ensures.len))

pub returns-clause-choices : goal.returns-clause-choices
returns-clause-choices c = least-lowered c.args.self.now.loads _ (returns-clause-lowered c)

pub returns-clause-even : goal.returns-clause-even
returns-clause-even c = even-lowered c.args.self.now.loads _ (returns-clause-lowered c)

pub returns-clause-small : goal.returns-clause-small
returns-clause-small c even =
    small-lowered c.args.self.now.loads _ (returns-clause-lowered c) even (omega (arith, c.self.invariant.counts.most_providers, ap (λ b. length b.loads) c.self.view_is))
