use Rattle.std.proofs.Common.{[], refl, sym, subst}
use Rattle.server_core.specs.Conversing.{IsSettled}
use Rattle.server_core.specs.declared.flow.Flow.{Flow}
use Rattle.server_core.specs.declared.flow.Flow.TheVariants as Flows
use Rattle.server_core.proofs.Writing.{Writes-part, flushed, settled_fault}
use Rattle.server_core.proofs.gather.Gathered.settle.Goals as goal

pub returns-in-NoMemory-clause-settled : goal.returns-in-NoMemory-clause-settled
returns-in-NoMemory-clause-settled g c =
    subst (λ (flow : Flow). IsSettled c.args.self.now.bytes.items (g.I.Ends.written c.args.io.now) (g.I.Ends.written c.flush.new.io) flow Flows.NoMemory) (sym c.in-NoMemory.is)
    (refl, flushed c.args.self.now.bytes.items _ _ c.flush.result c.flush.ensures.part c.flush.ensures.written)

pub returns-in-Failed-clause-settled : goal.returns-in-Failed-clause-settled
returns-in-Failed-clause-settled g c =
    settled_fault c.args.self.now.bytes.items _ _ c.args.flow c.in-Goes.is (Writes-part c.args.self.now.bytes.items [] c.in-Failed.field-0 _ _ c.in-Failed.ensures.part c.in-Failed.ensures.written)
