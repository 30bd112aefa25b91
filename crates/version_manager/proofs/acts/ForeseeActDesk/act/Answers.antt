use Rattle.version_manager.proofs.Turns.{foreseen}
use Rattle.version_manager.proofs.acts.ForeseeActDesk.act.Goals as goal

pub returns-clause-gives : goal.returns-clause-gives
returns-clause-gives c =
    foreseen c.args.state.now c.args.self.blob c.args.self.place c.args.self.len c.args._caller c.refusal_of.result c.stands.ensures.legal c.stands.ensures.short c.stands.ensures.in_order c.refusal_of.ensures
