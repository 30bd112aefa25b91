use Rattle.version_manager.proofs.Turns.{reissued}
use Rattle.version_manager.proofs.acts.ReissueActDesk.act.Goals as goal

pub returns-clause-gives : goal.returns-clause-gives
returns-clause-gives c =
    let t = c.ticket_of.ensures in
    reissued c.args.state.now c.args.self.blob c.args.self.version c.ticket_of.result c.stands.ensures.legal c.stands.ensures.short c.stands.ensures.in_order t.done t.refused t.memory t.blob t.version t.ticket t.hints t.here t.unfinished
