use Rattle.version_manager.proofs.Turns.{opened}
use Rattle.version_manager.proofs.acts.OpenActDesk.act.Goals as goal

pub returns-clause-gives : goal.returns-clause-gives
returns-clause-gives c =
    let s = c.snapshot_of.ensures in
    opened c.args.state.now c.args.self.blob c.args.self.version c.args._caller c.snapshot_of.result c.stands.ensures.legal c.stands.ensures.short c.stands.ensures.in_order s.size s.not_opened s.blob s.version s.page_size s.tells s.here s.origins
