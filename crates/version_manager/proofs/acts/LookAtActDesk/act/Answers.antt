use Rattle.version_manager.specs.Looks.{look_call}
use Rattle.version_manager.proofs.Turns.{looked}
use Rattle.version_manager.proofs.acts.LookAtActDesk.act.Goals as goal

pub returns-clause-gives : goal.returns-clause-gives
returns-clause-gives c =
    looked c.args.state.now (look_call c.args.self.look c.args.self.blob) c.args._caller c.look.result c.stands.ensures.legal c.stands.ensures.short c.stands.ensures.in_order c.look.ensures
