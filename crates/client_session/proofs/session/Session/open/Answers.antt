use Rattle.client_session.proofs.Memory.{opening_memory}
use Rattle.client_session.proofs.session.Session.open.Goals as goal

pub returns-clause-opening : goal.returns-clause-opening
returns-clause-opening g c = rw c.opened.ensures.is c.snapshot_of.ensures.opening

pub returns-clause-memory : goal.returns-clause-memory
returns-clause-memory g c =
    rw c.opened.ensures.is (opening_memory c.args.self.now c.snapshot_of.new.self c.args.blob c.args.version c.snapshot_of.result c.snapshot_of.ensures.opening c.snapshot_of.ensures.not_opened)
