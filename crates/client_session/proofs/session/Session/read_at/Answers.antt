use Rattle.client_session.proofs.session.Session.read_at.Goals as goal

pub returns-clause-failed : goal.returns-clause-failed
returns-clause-failed g c = rw (c.view.ensures) at c.read_view.ensures.failed
