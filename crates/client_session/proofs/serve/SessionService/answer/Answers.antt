use Rattle.client_session.proofs.serve.SessionService.answer.Goals as goal

pub returns-in-Hello-clause-answers : goal.returns-in-Hello-clause-answers
returns-in-Hello-clause-answers g c = rw c.in-Hello.is (c.hello.ensures.answers c.in-Hello.version)
