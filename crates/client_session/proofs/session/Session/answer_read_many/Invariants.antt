use Rattle.client_session.proofs.session.Session.answer_read_many.Given as goal

abbrev pub ghosts-read_many_uncounted : goal.ghosts-read_many_uncounted
ghosts-read_many_uncounted g a = record { name = a.blank.name; parts = a.blank.parts }
