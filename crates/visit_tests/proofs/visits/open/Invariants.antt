use Rattle.visit_tests.proofs.visits.open.Given as goal

abbrev pub ghosts-open_by : goal.ghosts-open_by
ghosts-open_by g a = record { name = a.blank.name; parts = a.blank.parts }
