use Rattle.visit_tests.proofs.visits.counted.Given as goal

abbrev pub ghosts-counted_by : goal.ghosts-counted_by
ghosts-counted_by g a = record { name = a.blank.name; parts = a.blank.parts }
