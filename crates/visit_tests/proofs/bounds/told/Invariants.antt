use Rattle.visit_tests.proofs.bounds.told.Given as goal

abbrev pub ghosts-stated_by : goal.ghosts-stated_by
ghosts-stated_by g a = record { name = a.blank.name; parts = a.blank.parts }
