use Rattle.workload_run.proofs.watch_ending.agree_by_place.Given as goal

abbrev pub ghosts-compare_by_place : goal.ghosts-compare_by_place
ghosts-compare_by_place g a = record { name = a.blank.name; parts = a.blank.parts }
