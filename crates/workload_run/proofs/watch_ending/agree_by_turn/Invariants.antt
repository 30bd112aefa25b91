use Rattle.workload_run.proofs.watch_ending.agree_by_turn.Given as goal

abbrev pub ghosts-compare_by_turn : goal.ghosts-compare_by_turn
ghosts-compare_by_turn g a = record { name = a.blank.name; parts = a.blank.parts }
