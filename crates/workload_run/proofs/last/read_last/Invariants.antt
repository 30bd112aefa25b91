use Rattle.workload_run.proofs.last.read_last.Given as goal

abbrev pub ghosts-read_version : goal.ghosts-read_version
ghosts-read_version g a = record { name = a.blank.name; parts = a.blank.parts }
