use Rattle.snapshot.proofs.version.Snapshot.row.Given as goal

abbrev pub ghosts-row_by : goal.ghosts-row_by
ghosts-row_by a = record { name = a.blank.name; parts = a.blank.parts }
