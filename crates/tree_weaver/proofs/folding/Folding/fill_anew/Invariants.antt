use Rattle.tree_weaver.proofs.folding.Folding.fill_anew.Given as goal

abbrev pub ghosts-read_before : goal.ghosts-read_before
ghosts-read_before g a = record { name = a.blank.name; parts = a.blank.parts }
