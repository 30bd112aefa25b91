use Rattle.tree_weaver.proofs.planning.folds_of_ticket.Given as goal

abbrev pub ghosts-folds_by : goal.ghosts-folds_by
ghosts-folds_by a = record { name = a.blank.name; parts = a.blank.parts }
