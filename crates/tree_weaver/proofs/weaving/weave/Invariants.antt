use Rattle.tree_weaver.proofs.weaving.weave.Given as goal

abbrev pub ghosts-planned : goal.ghosts-planned
ghosts-planned g a = record { name = a.blank.name; parts = a.blank.parts }
