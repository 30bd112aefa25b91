use Rattle.tree_tests.proofs.blob.Blob.stated.Given as goal

abbrev pub ghosts-stated_counted : goal.ghosts-stated_counted
ghosts-stated_counted g a = record { name = a.blank.name; parts = a.blank.parts }
