use Rattle.tree_tests.proofs.blob.Blob.holder_len.Given as goal

abbrev pub ghosts-holder_len_counted : goal.ghosts-holder_len_counted
ghosts-holder_len_counted a = record { name = a.blank.name; parts = a.blank.parts }
