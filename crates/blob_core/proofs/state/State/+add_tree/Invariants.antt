use Rattle.blob_core.proofs.state.State.+add_tree.Given as goal

abbrev pub decreases-add_tree : goal.decreases-add_tree
decreases-add_tree l = l.tree.height
