use Rattle.blob_core.proofs.state.State.+leaf_bytes.Given as goal

abbrev pub decreases-leaf_bytes : goal.decreases-leaf_bytes
decreases-leaf_bytes l = l.most
