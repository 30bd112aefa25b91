use Rattle.node_door.proofs.Looping.{kept_ok, kept_not}
use Rattle.node_door.proofs.loop_link.keep.Goals as goal

pub returns-in-Ok-clause-kept : goal.returns-in-Ok-clause-kept
returns-in-Ok-clause-kept c = kept_ok c.args.shelf.now _ c.args.bytes.now _ c.args.id _ c.requires c.in-Ok.ensures c.kept_frame.ensures.frame

pub returns-in-Err-clause-kept : goal.returns-in-Err-clause-kept
returns-in-Err-clause-kept c = kept_not c.args.shelf.now _ c.args.bytes.now _ c.args.id _ c.requires c.in-Err.ensures c.memory_frame.ensures.frame
