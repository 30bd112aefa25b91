use Rattle.std.proofs.Common.{◌∙◌, refl, ap}
use Rattle.blobseer_run.specs.Node.{new_node}
use Rattle.blobseer_run.proofs.Nodes.{did_from, did_none}
use Rattle.page_store.specs.Calls.{no_door}
use Rattle.blobseer_run.proofs.keeping.keep_pages.Goals as goal

pub returns-in_default-clause-did : goal.returns-in_default-clause-did
returns-in_default-clause-did g c = did_none _ _

pub returns-clause-did : goal.returns-clause-did
returns-clause-did g c =
    let served = c.serve_node-end in
    let fresh = c.in-Ok.ensures ∙ ap new_node c.page_size.ensures in
    did_from _ _ _ c.in-Ok.shelf served.new.shelf served.result c.after.result fresh c.after.ensures served.ensures.served served.ensures.read_faults served.ensures.write_faults refl refl

pub returns-in_default-clause-lent : goal.returns-in_default-clause-lent
returns-in_default-clause-lent g c = no_door

pub returns-clause-lent : goal.returns-clause-lent
returns-clause-lent g c = no_door
