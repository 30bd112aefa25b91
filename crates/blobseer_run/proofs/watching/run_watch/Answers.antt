use Rattle.std.proofs.Common.{refl, subst}
use Rattle.blob_model.specs.Limits.{Bounds}
use Rattle.blobseer_run.specs.Store.{IsNewStore}
use Rattle.blobseer_run.proofs.Lendings.{none_made}
use Rattle.blobseer_run.proofs.Measures.{starved_there}
use Rattle.blobseer_run.proofs.watching.run_watch.Goals as goal

pub watch_store-requires-clause-store : goal.watch_store-requires-clause-store
watch_store-requires-clause-store g c κs within = subst (λ (b : Bounds). IsNewStore c.args.settings.now b c.in-Ok.shared c.in-Ok.owner) c.greatest.ensures c.in-Ok.ensures

pub returns-in_default-clause-did : goal.returns-in_default-clause-did
returns-in_default-clause-did g c = starved_there _ _ _ _ (record { given = refl; left = refl; reads = refl; ends = refl }) refl refl

pub returns-in_default-clause-lent : goal.returns-in_default-clause-lent
returns-in_default-clause-lent g c = none_made g.M.DoorMaker.hands_out g.M.DoorMaker.takes_back _ _
