use Rattle.std.proofs.Common.{refl, subst, inl, arith}
use Rattle.settings.specs.Values.{SettingsValues}
use Rattle.blobseer_run.specs.Store.{IsNewStore}
use Rattle.blobseer_run.proofs.Lendings.{none_made}
use Rattle.blobseer_run.proofs.PeersServed.{starved_there}
use Rattle.blobseer_run.proofs.hosting.serve_peers.Goals as goal

pub serve_store-requires-clause-store : goal.serve_store-requires-clause-store
serve_store-requires-clause-store g c κs within = subst (λ (s : SettingsValues). IsNewStore c.args.settings.now s.limits c.in-Ok.shared c.in-Ok.owner) c.settings.view_is c.in-Ok.ensures

pub returns-in_default-clause-did : goal.returns-in_default-clause-did
returns-in_default-clause-did g c =
    starved_there _ _ _ _ _ (record { given = refl; left = refl; reads = refl; ends = refl }) refl (inl (record { listens = refl; address = refl }))
    (record { handed = refl; done = refl; rose = record { later = omega arith; by = λ less. omega arith } })

pub returns-in_default-clause-lent : goal.returns-in_default-clause-lent
returns-in_default-clause-lent g c = none_made g.M.DoorMaker.hands_out g.M.DoorMaker.takes_back _ _
