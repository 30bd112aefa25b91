use Rattle.std.proofs.Common.{◌*◌, refl, ◌∙◌, ap, subst}
use Rattle.std.specs.Prelude.{Err}
use Rattle.page_store.specs.Calls.{no_door}
use Rattle.settings.specs.Values.{SettingsValues}
use Rattle.version_manager.specs.Log.{events}
use Rattle.client_session.specs.Sessions.{session_of}
use Rattle.blob_server.specs.Peers.{Converses}
use Rattle.blob_server.specs.Serving.{Handing, TookPeers, EndsAs, WasServed, ServesAll}
use Rattle.blobseer_run.specs.Lending.{Lends}
use Rattle.blobseer_run.proofs.Lendings.{all_sessions, faulted}
use Rattle.blobseer_run.proofs.PeersServed.{by_store, took_since, listens_there, served_there, deaf_there, faulted_there}
use Rattle.blobseer_run.proofs.Stores.{fixed_there}
use Rattle.blobseer_run.proofs.hosting.serve_store.Goals as goal

pub returns-then-not-listen-clause-did : goal.returns-then-not-listen-clause-did
returns-then-not-listen-clause-did g c =
    let x = c.if-not-listen.ensures in
    deaf_there _ _ _ _ _ (record { given = refl; left = refl; reads = refl; ends = refl }) refl (record { listens = x.listens; address = x.here }) (record { handed = x.handed; done = x.done; rose = x.faults })

pub returns-then-not-listen-clause-lent : goal.returns-then-not-listen-clause-lent
returns-then-not-listen-clause-lent g c = Lends.deaf no_door refl

pub returns-in-Ok-served-clause-did : goal.returns-in-Ok-served-clause-did
returns-in-Ok-served-clause-did g c =
    let x = c.if-not-listen.ensures in
    let peers = c.in-Ok-served.peers in
    let net = c.args.objects.now.net.now in
    let before : Handing = record { handed = g.L.Listener.handed net; is_done = g.L.Listener.is_done net; faults = g.L.Listener.faults net } in
    let net' = c.serve-served.new.net in
    let after : Handing = record { handed = g.L.Listener.handed net'; is_done = g.L.Listener.is_done net'; faults = g.L.Listener.faults net' } in
    let took = subst (λ (s : SettingsValues). TookPeers s.connections peers before after) c.settings.view_is (took_since _ _ _ _ x.handed x.done x.faults peers c.in-Ok-served.ensures.ended) in
    let told = c.as_str.ensures ∙ ap (λ (s : SettingsValues). s.listen) c.settings.view_is in
    let listens = listens_there _ _ _ _ told c.in-Ok-served.ensures.listens x.here c.in-Ok-served.ensures.here in
    let log = c.serve-served.ensures.owner.log in
    let same = fixed_there c.args.shared.fixed c.args.settings.now c.requires.store.limits c.requires.store.page_size in
    let by = by_store _ c.args.shared _ c.serve-served.new.owner.seen same log peers c.in-Ok-served.ensures.served in
    served_there _ _ _ _ _ (record { given = refl; left = refl; reads = refl; ends = refl }) peers _ listens took by c.tell_served.ensures.told

pub returns-in-Ok-served-clause-lent : goal.returns-in-Ok-served-clause-lent
returns-in-Ok-served-clause-lent g c =
    let many = ap (λ n. c.args.settings.now.workers * n) c.requires.store.providers in
    let of_settings = ap (λ (s : SettingsValues). s.workers * c.args.shared.providers) c.settings.view_is in
    all_sessions g.M.DoorMaker.hands_out g.M.DoorMaker.takes_back _ _ _ _ _ (of_settings ∙ many) c.in-Ok-served.ensures.lent

pub returns-in-Err-clause-did : goal.returns-in-Err-clause-did
returns-in-Err-clause-did g c =
    let x = c.if-not-listen.ensures in
    let net = c.listen.new.self in
    let mid : Handing = record { handed = g.L.Listener.handed net; is_done = g.L.Listener.is_done net; faults = g.L.Listener.faults net } in
    let net' = c.serve-served.new.net in
    let after : Handing = record { handed = g.L.Listener.handed net'; is_done = g.L.Listener.is_done net'; faults = g.L.Listener.faults net' } in
    let fault = c.in-Err.fault in
    let ended = subst (λ (s : SettingsValues). EndsAs s.connections mid after (Err fault)) c.settings.view_is c.in-Err.ensures.ended in
    let told = c.as_str.ensures ∙ ap (λ (s : SettingsValues). s.listen) c.settings.view_is in
    let listens = listens_there _ _ _ _ told c.in-Err.ensures.listens x.here c.in-Err.ensures.here in
    let seen = c.serve-served.new.owner.seen in
    let same = fixed_there c.args.shared.fixed c.args.settings.now c.requires.store.limits c.requires.store.page_size in
    let Talks = Converses g.M.Door.Door.faults g.L.Peer.Ends.given g.L.Peer.Ends.left g.L.Peer.Ends.written g.L.Peer.Ends.ends g.L.Peer.Ends.read_faults g.L.Peer.Ends.write_faults in
    let Was = WasServed (λ s. s.store) (λ s. (session_of s).seen) Talks c.args.shared (events seen) in
    let all = subst (λ (s : SettingsValues). ServesAll Was s.connections mid after (Err fault)) c.settings.view_is c.in-Err.ensures.served in
    faulted_there _ _ _ _ _ (record { given = refl; left = refl; reads = refl; ends = refl }) refl Was (by_store Talks c.args.shared _ seen same c.serve-served.ensures.owner.log) mid listens x.handed x.done x.faults
    fault _ c.status_of.ensures ended all

pub returns-in-Err-clause-lent : goal.returns-in-Err-clause-lent
returns-in-Err-clause-lent g c =
    let many = ap (λ n. c.args.settings.now.workers * n) c.requires.store.providers in
    let of_settings = ap (λ (s : SettingsValues). s.workers * c.args.shared.providers) c.settings.view_is in
    faulted g.M.DoorMaker.hands_out g.M.DoorMaker.takes_back _ _ _ _ c.in-Err.fault _ (of_settings ∙ many) c.status_of.ensures c.in-Err.ensures.lent
