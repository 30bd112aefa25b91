use Rattle.std.proofs.Common.{◌∙◌, map, sym, ap, subst}
use Rattle.std.specs.String.{string_bytes}
use Rattle.page_store.specs.Calls.{no_door}
use Rattle.blobseer_run.specs.Outside.{Outside}
use Rattle.blobseer_run.specs.Lending.{CameBack}
use Rattle.blob_server.specs.Peers.{Converses}
use Rattle.blobseer_run.specs.Hosting.{ServedByStore}
use Rattle.blobseer_run.specs.Script.{IsCalm}
use Rattle.blobseer_run.specs.Run.{Ran}
use Rattle.blobseer_run.proofs.Names.{first_name, second_name, third_name, fourth_name}
use Rattle.blobseer_run.proofs.Statuses.{ran_did, ran_stopped, refuses_words, refuses_settings, complete}
use Rattle.blobseer_run.proofs.program.run.Goals as goal

pub returns-in-Ok-clause-ran : goal.returns-in-Ok-clause-ran
returns-in-Ok-clause-ran g c =
    let objects = c.new-objects.result in
    let later = c.obey.new.objects in
    let stands : _ → _ → _ → _ → Outside = λ s k l m. record {
      given = g.S.Ends.given s;
      left = g.S.Ends.left s;
      reads = g.S.Ends.read_faults s;
      ends = g.S.Ends.ends s;
      written = g.K.Ends.written k;
      writes = g.K.Ends.write_faults k;
      net = record { listens = g.L.Listener.listens l; address = g.L.Listener.listens_at l; handing = record { handed = g.L.Listener.handed l; is_done = g.L.Listener.is_done l; faults = g.L.Listener.faults l } };
      doors = g.M.DoorMaker.faults m;
    } in
    let p = g.L.Peer.Ends in
    let Serves = ServedByStore (Converses g.M.Door.Door.faults p.given p.left p.written p.ends p.read_faults p.write_faults) in
    let R : Outside → Outside → _ → _ → Type 0 = λ old new first last. Ran (map string_bytes c.args.words.now) (g.F.Files.known c.args.files.now) (IsCalm g.M.Door.Door.faults) Serves
    (CameBack g.M.DoorMaker.hands_out g.M.DoorMaker.takes_back first last) (g.F.Files.faults c.args.files.now) (g.F.Files.faults c.told.new.files) old new c.end.result in
    let ran = ran_did _ _ _ _ _ _ _ c.end.result _ c.end.ensures.code _ _ c.in-Ok.command c.in-Ok.settings c.in-Ok.ensures.settled c.obey.ensures.did c.obey.ensures.lent in
    let lent = subst (λ (o : _). R (stands o.script.now o.out.now o.net.now o.doors.now) (stands later.script.now later.out.now later.net.now later.doors.now) o.doors.now later.doors.now) c.new-objects.ensures ran in
    let old = stands c.args.script.now c.args.out.now c.args.net.now c.args.doors.now in
    let names = c.obey.ensures.names in
    let made = c.new-objects.ensures in
    let script_is = c.script-1.given.1 (sym (first_name _ _ _ _ _ _ _ _ names ∙ ap (λ (o : _). o.script.ghost_name) made)) in
    let out_is = c.out-1.given.1 (sym (second_name _ _ _ _ _ _ _ _ names ∙ ap (λ (o : _). o.out.ghost_name) made)) in
    let net_is = c.net-1.given.1 (sym (third_name _ _ _ _ _ _ _ _ names ∙ ap (λ (o : _). o.net.ghost_name) made)) in
    let doors_is = c.doors-1.given.1 (sym (fourth_name _ _ _ _ _ _ _ _ names ∙ ap (λ (o : _). o.doors.ghost_name) made)) in
    let first = c.args.doors.now in
    let script = subst (λ (s : _). R old (stands s later.out.now later.net.now later.doors.now) first later.doors.now) (sym script_is) lent in
    let out = subst (λ (k : _). R old (stands c.script-1.given.0 k later.net.now later.doors.now) first later.doors.now) (sym out_is) script in
    let net = subst (λ (l : _). R old (stands c.script-1.given.0 c.out-1.given.0 l later.doors.now) first later.doors.now) (sym net_is) out in
    subst (λ (m : _). R old (stands c.script-1.given.0 c.out-1.given.0 c.net-1.given.0 m) first m) (sym doors_is) net

pub returns-in-Ok-clause-words_refused : goal.returns-in-Ok-clause-words_refused
returns-in-Ok-clause-words_refused g c = refuses_words _ _ _ _ _ _ _ _ _ _ (returns-in-Ok-clause-ran g c)

pub returns-in-Ok-clause-settings_refused : goal.returns-in-Ok-clause-settings_refused
returns-in-Ok-clause-settings_refused g c = refuses_settings _ _ _ _ _ _ _ _ _ _ (returns-in-Ok-clause-ran g c)

pub returns-in-Ok-clause-complete : goal.returns-in-Ok-clause-complete
returns-in-Ok-clause-complete g c = complete _ _ _ _ _ _ _ _ _ _ (returns-in-Ok-clause-ran g c)

pub returns-in-Err-clause-ran : goal.returns-in-Err-clause-ran
returns-in-Err-clause-ran g c = ran_stopped _ _ _ _ _ _ _ c.end-in-Err.result _ c.end-in-Err.ensures.code _ c.in-Err.ensures.stopped no_door

pub returns-in-Err-clause-settings_refused : goal.returns-in-Err-clause-settings_refused
returns-in-Err-clause-settings_refused g c = refuses_settings _ _ _ _ _ _ _ _ _ _ (returns-in-Err-clause-ran g c)

pub returns-in-Err-clause-complete : goal.returns-in-Err-clause-complete
returns-in-Err-clause-complete g c = complete _ _ _ _ _ _ _ _ _ _ (returns-in-Err-clause-ran g c)
