use Rattle.std.proofs.Common.{refl, ◌∙◌, ap, arith}
use Rattle.settings.specs.Values.{SettingsValues}
use Rattle.blobseer_run.specs.Script.{fixed_of, IsCalm}
use Rattle.blobseer_run.proofs.Runs.{gave_back, ran, ran_as, ran_none}
use Rattle.store_sessions.proofs.Fresh.{fresh_doors}
use Rattle.blobseer_run.proofs.Lendings.{starved, one_session}
use Rattle.blobseer_run.proofs.Stores.{fixed_there}
use Rattle.blobseer_run.proofs.serving.answer_script.Goals as goal

pub returns-in_default-clause-did : goal.returns-in_default-clause-did
returns-in_default-clause-did g c = ran_none (fixed_of c.args.settings.now) (IsCalm g.M.Door.Door.faults) _ _ refl refl refl refl (omega (arith, c.new.ensures.count_stays))

pub returns-in_default-clause-lent : goal.returns-in_default-clause-lent
returns-in_default-clause-lent g c = starved g.M.DoorMaker.hands_out g.M.DoorMaker.takes_back _ _ _ c.in_default.ensures.all_back

pub returns-clause-did : goal.returns-clause-did
returns-clause-did g c =
    let served = c.serve_store-end in
    let faults = g.M.Door.Door.faults in
    let before = g.M.DoorMaker.faults c.args.objects.now.doors.now in
    let after = g.M.DoorMaker.faults c.back.new.maker in
    let gave = gave_back faults c.in-Ok.doors served.result.1 before (g.M.DoorMaker.faults c.new.new.maker) after (fresh_doors faults c.in-Ok.doors c.in-Ok.ensures.fresh) c.in-Ok.ensures.count_stays c.back.ensures.rises in
    let same = fixed_there c.args.shared.fixed c.args.settings.now c.requires.store.limits c.requires.store.page_size in
    let did = ran c.endings_hold.ensures.alone c.transcripts_are_legal.ensures.histories _ (IsCalm faults) _ _ _ _ gave served.result.0 served.ensures.lines served.ensures.read_faults served.ensures.write_faults refl in
    ran_as _ _ (IsCalm faults) _ _ served.result.0 c.after.result same c.after.ensures did

pub returns-clause-lent : goal.returns-clause-lent
returns-clause-lent g c =
    let many = ap (λ (s : SettingsValues). s.providers) c.settings.view_is in
    one_session g.M.DoorMaker.hands_out g.M.DoorMaker.takes_back c.args.settings.now.providers _ _ _ _ _ _ many (c.serve_store-end.ensures.doors ∙ c.requires.store.providers) c.in-Ok.ensures.handed_out c.back.ensures.taken_back
