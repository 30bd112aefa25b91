use Rattle.workload_run.proofs.WatchStages.{makes_so, one_ended, leaves_watch}
use Rattle.workload_run.proofs.Returns.{took}
use Rattle.workload_run.proofs.watch_making.end_idle.Goals as goal

pub returns-clause-sessions : goal.returns-clause-sessions
returns-clause-sessions g c =
    let e = c.end_session.ensures in
    let s = c.args.session in
    let old = c.args.owner.now in
    let new = c.end_session.new.owner in
    let leaves =
    leaves_watch c.entries_are_events.ensures c.loads_close.ensures.own (took c.args.shared.now s.caller s.log old new e.counts e.begins e.own e.before e.owner) c.requires.idle.caller
    c.requires.idle.none
    in
    one_ended leaves e.counts.0 e.taken_back
    (makes_so g.M.DoorMaker.is_true g.M.DoorMaker.makes c.args.maker.now c.end_session.new.maker e.truth_stays e.plan_stays)
