use Rattle.std.proofs.Common.{⊎_elim}
use Rattle.workload_run.specs.Updates.{told_faults}
use Rattle.page_store.proofs.CallsLemmas.{all_came_back_join}
use Rattle.workload_run.specs.WatchEnding.{EndsBy}
use Rattle.workload_run.proofs.WatchStages.{all_lent, makes_both}
use Rattle.workload_run.proofs.WatchCrews.{rose_thrice}
use Rattle.workload_run.proofs.watching.run_watch.Goals as goal

pub returns-in-Err-clause-ends : goal.returns-in-Err-clause-ends
returns-in-Err-clause-ends g c = ⊎_elim (λ out. EndsBy.outside out) (λ not_made. EndsBy.unopened not_made) c.in-Err.ensures.opens.1

pub returns-in-Ok-crew_of-clause-lent : goal.returns-in-Ok-crew_of-clause-lent
returns-in-Ok-crew_of-clause-lent g c =
    let m = g.M.DoorMaker in
    all_lent m.hands_out m.takes_back c.args.shared.now.providers c.args.plan.now.readers c.args.doors.now c.open_store.new.maker c.crew_of.new.maker c.work.new.doors c.in-Ok.ensures.lent
    c.in-Ok-crew_of.ensures.handed_out c.work.result c.work.ensures.lent

pub returns-in_default-clause-lent : goal.returns-in_default-clause-lent
returns-in_default-clause-lent g c = (c.args.shared.now.providers, c.in-Ok.ensures.lent)

pub returns-in-Err-crew_of-clause-lent : goal.returns-in-Err-crew_of-clause-lent
returns-in-Err-crew_of-clause-lent g c =
    let m = g.M.DoorMaker in
    all_came_back_join m.hands_out m.takes_back c.args.doors.now c.open_store.new.maker c.crew_of.new.maker (c.args.shared.now.providers, c.in-Ok.ensures.lent) c.in-Err-crew_of.ensures.all_back

pub returns-in-Ok-crew_of-clause-doors : goal.returns-in-Ok-crew_of-clause-doors
returns-in-Ok-crew_of-clause-doors g c =
    let counts = g.M.DoorMaker.faults in
    rose_thrice (told_faults c.work.result) (counts c.args.doors.now) (counts c.open_store.new.maker) (counts c.crew_of.new.maker) (counts c.work.new.doors) c.in-Ok.ensures.doors
    c.crew_of.ensures.doors
    c.work.ensures.doors

pub returns-in-Err-clause-maker : goal.returns-in-Err-clause-maker
returns-in-Err-clause-maker g c = c.open_store.ensures.maker

pub returns-in_default-clause-maker : goal.returns-in_default-clause-maker
returns-in_default-clause-maker g c = c.open_store.ensures.maker

pub returns-in-Err-crew_of-clause-maker : goal.returns-in-Err-crew_of-clause-maker
returns-in-Err-crew_of-clause-maker g c = makes_both c.open_store.ensures.maker c.crew_of.ensures.maker

pub returns-in-Ok-crew_of-clause-maker : goal.returns-in-Ok-crew_of-clause-maker
returns-in-Ok-crew_of-clause-maker g c =
    makes_both
    (makes_both c.open_store.ensures.maker c.crew_of.ensures.maker) c.work.ensures.maker

pub crew_of-requires-clause-true_doors : goal.crew_of-requires-clause-true_doors
crew_of-requires-clause-true_doors g c = c.open_store.ensures.maker.truth_stays.0 c.requires.true_doors

pub work-requires-clause-true_doors : goal.work-requires-clause-true_doors
work-requires-clause-true_doors g c κs within = c.crew_of.ensures.maker.truth_stays.0 (c.open_store.ensures.maker.truth_stays.0 c.requires.true_doors)
