use Rattle.std.proofs.Common.{arith}
use Rattle.workload_run.proofs.Idling.{refreshes_none, refreshes_both, one_more}
use Rattle.workload_run.proofs.keeping.keep_all.Goals as goal

pub refreshes-init : goal.refreshes-init
refreshes-init g c = record { count = omega arith; refreshes = refreshes_none c.args.keeper.now c.args.session.now c.requires.may }

pub refreshes-preserved : goal.refreshes-preserved
refreshes-preserved g c =
    let i = c.refreshes.invariant in
    let one = one_more c.refreshes.keeper c.refresh_blob.new.keeper c.in-Ok._version c.in-Ok.ensures.done in
    record {
      count = omega (arith, i.count, one);
      refreshes = refreshes_both _ _ _ _ _ _ i.refreshes c.in-Ok.ensures.refreshes;
    }

pub returns-in-Err-clause-refreshes : goal.returns-in-Err-clause-refreshes
returns-in-Err-clause-refreshes g c = refreshes_both _ _ _ _ _ _ c.refreshes.invariant.refreshes c.in-Err.ensures.refreshes
