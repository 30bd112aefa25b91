use Rattle.std.proofs.Common.{List, length, sym, subst, arith, ◌≡◌}
use Rattle.std.specs.Prelude.{slice_index_or}
use Rattle.workload_run.specs.Workers.{WorkerState, AreWorkable, HaveRun, HasRun}
use Rattle.workload_run.proofs.Crews.{lent_back}
use Rattle.workload_run.proofs.crew.run_all.Goals as goal

pub run_beside-requires-after_bounds : goal.run_beside-requires-after_bounds
run_beside-requires-after_bounds g c κs within = subst (λ (l : List (WorkerState _)). AreWorkable c.args.plan.now l) (sym c.as_mut_slice.ensures.value) c.requires

pub returns-clause-run : goal.returns-clause-run
returns-clause-run g c place d within =
    let items = c.args.workers.items in
    let new = c.run_beside.new.workers in
    let faults = g.D.Door.faults in
    let full : length new ≡ c.args.workers.len = omega (arith, c.run_beside.auto.workers, c.as_mut_slice.ensures.len) in
    let whole : length items ≡ c.args.workers.len = omega (arith, c.args.workers.ok.0) in
    let run = subst (λ (l : List (WorkerState _)). HaveRun faults c.args.plan.now l new) c.as_mut_slice.ensures.value c.run_beside.ensures in
    subst (λ (l : List (WorkerState _)). HasRun faults c.args.plan.now (slice_index_or items place d) (slice_index_or l place d)) (sym (lent_back c.args.workers.len new items full whole)) (run place d within)
