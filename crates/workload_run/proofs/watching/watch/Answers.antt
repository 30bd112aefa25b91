use Rattle.workload_run.proofs.watching.watch.Goals as goal

pub returns-in-Ok-clause-came : goal.returns-in-Ok-clause-came
returns-in-Ok-clause-came g c = c.in-Ok.ensures.came

pub returns-in-Ok-clause-doors : goal.returns-in-Ok-clause-doors
returns-in-Ok-clause-doors g c = let x = c.in-Ok.ensures.doors in record { lent = x.lent; counted = x.counted; maker = x.maker }

pub returns-in-Err-clause-doors : goal.returns-in-Err-clause-doors
returns-in-Err-clause-doors g c = let x = c.in-Err.ensures.doors in record { lent = x.lent; counted = x.counted; maker = x.maker }
