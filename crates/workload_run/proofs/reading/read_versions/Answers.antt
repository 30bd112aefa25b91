use Rattle.workload_run.proofs.WatchCrews.{noted_more}
use Rattle.workload_run.proofs.Idling.{read_none, read_both}
use Rattle.workload_run.proofs.reading.read_versions.Goals as goal

pub reads-init : goal.reads-init
reads-init g c = record { read = read_none g.D.Door.faults c.args.reader.now; noted = c.none-readings.ensures }

pub reads-preserved : goal.reads-preserved
reads-preserved g c =
    let i = c.reads.invariant in
    let e = c.in-Ok.ensures in
    let first = c.args.reader.now in
    let mid = c.reads.reader in
    let last = c.read_noted.new.reader in
    record {
      read = read_both g.D.Door.faults _ _ _ _ _ i.read e.read;
      noted = noted_more first mid last e.seen e.read.place i.read.idles e.read.idles c.reads.op _ _ i.noted e.noted;
    }

pub returns-in-Err-clause-read : goal.returns-in-Err-clause-read
returns-in-Err-clause-read g c = read_both g.D.Door.faults _ _ _ _ _ c.reads.invariant.read c.in-Err.ensures.read
