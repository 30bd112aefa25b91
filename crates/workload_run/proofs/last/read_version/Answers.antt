use Rattle.std.proofs.Common.{ap}
use Rattle.blob_model.specs.History.{events_by}
use Rattle.version_manager.specs.Log.{events}
use Rattle.client_session.specs.Sessions.{SessionState}
use Rattle.read_board.proofs.Reading.{stays_on}
use Rattle.workload_run.proofs.Idling.{idles_both}
use Rattle.workload_run.proofs.Lasts.{idles_opened, opened_read, not_opened}
use Rattle.workload_run.proofs.last.read_version.Goals as goal

pub returns-in-Ok-clause-reads : goal.returns-in-Ok-clause-reads
returns-in-Ok-clause-reads g c =
    opened_read c.args.session.now c.open.new.self c.read_at.new.self c.args.version c.in-Ok.snapshot c.in-Ok.ensures.opening c.size-size.result c.read_at.result c.read_at.ensures.seen_stays c.size-size.ensures.size c.read_at.ensures.reads

pub returns-in-Ok-clause-idles : goal.returns-in-Ok-clause-idles
returns-in-Ok-clause-idles g c =
    let s = c.args.session.now in
    let mid = c.open.new.self in
    let s' = c.read_at.new.self in
    let same = c.read_at.ensures.seen_stays in
    idles_both (idles_opened s mid s' c.args.version c.open.result c.open.ensures.opening c.sessions_own.ensures.gaps c.open.ensures.goes_on) (record {
      none = ap (λ (x : SessionState _). events_by mid.caller (events x.log)) same;
      goes_on = stays_on mid s' same;
    })

pub returns-clause-reads : goal.returns-clause-reads
returns-clause-reads g c = not_opened c.args.session.now c.open.new.self c.open.new.self c.args.version c.old_versions_stay.ensures c.in-Err.fault c.in-Err.ensures.opening c.requires.published

pub returns-clause-idles : goal.returns-clause-idles
returns-clause-idles g c =
    idles_opened c.args.session.now c.open.new.self c.open.new.self c.args.version c.open.result c.open.ensures.opening c.sessions_own.ensures.gaps c.open.ensures.goes_on
