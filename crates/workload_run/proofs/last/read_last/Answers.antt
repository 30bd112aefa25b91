use Rattle.std.proofs.Common.{◌≡◌, ap, arith}
use Rattle.std.specs.Prelude.{sum_by}
use Rattle.client_session.specs.Sessions.{SessionState}
use Rattle.workload_run.proofs.Idling.{idles_both}
use Rattle.workload_run.proofs.Lasts.{last_missing, no_page, published_mid, last_read, last_unread}
use Rattle.workload_run.proofs.last.read_last.Goals as goal

pub returns-in-Err-clause-hindered : goal.returns-in-Err-clause-hindered
returns-in-Err-clause-hindered g c = last_missing c.args.session.now c.refresh_blob.new.session c.in-Err.fault c.in-Err.ensures.hindered

pub returns-in-Err-clause-rose : goal.returns-in-Err-clause-rose
returns-in-Err-clause-rose g c =
    let faults = g.D.Door.faults in
    let s' = c.refresh_blob.new.session in
    let same : sum_by faults s'.doors ≡ sum_by faults c.args.session.now.doors = ap (λ (s : SessionState _). sum_by faults s.doors) c.in-Err.ensures.refreshes.rest in
    let none = no_page s' c.in-Err.fault c.in-Err.ensures.hindered in
    record { later = omega (arith, same); by = λ less. omega (arith, same, none) }

pub read_version-requires-clause-published : goal.read_version-requires-clause-published
read_version-requires-clause-published g c =
    let x = c.in-Ok.ensures in
    published_mid c.args.keeper.now c.refresh_blob.new.keeper c.args.session.now c.refresh_blob.new.session c.refresh_blob.new.session c.in-Ok.version x.done x.refreshes.may

pub returns-in-Ok-read_version-clause-last : goal.returns-in-Ok-read_version-clause-last
returns-in-Ok-read_version-clause-last g c =
    let s' = c.read_version.new.session in
    let x = c.in-Ok.ensures in
    last_read c.args.keeper.now c.refresh_blob.new.keeper c.args.session.now c.refresh_blob.new.session s' c.in-Ok.version x.done x.refreshes.may c.refreshes_stay.ensures c.read_version.ensures.idles.goes_on c.in-Ok-read_version.bytes x.recent
    c.in-Ok-read_version.ensures.reads

pub returns-in-Err-read_version-clause-hindered : goal.returns-in-Err-read_version-clause-hindered
returns-in-Err-read_version-clause-hindered g c =
    let s' = c.read_version.new.session in
    let x = c.in-Ok.ensures in
    last_unread c.args.keeper.now c.refresh_blob.new.keeper c.args.session.now c.refresh_blob.new.session s' c.in-Ok.version x.done x.refreshes.may c.refreshes_stay.ensures c.read_version.ensures.idles.goes_on c.in-Err-read_version.fault x.recent
    c.in-Err-read_version.ensures.reads

pub returns-in-Ok-read_version-clause-idles : goal.returns-in-Ok-read_version-clause-idles
returns-in-Ok-read_version-clause-idles g c = idles_both c.in-Ok.ensures.refreshes.idles c.read_version.ensures.idles

pub returns-in-Err-read_version-clause-idles : goal.returns-in-Err-read_version-clause-idles
returns-in-Err-read_version-clause-idles g c = idles_both c.in-Ok.ensures.refreshes.idles c.read_version.ensures.idles
