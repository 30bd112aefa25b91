use Rattle.std.proofs.Common.{◌≡◌, ◌∙◌, ap, subst, ◌+◌, length, List, arith}
use Rattle.std.specs.Prelude.{sum_by}
use Rattle.std.specs.Arc.{arc_value}
use Rattle.boxcar.specs.Table.{Shelves}
use Rattle.snapshot.specs.Versions.{Version}
use Rattle.tree_weaver.specs.Woven.{IsWoven}
use Rattle.client_session.proofs.Finished.{not_woven_by, risen_by}
use Rattle.client_session.proofs.Losses.{weave_lost}
use Rattle.std.proofs.Common.{inl, inr}
use Rattle.client_session.proofs.Untouched.{plain_woven}
use Rattle.client_session.proofs.finishing.woven_or_why.Goals as goal

pub returns-in-Ok-Some-clause-woven : goal.returns-in-Ok-Some-clause-woven
returns-in-Ok-Some-clause-woven g c =
    let f = c.args.shared.now.fixed in
    subst (λ (n : List Shelves). IsWoven n f.houses c.args.ticket.now (arc_value c.in-Ok-Some.row)) c.nodes.ensures
    ((rw c.in-Ok-Some.field-0-is at c.in-Ok-Some.ensures.woven) f.houses c.requires.here.pages)

pub returns-in-Err-woven-clause-why : goal.returns-in-Err-woven-clause-why
returns-in-Err-woven-clause-why g c =
    let t = c.args.ticket.now in
    let published : c.version-published.result ≡ length t.snapshot.rows = c.version-published.ensures.count ∙ ap (λ (s : Version). length s.rows) c.hints.ensures.snapshot in
    let ready : length t.snapshot.rows + 1 ≡ t.version = omega (arith, published, c.version-version.ensures.version, c.version-version.ensures.stands.version, c.if-published-version.false) in
    rw c.fault_of_weaving.ensures (not_woven_by t c.in-Err-woven.fault ready c.in-Err-woven.ensures.page)

pub returns-in-Err-woven-clause-risen : goal.returns-in-Err-woven-clause-risen
returns-in-Err-woven-clause-risen g c =
    rw c.fault_of_weaving.ensures
    (risen_by c.in-Err-woven.fault (sum_by g.D.Door.faults c.args.doors.now) (sum_by g.D.Door.faults c.weave_anew-woven.new.doors) c.in-Err-woven.ensures.sum_never_falls c.in-Err-woven.ensures.counted)

pub returns-in-Err-woven-clause-failed : goal.returns-in-Err-woven-clause-failed
returns-in-Err-woven-clause-failed g c =
    rw c.fault_of_weaving.ensures (weave_lost c.in-Err-woven.fault _ (rw (← c.loads.ensures.providers, ← c.loads.ensures.replicas) c.in-Err-woven.ensures.failed))

pub returns-in-Ok-Some-clause-knows : goal.returns-in-Ok-Some-clause-knows
returns-in-Ok-Some-clause-knows g c = inl (rw c.in-Ok-Some.field-0-is at c.in-Ok-Some.ensures.none_anew)

pub returns-in-Ok-clause-knows : goal.returns-in-Ok-clause-knows
returns-in-Ok-clause-knows g c =
    let t = c.args.ticket.now in
    let published : c.version-published.result ≡ length t.snapshot.rows = c.version-published.ensures.count ∙ ap (λ (s : Version). length s.rows) c.hints.ensures.snapshot in
    let next : length t.snapshot.rows + 1 ≡ t.version = omega (arith, published, c.version-version.ensures.version, c.version-version.ensures.stands.version, c.if-published-version.false) in
    inr next

pub returns-in-Err-woven-clause-untouched : goal.returns-in-Err-woven-clause-untouched
returns-in-Err-woven-clause-untouched g c = rw c.fault_of_weaving.ensures (plain_woven c.in-Err-woven.fault)
