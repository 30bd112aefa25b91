use Rattle.std.proofs.lemmas.Result.{IfOk-weaker}
use Rattle.page_fan.proofs.Failing.{lost_counted}
use Rattle.page_fan.proofs.Rises.{sum_never_falls}
use Rattle.page_fan.proofs.storing.store.Goals as goal

pub returns-clause-bytes : goal.returns-clause-bytes
returns-clause-bytes g c = IfOk-weaker c.put_pages.result _ _ (λ pages h. h.bytes) c.put_pages.ensures.stored

pub returns-clause-page_size : goal.returns-clause-page_size
returns-clause-page_size g c = IfOk-weaker c.put_pages.result _ _ (λ pages h. h.size) c.put_pages.ensures.stored

pub returns-clause-cut : goal.returns-clause-cut
returns-clause-cut g c = IfOk-weaker c.put_pages.result _ _ (λ pages h. h.cut) c.put_pages.ensures.stored

pub returns-clause-here : goal.returns-clause-here
returns-clause-here g c = IfOk-weaker c.put_pages.result _ _ (λ pages h. h.here) c.put_pages.ensures.stored

pub returns-clause-replicas : goal.returns-clause-replicas
returns-clause-replicas g c = IfOk-weaker c.put_pages.result _ _ (λ pages h. h.replicas) c.put_pages.ensures.stored

pub returns-clause-counted : goal.returns-clause-counted
returns-clause-counted g c =
    lost_counted g.D.Door.faults c.args.houses.now c.args.p c.args.buffer.now c.args.placements.now c.args.doors.now c.put_pages.new.doors c.put_pages.result
    c.put_pages.ensures.none_fell c.requires.served c.requires.enough c.put_pages.ensures.first_failed

pub returns-clause-sum_never_falls : goal.returns-clause-sum_never_falls
returns-clause-sum_never_falls g c = sum_never_falls g.D.Door.faults c.args.doors.now c.put_pages.new.doors c.put_pages.ensures.none_fell
