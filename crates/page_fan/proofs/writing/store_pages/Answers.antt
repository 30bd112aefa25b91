use Rattle.std.proofs.Common.{◌≤◌, ◌*◌, length, arith}
use Rattle.page_fan.proofs.Placements.{all_served, pages_enough}
use Rattle.page_fan.proofs.WherePut.{said_put}
use Rattle.page_fan.proofs.writing.store_pages.Goals as goal

pub store-requires-clause-served : goal.store-requires-clause-served
store-requires-clause-served g c = λ _ _. all_served _ _ _ _ c.requires.served c.in-Ok.ensures.spread

pub returns-clause-put : goal.returns-clause-put
returns-clause-put g c =
    let e = c.store.ensures in
    let p = c.args.p in
    let placed = c.in-Ok.placements in
    let room : length c.args.bytes.now ≤ length placed * p = grind (arith, pages_enough, c.div_ceil-count.ensures, c.bytes.ensures, c.in-Ok.ensures.pages) in
    said_put g.D.Door.called g.D.Door.faults c.args.loads.now.providers c.args.loads.now.replicas p c.args.doors.now c.store.new.doors placed c.args.bytes.now c.store.result
    (omega (arith, c.bytes.ensures.is, c.bytes.ensures.bounds)) room c.in-Ok.ensures.spread e.bytes e.cut e.called e.replicas
