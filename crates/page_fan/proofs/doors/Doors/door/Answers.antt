use Rattle.std.proofs.Common.{◌≡◌, ◌-◌, ◌<◌, ap, sym, ◌∙◌, refl, arith, length, map, get_or}
use Rattle.std.specs.Prelude.{Some, slice_get}
use Rattle.std.proofs.lemmas.List.{length-map, map-set, get_or-map}
use Rattle.page_fan.specs.declared.stand.Stand.{Stand}
use Rattle.page_fan.proofs.Rises.{get_within}
use Rattle.page_fan.proofs.doors.Doors.door.Goals as goal

pub returns : goal.returns
returns g c =
    let door : Stand g.row.D.Denot → g.row.D.Denot = λ s. s.door in
    let items = c.self.inside.stands.items in
    let index = c.args.provider - 1 in
    let served = rw (← c.self.view_is) at c.requires in
    let within : index < length (map door items) = omega (arith, served.0, served.1) in
    let here : get_or (map door items) index c.index_mut.result.now.door ≡ c.index_mut.result.now.door = get_or-map door items index c.index_mut.result.now _ (omega (arith, within, length-map items door)) ∙ ap door (sym c.index_mut.ensures.value) in
    let this : slice_get c.args.self.now index ≡ Some c.index_mut.result.now.door = rw (← c.self.view_is) (get_within (map door items) index _ within here) in
    ((refl, λ w. rw (← c.self.view_is) (map-set door items index (record { door = w; tray = c.index_mut.result.now.tray }))), record { writes_back = tt; this = this })
