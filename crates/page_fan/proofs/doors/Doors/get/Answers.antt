use Rattle.std.proofs.Common.{◌≡◌, ◌-◌, ◌<◌, arith, length, map, get_or, ap, sym, ◌∙◌}
use Rattle.std.proofs.lemmas.List.{get_or-map, length-map, map-set}
use Rattle.page_fan.specs.declared.stand.Stand.{Stand}
use Rattle.page_fan.proofs.Answered.{OnGetFailed-weaken, OnGot-given}
use Rattle.page_fan.proofs.Rises.{none_falls, others_stay, rises_at}
use Rattle.page_fan.proofs.Using.{called_at, stays_true_at}
use Rattle.page_fan.proofs.doors.Doors.get.Goals as goal

pub returns-clause-none_fell : goal.returns-clause-none_fell
returns-clause-none_fell g c =
    let door : Stand g.row.D.Denot → g.row.D.Denot = λ s. s.door in
    let stands = c.self.inside.stands.items in
    let served = rw (← c.self.view_is) at c.requires.served in
    let same = c.provider-provider.ensures in
    let index = c.provider-provider.result - 1 in
    let within : index < length stands = omega (arith, same, served.0, served.1, length-map stands door) in
    let here : c.index_mut-stand.result.now.door ≡ get_or (map door stands) index c.index_mut-stand.result.now.door = ap door c.index_mut-stand.ensures.value ∙ sym (get_or-map door stands index c.index_mut-stand.result.now _ within) in
    rw (← c.self.view_is, map-set door stands index _) (none_falls g.D.Door.faults (map door stands) index _ c.get.new.self here c.get.ensures.never_falls)

pub returns-clause-failed : goal.returns-clause-failed
returns-clause-failed g c =
    let door : Stand g.row.D.Denot → g.row.D.Denot = λ s. s.door in
    let stands = c.self.inside.stands.items in
    let served = rw (← c.self.view_is) at c.requires.served in
    let same = c.provider-provider.ensures in
    let index = c.provider-provider.result - 1 in
    let within : index < length stands = omega (arith, same, served.0, served.1, length-map stands door) in
    let here : c.index_mut-stand.result.now.door ≡ get_or (map door stands) index c.index_mut-stand.result.now.door = ap door c.index_mut-stand.ensures.value ∙ sym (get_or-map door stands index c.index_mut-stand.result.now _ within) in
    rw (← c.self.view_is, ← same, map-set door stands index _) (OnGetFailed-weaken _ _ (rises_at g.D.Door.faults (map door stands) index _ c.get.new.self (omega (arith, within, length-map stands door)) here) c.get.result c.get.ensures.failed)

pub returns-clause-others : goal.returns-clause-others
returns-clause-others g c =
    let door : Stand g.row.D.Denot → g.row.D.Denot = λ s. s.door in
    let stands = c.self.inside.stands.items in
    let served = rw (← c.self.view_is) at c.requires.served in
    let same = c.provider-provider.ensures in
    rw (← c.self.view_is, same, map-set door stands (c.args.page.now.spot.provider - 1) _) (others_stay g.D.Door.faults (map door stands) c.args.page.now.spot c.get.new.self served.0)

pub returns-clause-got : goal.returns-clause-got
returns-clause-got g c = λ t.
    let door : Stand g.row.D.Denot → g.row.D.Denot = λ s. s.door in
    let stands = c.self.inside.stands.items in
    let served = rw (← c.self.view_is) at c.requires.served in
    let same = c.provider-provider.ensures in
    let index = c.provider-provider.result - 1 in
    let within : index < length stands = omega (arith, same, served.0, served.1, length-map stands door) in
    let here : c.index_mut-stand.result.now.door ≡ get_or (map door stands) index c.index_mut-stand.result.now.door = ap door c.index_mut-stand.ensures.value ∙ sym (get_or-map door stands index c.index_mut-stand.result.now _ within) in
    let there = rw (← c.self.view_is, ← same) at t in
    let true_door : g.D.Door.is_true c.index_mut-stand.result.now.door = rw here (there c.index_mut-stand.result.now.door (omega (arith, within, length-map stands door))) in
    OnGot-given _ _ true_door c.get.result c.get.ensures.got

pub returns-clause-called : goal.returns-clause-called
returns-clause-called g c =
    let door : Stand g.row.D.Denot → g.row.D.Denot = λ s. s.door in
    let stands = c.self.inside.stands.items in
    let served = rw (← c.self.view_is) at c.requires.served in
    let same = c.provider-provider.ensures in
    let index = c.provider-provider.result - 1 in
    let within : index < length stands = omega (arith, same, served.0, served.1, length-map stands door) in
    let here : c.index_mut-stand.result.now.door ≡ get_or (map door stands) index c.index_mut-stand.result.now.door = ap door c.index_mut-stand.ensures.value ∙ sym (get_or-map door stands index c.index_mut-stand.result.now _ within) in
    rw (← c.self.view_is, ← same, map-set door stands index _) (called_at g.D.Door.called (map door stands) c.provider-provider.result _ c.get.new.self (omega (arith, same, served.0)) (omega (arith, within, length-map stands door)) here c.get.ensures.called)

pub returns-clause-stay_true : goal.returns-clause-stay_true
returns-clause-stay_true g c =
    let door : Stand g.row.D.Denot → g.row.D.Denot = λ s. s.door in
    let stands = c.self.inside.stands.items in
    let served = rw (← c.self.view_is) at c.requires.served in
    let same = c.provider-provider.ensures in
    let index = c.provider-provider.result - 1 in
    let within : index < length stands = omega (arith, same, served.0, served.1, length-map stands door) in
    let here : c.index_mut-stand.result.now.door ≡ get_or (map door stands) index c.index_mut-stand.result.now.door = ap door c.index_mut-stand.ensures.value ∙ sym (get_or-map door stands index c.index_mut-stand.result.now _ within) in
    rw (← c.self.view_is, map-set door stands index _) (stays_true_at g.D.Door.is_true (map door stands) index _ c.get.new.self (omega (arith, within, length-map stands door)) here c.get.ensures.truth_stays.0)
