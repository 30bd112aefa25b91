use Rattle.std.proofs.Common.{◌≡◌, ◌-◌, ◌<◌, ℕ, arith, length, map, get_or, set, ap, sym, ◌∙◌}
use Rattle.std.proofs.lemmas.List.{get_or-map}
use Rattle.page_fan.specs.declared.stand.Stand.{Stand}
use Rattle.page_fan.proofs.InTurn.{put_once}
use Rattle.page_fan.proofs.Rises.{none_falls}
use Rattle.page_fan.proofs.Trays.{count_at}
use Rattle.page_fan.proofs.putting.put_at.Goals as goal

pub returns-clause-answer : goal.returns-clause-answer
returns-clause-answer g c =
    let faults : Stand g.row.D.Denot → ℕ = λ s. g.D.Door.faults s.door in
    let stands = c.args.stands.now in
    let index = c.args.provider - 1 in
    let x = c.index-stands-provider.result in
    let y = c.put.new.self in
    let within : index < length stands = omega (arith, c.requires.served.0, c.requires.served.1) in
    let was : get_or (map faults stands) index 0 ≡ faults x = get_or-map faults stands index x 0 within ∙ ap faults (sym c.index-stands-provider.is) in
    let is : get_or (map faults (set stands index y)) index 0 ≡ faults y = count_at faults stands index y within in
    let put = c.put.ensures in
    rw (was, is) record { here = put.here; there = put.there; bytes = put.bytes; failed = rw (← c.index-stands-provider.is) at put.failed }

pub returns-clause-put_once : goal.returns-clause-put_once
returns-clause-put_once g c = λ at.
    let served = c.requires.served in
    let within : c.args.provider - 1 < length c.args.stands.now = omega (arith, served.0, served.1) in
    put_once g.D.Door.called c.args.provider at c.args.stands.now c.index-stands-provider.result c.put.new.self served.0 within c.index-stands-provider.is (rw (← c.index-stands-provider.is) at c.put.ensures.called)

pub returns-clause-none_fell : goal.returns-clause-none_fell
returns-clause-none_fell g c =
    let faults : Stand g.row.D.Denot → ℕ = λ s. g.D.Door.faults s.door in
    none_falls faults c.args.stands.now (c.args.provider - 1) c.index-stands-provider.result c.put.new.self c.index-stands-provider.is (rw (← c.index-stands-provider.is) at c.put.ensures.never_falls)
