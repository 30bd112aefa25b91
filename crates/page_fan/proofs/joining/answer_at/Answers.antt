use Rattle.std.proofs.Common.{◌-◌, ◌<◌, ℕ, List, arith, length}
use Rattle.page_fan.specs.declared.stand.PutReply.{PutReply}
use Rattle.page_fan.specs.declared.stand.Stand.{Stand}
use Rattle.page_fan.proofs.Owing.{owed_next}
use Rattle.page_fan.proofs.Rises.{none_falls}
use Rattle.page_fan.proofs.Trays.{one_has, all_have, count_at}
use Rattle.page_fan.proofs.joining.answer_at.Goals as goal

pub returns-clause-answer : goal.returns-clause-answer
returns-clause-answer g c = λ before all.
    let faults : Stand g.row.D.Denot → ℕ = λ s. g.D.Door.faults s.door in
    let tray : Stand g.row.D.Denot → List PutReply = λ s. s.tray.items in
    let stands = c.args.stands.now in
    let served = c.requires.served in
    let within : c.args.put.provider - 1 < length stands = omega (arith, served.0, served.1) in
    let has = one_has faults tray c.args.houses.now c.args.p c.args.buffer.now before stands c.args.put.provider c.index-stands-put.result served.0 within c.index-stands-put.is all in
    rw (count_at faults stands (c.args.put.provider - 1) c.answer.new.self within) ((rw (← c.index-stands-put.is) at c.answer.ensures.answer) _ has)

pub returns-clause-replies : goal.returns-clause-replies
returns-clause-replies g c = λ before all.
    let faults : Stand g.row.D.Denot → ℕ = λ s. g.D.Door.faults s.door in
    let tray : Stand g.row.D.Denot → List PutReply = λ s. s.tray.items in
    let stands = c.args.stands.now in
    let served = c.requires.served in
    let within : c.args.put.provider - 1 < length stands = omega (arith, served.0, served.1) in
    let has = one_has faults tray c.args.houses.now c.args.p c.args.buffer.now before stands c.args.put.provider c.index-stands-put.result served.0 within c.index-stands-put.is all in
    all_have faults tray c.args.houses.now c.args.p c.args.buffer.now before stands c.args.put.provider c.answer.new.self served.0 within ((rw (← c.index-stands-put.is) at c.answer.ensures.replies) _ has) all

pub returns-clause-none_fell : goal.returns-clause-none_fell
returns-clause-none_fell g c =
    let faults : Stand g.row.D.Denot → ℕ = λ s. g.D.Door.faults s.door in
    none_falls faults c.args.stands.now (c.args.put.provider - 1) c.index-stands-put.result c.answer.new.self c.index-stands-put.is (rw (← c.index-stands-put.is) at c.answer.ensures.never_falls)

pub returns-clause-owed : goal.returns-clause-owed
returns-clause-owed g c = λ done rest first owed.
    let served = c.requires.served in
    let within : c.args.put.provider - 1 < length c.args.stands.now = omega (arith, served.0, served.1) in
    owed_next g.D.Door.called done rest c.args.put first c.args.stands.now c.index-stands-put.result c.answer.new.self served.0 within c.index-stands-put.is (rw (← c.index-stands-put.is) at c.answer.ensures.owed) owed
