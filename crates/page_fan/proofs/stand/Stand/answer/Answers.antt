use Rattle.std.proofs.Common.{◌≡◌, ◌+◌, ◌∷◌, length, arith, ap}
use Rattle.page_fan.proofs.Owing.{owed_head, owed_none}
use Rattle.page_fan.proofs.Replies.{replies_dropped, replies_later}
use Rattle.page_fan.proofs.stand.Stand.answer.Goals as goal
use Rattle.page_fan.proofs.stand.Stand.answer.Goals.{in_default-via-in-Some+else-pop_front-put, in_default-via-in_default}

pub returns-in-Some-clause-replies : goal.returns-in-Some-clause-replies
returns-in-Some-clause-replies g c = λ before h.
    rw c.pop_front.ensures.rest (replies_dropped c.args.houses.now c.args.p c.args.buffer.now c.args.put.provider before _ c.args.self.now.tray.items h)

pub returns-in_default-clause-replies : goal.returns-in_default-clause-replies
returns-in_default-clause-replies g c = λ before h.
    let rest = replies_dropped c.args.houses.now c.args.p c.args.buffer.now c.args.put.provider before _ c.args.self.now.tray.items h in
    let tray : c.put.new.self.tray.items ≡ c.pop_front.new.self.items = ap (λ t. t.items) c.put.ensures.tray in
    rw (tray, c.pop_front.ensures.rest) (replies_later c.args.houses.now c.args.p c.args.buffer.now c.args.put.provider before _ _ _ c.put.ensures.never_falls rest)

pub returns-in-Some-clause-owed : goal.returns-in-Some-clause-owed
returns-in-Some-clause-owed g c = λ done rest first owed.
    let was = c.args.self.now.tray.items in
    let tray = c.pop_front.new.self.items in
    let is : was ≡ c.in-Some.reply ∷ tray = c.in-Some.ensures.items in
    let head = owed_head c.args.put.at rest c.in-Some.reply was tray is owed.in_order in
    let more : done + length was ≡ done + 1 + length tray = let long = ap length is in omega (arith, long) in
    record { in_order = head.1; calls = rw more at owed.calls }

pub returns-in_default-clause-owed : goal.returns-in_default-clause-owed
returns-in_default-clause-owed g c = λ done rest first owed.
    let was = c.args.self.now.tray.items in
    elim c.in_default.branch [
      | in_default-via-in-Some+else-pop_front-put w ↦
          let is : was ≡ w.in-Some.reply ∷ c.pop_front.new.self.items = w.in-Some.ensures.items in
          let head = owed_head c.args.put.at rest w.in-Some.reply was c.pop_front.new.self.items is owed.in_order in
          absurd (w.if-pop_front-put.false head.0)
      | in_default-via-in_default w ↦
          let empty = rw w.in_default.is at c.pop_front.ensures.cases in
          let tray : c.put.new.self.tray.items ≡ c.pop_front.new.self.items = ap (λ t. t.items) c.put.ensures.tray in
          let none : length was ≡ 0 = omega (arith, c.args.self.now.tray.ok.0, empty.0) in
          let left : length c.put.new.self.tray.items ≡ 0 = rw tray (omega (arith, c.pop_front.new.self.ok.0, empty.1)) in
          let owes = owed_none g.D.Door.called done rest first c.args.self.now.door c.put.new.self.door was c.put.new.self.tray.items none left owed.calls c.put.ensures.called in
          record { in_order = owes.0; calls = owes.1 }
    ]
