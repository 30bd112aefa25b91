use Rattle.std.proofs.Common.{◌*◌, ◌<◌, ℕ, subst, length}
use Rattle.std.specs.Prelude.{map}
use Rattle.page_fan.specs.Fault.{OnPageFault}
use Rattle.client_session.proofs.Losses.{first_lost}
use Rattle.client_session.proofs.Numbered.{not_stored, ahead_refused}
use Rattle.std.specs.Prelude.{Option}
use Rattle.blob_model.specs.declared.call.Refusal.{Refusal}
use Rattle.client_session.specs.Numbering.{LookedAhead}
use Rattle.client_session.proofs.Untouched.{plain_stored}
use Rattle.client_session.proofs.updating.prepare.Goals as goal

pub returns-in-Err-clause-refused : goal.returns-in-Err-clause-refused
returns-in-Err-clause-refused g c =
    let f = c.args.shared.now.fixed in
    let v = c.args.pass.now in
    let w = c.look_ahead.new.pass in
    let bytes = c.args.asked.bytes.now in
    let page : OnPageFault c.in-Err.fault (λ i. f.page_size * i < length bytes) =
    subst (λ (p : ℕ). OnPageFault c.in-Err.fault (λ i. p * i < length bytes)) c.page_size.ensures c.in-Err.ensures.page in
    rw c.fault_of_storing.ensures
    (not_stored f v.caller v.seen w.seen c.args.looks_first c.args.asked.blob c.args.asked.place bytes c.in-Err.fault
    (subst (λ (o : Option Refusal). LookedAhead f v.caller v.seen c.args.looks_first c.args.asked.blob c.args.asked.place bytes o w.seen) c.in_default.is c.look_ahead.ensures.looked) page)

pub returns-in-Err-clause-first_lost : goal.returns-in-Err-clause-first_lost
returns-in-Err-clause-first_lost g c =
    rw c.fault_of_storing.ensures
    (first_lost c.args.shared.now c.args.asked.bytes.now (map g.D.Door.faults c.args.doors.now) (map g.D.Door.faults c.store_bytes.new.doors) c.in-Err.fault
    (rw (← c.page_size.ensures, ← c.loads.ensures.providers, ← c.loads.ensures.replicas, ← c.houses.ensures.houses) c.in-Err.ensures.first_lost))

pub returns-in-Some-clause-refused : goal.returns-in-Some-clause-refused
returns-in-Some-clause-refused g c =
    let f = c.args.shared.now.fixed in
    let v = c.args.pass.now in
    let w = c.look_ahead.new.pass in
    rw c.of.ensures
    (ahead_refused f v.caller v.seen w.seen c.args.looks_first c.args.asked.blob c.args.asked.place c.args.asked.bytes.now c.in-Some.refusal
    (subst (λ (o : Option Refusal). LookedAhead f v.caller v.seen c.args.looks_first c.args.asked.blob c.args.asked.place c.args.asked.bytes.now o w.seen) c.in-Some.is c.look_ahead.ensures.looked))

pub returns-in-Err-clause-untouched : goal.returns-in-Err-clause-untouched
returns-in-Err-clause-untouched g c = rw c.fault_of_storing.ensures (plain_stored c.in-Err.fault)

pub returns-in-Ok-clause-put : goal.returns-in-Ok-clause-put
returns-in-Ok-clause-put g c = rw (← c.loads.ensures.providers, ← c.loads.ensures.replicas) c.in-Ok.ensures.put
