use Rattle.std.proofs.Common.{◌≡◌, sym, subst, ap, ◌∙◌, Result, List, ℕ, map, sum_by}
use Rattle.std.specs.Prelude.{IfErr}
use Rattle.faults.specs.Counts.{RoseBy}
use Rattle.request_form.specs.Replies.{fault_count}
use Rattle.request_form.specs.declared.form.Fault.{Fault}
use Rattle.client_session.specs.Losses.{IfPageLost, LostInRead}
use Rattle.client_session.specs.Sessions.{StoreState}
use Rattle.client_session.specs.Results.{read_reply}
use Rattle.read_board.specs.declared.standing.Way.{Way}
use Rattle.read_board.specs.declared.standing.Way.TheVariants as Ways
use Rattle.read_board.specs.Reads.{ByTurn, bytes_said}
use Rattle.read_board.proofs.Reading.{turn_read, same_bytes, lost_as}
use Rattle.read_board.proofs.standing.read_in_turn.Goals as goal

pub returns-clause-turn : goal.returns-clause-turn
returns-clause-turn g c =
    let x = c.read.ensures in
    subst (λ (said : Result (List ℕ × Way) Fault). ByTurn c.args.session.now c.args.blob c.args.version c.args.offset c.args.count said c.read.new.self c.args.steps.now c.read.new.steps) (sym c.by.ensures)
    (turn_read c.args.session.now c.read.new.self c.args.blob c.args.version c.args.offset c.args.count c.read.result c.args.steps.now c.read.new.steps x.answers x.stays x.steps x.no_step x.one_turn x.no_turn x.by_opened)

pub returns-clause-failed : goal.returns-clause-failed
returns-clause-failed g c =
    let s' = c.read.new.self in
    let before = map g.D.Door.faults c.args.session.now.doors in
    let now = map g.D.Door.faults s'.doors in
    let P : Fault → Type 0 = λ fault. IfPageLost fault (LostInRead s'.store s'.log c.args.blob c.args.version c.args.offset c.args.count before now) in
    let failed = subst (λ (store : StoreState). IfErr c.read.result (λ fault. IfPageLost fault (LostInRead store s'.log c.args.blob c.args.version c.args.offset c.args.count before now))) (sym c.read.ensures.goes_on.store) c.read.ensures.failed in
    subst (λ (said : Result (List ℕ × Way) Fault). IfErr said P) (sym c.by.ensures) (lost_as Ways.Turn c.read.result P failed)

pub returns-clause-faults : goal.returns-clause-faults
returns-clause-faults g c =
    let same : bytes_said c.by.result ≡ c.read.result = ap bytes_said c.by.ensures ∙ same_bytes Ways.Turn c.read.result in
    subst (λ (said : Result (List ℕ) Fault). RoseBy (fault_count (read_reply said)) (sum_by g.D.Door.faults c.args.session.now.doors) (sum_by g.D.Door.faults c.read.new.self.doors)) (sym same) c.read.ensures.faults
