use Rattle.std.proofs.Common.{sym, ◌∙◌, ap, subst, List}
use Rattle.client_session.proofs.HeldFinishes.{repair_settled, repair_open}
use Rattle.client_session.proofs.Losses.{settled_lost}
use Rattle.std.proofs.lemmas.Bool.{false≢true}
use Rattle.client_session.specs.Tickets.{OpenUpdate, WithoutVersion}
use Rattle.client_session.specs.Sessions.{SessionState}
use Rattle.client_session.proofs.Memory.{settled_memory}
use Rattle.client_session.proofs.session.Session.repair.Goals as goal

pub returns-then-is_settled-clause-failed : goal.returns-then-is_settled-clause-failed
returns-then-is_settled-clause-failed g c = settled_lost c.finish_anew-finished.result _ (sym c.is_settled.ensures ∙ c.if-is_settled.true)

pub returns-then-is_settled-clause-answers : goal.returns-then-is_settled-clause-answers
returns-then-is_settled-clause-answers g c =
    let e = c.finish_anew-finished.ensures in
    repair_settled c.args.self.now c.finish_anew-finished.new.self e.rest c.finish_anew-finished.result c.args.blob c.args.version e.finishing c.let_go.new.self
    (sym c.is_settled.ensures ∙ c.if-is_settled.true) c.let_go.ensures.rest c.let_go.ensures.left

pub returns-else-is_settled-clause-answers : goal.returns-else-is_settled-clause-answers
returns-else-is_settled-clause-answers g c =
    let e = c.finish_anew-finished.ensures in
    repair_open c.args.self.now c.finish_anew-finished.new.self e.rest c.finish_anew-finished.result c.args.blob c.args.version e.finishing (sym c.is_settled.ensures ∙ c.if-is_settled.false)

pub returns-then-is_settled-clause-held_stay : goal.returns-then-is_settled-clause-held_stay
returns-then-is_settled-clause-held_stay g c = λ open_. absurd (false≢true (sym open_ ∙ (sym c.is_settled.ensures ∙ c.if-is_settled.true)))

pub returns-else-is_settled-clause-held_stay : goal.returns-else-is_settled-clause-held_stay
returns-else-is_settled-clause-held_stay g c = λ open_. ap (λ (x : SessionState g.row.D.Denot). x.held) c.finish_anew-finished.ensures.rest

pub returns-then-is_settled-clause-let_go : goal.returns-then-is_settled-clause-let_go
returns-then-is_settled-clause-let_go g c = λ settled.
    subst (λ (os : List OpenUpdate). WithoutVersion os c.args.blob c.args.version c.let_go.new.self.held) (ap (λ (x : SessionState g.row.D.Denot). x.held) c.finish_anew-finished.ensures.rest) c.let_go.ensures.others_stay

pub returns-else-is_settled-clause-let_go : goal.returns-else-is_settled-clause-let_go
returns-else-is_settled-clause-let_go g c = λ settled. absurd (false≢true (sym (sym c.is_settled.ensures ∙ c.if-is_settled.false) ∙ settled))

pub returns-then-is_settled-clause-memory : goal.returns-then-is_settled-clause-memory
returns-then-is_settled-clause-memory g c = settled_memory c.finish_anew-finished.result _ (sym c.is_settled.ensures ∙ c.if-is_settled.true)
