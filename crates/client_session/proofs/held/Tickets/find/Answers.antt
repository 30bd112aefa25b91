use Rattle.std.proofs.Common.{◌≡◌, ◌<◌, List, length, None, Some, refl, ◌∙◌, subst, arith}
use Rattle.std.specs.Prelude.{slice_get}
use Rattle.std.proofs.lemmas.Option.{slice_get_read}
use Rattle.request_form.specs.Session.{ticket_at}
use Rattle.client_session.specs.Tickets.{OpenUpdate, tickets_of, IsHeldAt}
use Rattle.client_session.proofs.Finding.{found_first, ticket_at-none}
use Rattle.client_session.proofs.held.Tickets.find.Goals as goal

pub returns-then-number : goal.returns-then-number
returns-then-number c =
    let xs = c.deref-open-items.result.now in
    let i = c.loop-index.index in
    let e : xs ≡ c.args.self.now = c.deref-open-items.ensures.value ∙ c.self.view_is in
    let lt : i < length xs = omega arith in
    let at : slice_get xs i ≡ Some c.open-item.result = slice_get_read xs (length xs) i c.open-item.result refl lt c.open-item.is in
    let n : c.open-item.result.number ≡ c.args.number = cc in
    subst (λ (os : List OpenUpdate). IsHeldAt os c.args.number i) e (found_first xs c.args.number i c.open-item.result at n c.loop-index.invariant)

pub returns : goal.returns
returns c =
    let xs = c.deref-open-items.result.now in
    let e : xs ≡ c.args.self.now = c.deref-open-items.ensures.value ∙ c.self.view_is in
    let upto : length xs ≡ c.loop-index.index = omega arith in
    subst (λ (os : List OpenUpdate). ticket_at (tickets_of os) c.args.number ≡ None) e
    (ticket_at-none xs c.args.number (λ k d lt. c.loop-index.invariant k d (omega arith)))
