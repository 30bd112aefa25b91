use Rattle.std.proofs.Common.{◌≡◌, ◌<◌, List, length, Some, refl, ◌∙◌, subst, arith}
use Rattle.std.specs.Prelude.{slice_get}
use Rattle.std.proofs.lemmas.Option.{slice_get_read}
use Rattle.client_session.specs.Tickets.{OpenUpdate, HoldsNone, IsVersionAt}
use Rattle.client_session.proofs.Finding.{version_first, no_version}
use Rattle.client_session.proofs.held.Tickets.find_version.Goals as goal

pub returns-then-version : goal.returns-then-version
returns-then-version c =
    let xs = c.deref-open-items.result.now in
    let i = c.loop-index.index in
    let e : xs ≡ c.args.self.now = c.deref-open-items.ensures.value ∙ c.self.view_is in
    let lt : i < length xs = omega arith in
    let at : slice_get xs i ≡ Some c.open-item.result = slice_get_read xs (length xs) i c.open-item.result refl lt c.open-item.is in
    let blob : c.open-item.result.ticket.blob ≡ c.args.blob = cc in
    let version : c.open-item.result.ticket.version ≡ c.args.version = cc in
    subst (λ (os : List OpenUpdate). IsVersionAt os c.args.blob c.args.version i) e
    (version_first xs c.args.blob c.args.version i c.open-item.result at blob version c.loop-index.invariant)

pub returns : goal.returns
returns c =
    let xs = c.deref-open-items.result.now in
    let e : xs ≡ c.args.self.now = c.deref-open-items.ensures.value ∙ c.self.view_is in
    let upto : length xs ≡ c.loop-index.index = omega arith in
    subst (λ (os : List OpenUpdate). HoldsNone os c.args.blob c.args.version) e
    (no_version xs c.args.blob c.args.version (λ k d lt. c.loop-index.invariant k d (omega arith)))
