use Rattle.std.proofs.Common.{◌≡◌, ◌∙◌, ap, sym, rules}
use Rattle.read_board.specs.Fronts.{FrontState}
use Rattle.read_board.specs.Refreshes.{latest_of}
use Rattle.read_board.specs.Boards.{front_of}
use Rattle.read_board.proofs.Kept.{published, of_store_as}
use Rattle.read_board.proofs.keeper.Keeper.publish.Goals as goal

pub new-chart-requires-clause-of_store : goal.new-chart-requires-clause-of_store
new-chart-requires-clause-of_store g c =
    let i = c.self.inside in
    of_store_as i.author c.again.result i.on.items c.in_ok-on.on.items (c.again.ensures ∙ c.front.ensures) (c.in_ok-on.ensures ∙ c.as_slice.ensures.value) c.self.invariant.of_store

pub invariant_of-self : goal.invariant_of-self
invariant_of-self g c =
    let i = c.self.inside in
    let chart = front_of c.replace_with-shown.new.dest.desk.shown.value in
    let chart_is : chart ≡ i.author = search rules in
    published i.author i.shown c.again-then-shown.result (front_of i.writer.desk.shown.value) chart i.on.items c.self.invariant (c.again-then-shown.ensures ∙ c.front-then-shown.ensures) chart_is

pub new-chart-requires-clause-latest : goal.new-chart-requires-clause-latest
new-chart-requires-clause-latest g c =
    c.in_ok-on.ensures ∙ (c.as_slice.ensures.value ∙ (c.self.invariant.latest ∙ ap (λ (f : FrontState). latest_of f.list) (sym (c.again.ensures ∙ c.front.ensures))))

pub returns-then-shown-clause-published : goal.returns-then-shown-clause-published
returns-then-shown-clause-published g c = ap (λ (f : FrontState). f.list) (c.again-then-shown.ensures ∙ c.front-then-shown.ensures) ∙ ap (λ s. s.all) c.self.view_is

pub returns-else-shown-clause-published : goal.returns-else-shown-clause-published
returns-else-shown-clause-published g c = ap (λ s. s.shown) c.self.view_is
