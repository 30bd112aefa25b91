use Rattle.std.proofs.Common.{◌∙◌, ap, rules, List}
use Rattle.read_board.specs.declared.refresh.Refresh.{Refresh}
use Rattle.read_board.specs.Refreshes.{place}
use Rattle.read_board.proofs.Latest.{finds_none, finds, finds_older}
use Rattle.read_board.proofs.chart.Chart.find.Goals as goal

pub returns-then-at-len-clause-found : goal.returns-then-at-len-clause-found
returns-then-at-len-clause-found c =
    let i = c.self.inside in
    let is = c.place_of-at.ensures.place ∙ ap (λ (s : List Refresh). place c.args.blob s) c.as_slice.ensures.value in
    rw (← c.self.view_is) (finds_none c.args.blob c.args.version i.front.list i.on.items c.place_of-at.result c.self.invariant.0 is (search rules))

pub returns-then-version-clause-found : goal.returns-then-version-clause-found
returns-then-version-clause-found c =
    let i = c.self.inside in
    let is = c.place_of-at.ensures.place ∙ ap (λ (s : List Refresh). place c.args.blob s) c.as_slice.ensures.value in
    rw (← c.self.view_is) (finds c.args.blob c.args.version i.front.list i.on.items c.place_of-at.result c.self.invariant.0 is c.index-on.result.now (search rules) c.index-on.ensures (search rules))

pub returns-else-version-clause-found : goal.returns-else-version-clause-found
returns-else-version-clause-found c =
    let i = c.self.inside in
    let is = c.place_of-at.ensures.place ∙ ap (λ (s : List Refresh). place c.args.blob s) c.as_slice.ensures.value in
    rw (← c.self.view_is) (finds_older c.args.blob c.args.version i.front.list i.on.items c.place_of-at.result c.self.invariant.0 is c.index-on.result.now (search rules) c.index-on.ensures (search rules))
