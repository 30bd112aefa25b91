use Rattle.std.proofs.Common.{ap}
use Rattle.std.specs.Prelude.{Option, unwrap_or}
use Rattle.border_hints.specs.declared.border.Edge.{Edge}
use Rattle.border_hints.proofs.Edges.{at_first, at_last}
use Rattle.border_hints.proofs.border.Borders.edge.Goals as goal

pub returns-then-page-self-clause-knows : goal.returns-then-page-self-clause-knows
returns-then-page-self-clause-knows c =
    let i = c.self.inside in
    at_first i.page_size i.touch i.first i.last c.args.self.now c.args.page c.self.view_is c.if-page-self.true

pub returns-in-Some-clause-knows : goal.returns-in-Some-clause-knows
returns-in-Some-clause-knows c =
    let i = c.self.inside in
    at_last i.page_size i.touch i.first i.last c.args.self.now c.args.page c.self.view_is c.in-Some.last c.requires c.if-page-self.false (ap (λ (o : Option Edge). unwrap_or o i.first) c.in-Some.is)

pub returns-in-Some-clause-few : goal.returns-in-Some-clause-few
returns-in-Some-clause-few c = rw c.in-Some.is at c.self.invariant.3

pub returns-in-None-clause-knows : goal.returns-in-None-clause-knows
returns-in-None-clause-knows c =
    let i = c.self.inside in
    at_last i.page_size i.touch i.first i.last c.args.self.now c.args.page c.self.view_is i.first c.requires c.if-page-self.false (ap (λ (o : Option Edge). unwrap_or o i.first) c.in-None.is)
