use Rattle.std.proofs.Common.{ℕ, List, subst}
use Rattle.items.specs.BegunLine.{begun_text, PushesAll}
use Rattle.items.proofs.LineTaken.{run_comes_ok, run_comes_behind}
use Rattle.items.proofs.line.Line.take_run.Goals as goal

pub returns-then-not-self : goal.returns-then-not-self
returns-then-not-self g c =
    let l = c.self.inside in
    run_comes_ok g.B.Body.lining c.push_all.result g.B.Body.lining.limit g.B.Body.text l.begun c.push_all.new.begun l.length c.push_all.new.len l.returned c.args.self.now c.args.run.now c.self.view_is c.if-not-self.true
    c.self.invariant.begun_well c.push_all.ensures.begun c.requires.some c.requires.no_feed c.requires.no_return c.push_all.ensures.ok

pub returns : goal.returns
returns g c =
    let l = c.self.inside in
    let text = g.B.Body.text in
    let first = subst (λ (r : List ℕ). PushesAll g.B.Body.lining (begun_text text l.begun) r (begun_text text c.push_all-2.new.begun)) c.as_slice.ensures c.in_ok-push_all.ensures.ok in
    run_comes_behind g.B.Body.lining g.B.Body.lining.limit text l.begun c.push_all-2.new.begun c.push_all-3.new.begun l.length c.push_all-2.new.len c.push_all-3.new.len l.returned c.args.self.now c.args.run.now c.self.view_is c.if-not-self.false
    c.self.invariant.begun_well c.push_all-2.ensures.begun c.push_all-3.ensures.begun c.requires.some c.requires.no_feed c.requires.no_return first c.in_ok-push_all-2.ensures.ok
