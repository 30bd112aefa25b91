use Rattle.std.proofs.Common.{◌≤◌, ap, subst, List, length, arith}
use mathlib.Core.List.{IsPrefix}
use Rattle.read_board.specs.declared.refresh.Refresh.{Refresh}
use Rattle.read_board.proofs.Fronts.{prefix_shorter, prefix_as}
use Rattle.read_board.proofs.book.Front.tie.Goals as goal

pub returns-clause-this : goal.returns-clause-this
returns-clause-this c less =
    let i = c.self.inside in
    let o = c.other.inside in
    let both = c.learn.new.self.log in
    let mine = ap (λ s. s.list) c.self.view_is in
    let theirs = ap (λ s. s.list) c.other.view_is in
    let this : IsPrefix i.seen.log both = subst (λ (l : List Refresh). IsPrefix l both) (ap (λ s. s.log) c.again-both.ensures) c.learn.ensures.2 in
    let less' : length i.seen.log ≤ length o.seen.log = omega (arith, less, ap length mine, ap length theirs) in
    prefix_as mine theirs (prefix_shorter i.seen.log o.seen.log both this c.learn.ensures.3 less')

pub returns-clause-that : goal.returns-clause-that
returns-clause-that c less =
    let i = c.self.inside in
    let o = c.other.inside in
    let both = c.learn.new.self.log in
    let mine = ap (λ s. s.list) c.self.view_is in
    let theirs = ap (λ s. s.list) c.other.view_is in
    let this : IsPrefix i.seen.log both = subst (λ (l : List Refresh). IsPrefix l both) (ap (λ s. s.log) c.again-both.ensures) c.learn.ensures.2 in
    let less' : length o.seen.log ≤ length i.seen.log = omega (arith, less, ap length mine, ap length theirs) in
    prefix_as theirs mine (prefix_shorter o.seen.log i.seen.log both c.learn.ensures.3 this less')
