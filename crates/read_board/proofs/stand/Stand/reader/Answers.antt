use Rattle.std.proofs.Common.{◌≡◌, Some, subst, sym}
use Rattle.std.specs.Prelude.{IfSome}
use Rattle.std.proofs.lemmas.List.Elements.{All-pop}
use Rattle.left_right.specs.Sides.{view}
use Rattle.read_board.specs.Fronts.{FrontState}
use Rattle.read_board.specs.Boards.{known}
use Rattle.read_board.proofs.stand.Stand.reader.Goals as goal

pub new-reader-requires-clause-known : goal.new-reader-requires-clause-known
new-reader-requires-clause-known g c =
    let i = c.self.inside in
    let left = All-pop (λ p. known (view p.place) ≡ Some i.front.board) i.places.items c.pop.new.self.items c.pop.result c.pop.ensures.items c.self.invariant.1 in
    subst (λ (f : FrontState). IfSome c.pop.result (λ p. known (view p.place) ≡ Some f.board)) (sym c.again.ensures) left.1

pub invariant_of-self : goal.invariant_of-self
invariant_of-self g c =
    let i = c.self.inside in
    let left = All-pop (λ p. known (view p.place) ≡ Some i.front.board) i.places.items c.pop.new.self.items c.pop.result c.pop.ensures.items c.self.invariant.1 in
    (c.self.invariant.0, left.0)
