use Rattle.std.proofs.Common.{◌^◌, arith, ap, ◌∙◌}
use Rattle.std.proofs.lemmas.Nat.{one_shl}
use Rattle.node_store.specs.Shapes.{RowShape}
use Rattle.node_store.proofs.shape.Shape.page_size.Goals as goal

pub returns-clause-is : goal.returns-clause-is
returns-clause-is c =
    one_shl c.from.result 64 (omega (arith, c.from.ensures, c.self.invariant.1)) ∙ ap (λ k. 2 ^ k) c.from.ensures ∙ ap (λ (s : RowShape). s.page_size) c.self.view_is

pub returns-clause-power : goal.returns-clause-power
returns-clause-power c = (
  c.from.result,
  one_shl c.from.result 64 (omega (arith, c.from.ensures, c.self.invariant.1)),
  omega (arith, c.from.ensures, c.self.invariant.0),
  omega (arith, c.from.ensures, c.self.invariant.1),
)
