use Rattle.std.proofs.Common.{ℕ, arith, sym, ap, ◌∙◌}
use Rattle.page_node.specs.Grammar.{may_have}
use Rattle.node_door.proofs.Replies.{outside_by, may_not}
use Rattle.node_door.proofs.wire.begins_reply.Goals as goal

pub returns-then-length-eq0-clause-outside : goal.returns-then-length-eq0-clause-outside
returns-then-length-eq0-clause-outside c = λ _. outside_by c.args.length c.args.operation (omega (arith, c.ranges.length.fits)) (λ fields lengths few. absurd (omega (arith, c.if-length-eq0.true)))

pub returns-then-length-gt-MAX_FRAME-clause-outside : goal.returns-then-length-gt-MAX_FRAME-clause-outside
returns-then-length-gt-MAX_FRAME-clause-outside c = λ _. outside_by c.args.length c.args.operation (omega (arith, c.ranges.length.fits)) (λ fields lengths few. absurd (omega (arith, c.if-length-gt-MAX_FRAME.true)))

pub returns-clause-outside : goal.returns-clause-outside
returns-clause-outside c = λ not.
    outside_by c.args.length c.args.operation (omega (arith, c.ranges.length.fits))
    (λ fields lengths few. may_not c.args.operation fields (ap (λ (n : ℕ). may_have c.args.operation n) (omega arith) ∙ sym c.may_have.ensures ∙ not))
