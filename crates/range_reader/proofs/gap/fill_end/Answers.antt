use Rattle.std.proofs.Common.{ℕ, ◌+◌, ◌<◌, ◌≤◌, arith, refl, inl, inr}
use Rattle.std.proofs.lemmas.Bool.{cases_lt}
use Rattle.range_reader.specs.Reading.{page_in}
use Rattle.range_reader.proofs.Taking.{lens}
use Rattle.range_reader.proofs.Narrowing.{part_ends, narrowed_front, narrowed_end}
use Rattle.range_reader.proofs.gap.fill_end.Goals as goal

pub take_leaf-requires-clause-low : goal.take_leaf-requires-clause-low
take_leaf-requires-clause-low g c = omega (arith, c.max-from.ensures)

pub take_leaf-requires-clause-high : goal.take_leaf-requires-clause-high
take_leaf-requires-clause-high g c =
    let met = c.requires.met in
    let ends = part_ends c.args.begin c.max-from.result c.min-to.result c.args.out.now (omega (arith, c.max-from.ensures, c.requires.low))
    (omega (arith, c.max-from.ensures, c.min-to.ensures, c.end.ensures, met.0, met.1, c.requires.some)) (omega (arith, c.min-to.ensures, c.requires.high)) in
    omega (arith, ends, c.min-to.ensures, c.end.ensures)

pub returns-then-from-gap-clause-lacks : goal.returns-then-from-gap-clause-lacks
returns-then-from-gap-clause-lacks g c = λ b from to has.
    let parts = c.requires.leaf in
    let len = lens c.args.source.now.view.now c.args.leaf.version c.args.leaf.page c.args.leaf.parts parts in
    omega (arith, from, to, has.1, parts.start, len, c.min-to.ensures, c.end.ensures)

pub returns-then-from-gap-clause-narrowed : goal.returns-then-from-gap-clause-narrowed
returns-then-from-gap-clause-narrowed g c = λ all.
    let met = c.requires.met in
    narrowed_front (page_in c.args.source.now.view.now c.args.leaf.version c.args.leaf.page) c.args.begin c.max-from.result c.min-to.result c.args.out.now c.take_leaf.new.out
    (omega (arith, c.max-from.ensures, c.requires.low))
    (omega (arith, c.max-from.ensures, c.min-to.ensures, c.end.ensures, met.0, met.1, c.requires.some))
    (omega (arith, c.min-to.ensures, c.requires.high))
    c.take_leaf.auto.out (c.take_leaf.ensures.bytes all c.if-not-take_leaf.false)
    c.args.gap.low c.args.gap.high c.min-to.result c.args.gap.high (omega (arith, c.if-from-gap.true)) refl refl (omega (arith, c.min-to.ensures))

-- the leaf's bytes reach up to the end of the gap, where they don't begin with it
to_end : (low high start end : ℕ) → (low < start → end < high → ⊥) → low < start → high ≤ end
to_end low high start end apart less = elim (cases_lt end high) [ inl short ↦ absurd (apart less short) | inr long ↦ long ]

pub returns-clause-lacks : goal.returns-clause-lacks
returns-clause-lacks g c = λ b from to has. omega (arith, to, has.0, c.requires.leaf.start, c.max-from.ensures, c.if-from-gap.false)

pub returns-clause-narrowed : goal.returns-clause-narrowed
returns-clause-narrowed g c = λ all.
    let met = c.requires.met in
    let later : c.args.gap.low < c.args.leaf.parts.start = omega (arith, c.max-from.ensures, c.if-from-gap.false) in
    let long =
    to_end c.args.gap.low c.args.gap.high c.args.leaf.parts.start (c.args.leaf.parts.start + (c.args.leaf.parts.first.len + c.args.leaf.parts.second.len))
    (λ x y. c.requires.end (x, y)) later in
    narrowed_end (page_in c.args.source.now.view.now c.args.leaf.version c.args.leaf.page) c.args.begin c.max-from.result c.min-to.result c.args.out.now c.take_leaf.new.out
    (omega (arith, c.max-from.ensures, c.requires.low))
    (omega (arith, c.max-from.ensures, c.min-to.ensures, c.end.ensures, met.0, met.1, c.requires.some))
    (omega (arith, c.min-to.ensures, c.requires.high))
    c.take_leaf.auto.out (c.take_leaf.ensures.bytes all c.if-not-take_leaf.false)
    c.args.gap.low c.args.gap.high c.args.gap.low c.max-from.result (omega (arith, long, c.min-to.ensures, c.end.ensures)) refl refl (omega (arith, c.max-from.ensures))
