use Rattle.std.proofs.Common.{◌≡◌, ◌∙◌, ◌+◌, ◌*◌, ℕ, List, ◌∷◌, ◌++◌, length, take, get_or, ap, arith}
use Rattle.frame_wire.specs.Said.{field, fields}
use Rattle.items.specs.BegunFrame.{frame_part}
use Rattle.frame_wire.proofs.ReplyLemmas.{numbers_more, framed_numbers}
use Rattle.frame_wire.proofs.head.numbers_frame.Goals as goal

pub loop-number-preserved : goal.loop-number-preserved
loop-number-preserved c =
    let ns = c.args.numbers.now in
    let n = 1 + 8 * length ns in
    let before = c.loop-number.invariant in (
      c.add.ensures.front
          ∙ ap (λ (l : List ℕ). l ++ field (get_or ns c.loop-number.number-index 0)) before.0
          ∙ numbers_more n c.args.operation c.loop-number.number-index ns c.loop-number-test.true,
      omega (arith, c.add.ensures.length, before.1),
    )

pub returns-clause-frame : goal.returns-clause-frame
returns-clause-frame c =
    let ns = c.args.numbers.now in
    let all : c.loop-number.number-index ≡ length ns = omega arith in
    c.loop-number.invariant.0 ∙ ap (λ (i : ℕ). frame_part (1 + 8 * length ns) (c.args.operation ∷ fields (take i ns))) all ∙ framed_numbers c.args.operation ns
