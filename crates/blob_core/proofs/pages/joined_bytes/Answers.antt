use Rattle.std.proofs.Common.{◌≡◌, ◌+◌, ◌<◌, List, ℕ, length, arith, sym, ◌∙◌}
use Rattle.blob_core.proofs.Cutting.{joined_start, joined_next, joined_end, not_there}
use Rattle.blob_core.proofs.pages.joined_bytes.Goals as goal
use Rattle.blob_core.proofs.pages.joined_bytes.Goals.{else-i-numbers-via-then-i-numbers+else-len-bytes, else-i-numbers-via-else-i-numbers}

pub loop-i-init : goal.loop-i-init
loop-i-init c = rw c.new-bytes.ensures.items (joined_start c.args.p c.args.pages.now c.args.numbers.now (sym c.is_empty.ensures ∙ c.if-is_empty.false))

pub loop-i-preserved : goal.loop-i-preserved
loop-i-preserved c =
    let page : List ℕ = c.in-Some.page.now in
    let whole : c.loop-i.i + 1 < length c.args.numbers.now → length page ≡ c.args.p = λ lt.
    elim c.else-i-numbers.branch [ else-i-numbers-via-then-i-numbers+else-len-bytes w ↦ omega arith | else-i-numbers-via-else-i-numbers w ↦ omega arith ] in
    rw (c.in_ok-extend_from_slice.ensures.items, c.as_slice.ensures)
    (joined_next c.args.p c.args.pages.now c.args.numbers.now c.loop-i.i c.loop-i.bytes.items page c.loop-i.invariant c.loop-i-test.true c.in-Some.ensures whole)

pub returns : goal.returns
returns c =
    let end = joined_end c.args.p c.args.pages.now c.args.numbers.now c.loop-i.i c.loop-i.bytes.items c.loop-i.invariant c.loop-i-test.false in
    (end.0, c.of.ensures ∙ end.1)

pub returns-in_default : goal.returns-in_default
returns-in_default c = not_there c.args.p c.args.pages.now c.args.numbers.now c.loop-i.i c.loop-i.bytes.items c.loop-i.invariant c.loop-i-test.true c.in_default.ensures
