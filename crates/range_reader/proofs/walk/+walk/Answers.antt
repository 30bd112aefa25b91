use Rattle.std.proofs.Common.{rules, ◌≡◌, ℕ, ◌+◌, ◌-◌, ◌*◌, ◌/◌, ◌^◌, ◌<◌, ◌≤◌, ◌++◌, length, arith, ap, sym, ◌∙◌, subst}
use Rattle.std.specs.Prelude.{slice_range}
use Rattle.std.proofs.lemmas.Result.{err_from_is_err_and}
use Rattle.tree_geom.specs.declared.range.Range.{Range}
use Rattle.tree_geom.specs.Geometry.{page_range, tree_range}
use Rattle.range_log.specs.Visits.{backs_of}
use Rattle.snapshot.specs.Versions.{HasNodeFor}
use Rattle.tree_geom.proofs.Spans.{page_pos}
use Rattle.range_reader.specs.Reading.{falls, newest_in, bytes_at, content_of, backs_in}
use Rattle.range_reader.proofs.Parts.{range_join}
use Rattle.range_reader.proofs.Counting.{risen_since}
use Rattle.range_reader.proofs.Walking.{PageStep, InnerStep, InnerNode, page_of_range, page_step, inner_node, halved, backs_join, failed_front, failed_back, err_then, ok_then}
use Rattle.range_reader.proofs.walk.+walk.Given.{Over}
use Rattle.range_reader.proofs.walk.+walk.Goals.{Then-range-size, After-halves, After-split_at_mut-front}
use Rattle.range_reader.proofs.walk.+walk.Goals as goal

-- ---- at a page
at_page : (g : Over) (t : ℕ) (c : Then-range-size g t) → c.args.range ≡ page_range c.args.source.now.view.now.page_size (c.args.range.offset / c.bytes-size.result)
at_page g t c =
    let p = c.args.source.now.view.now.page_size in
    let size = c.bytes-size.ensures.is ∙ c.page_size.ensures in
    page_of_range p c.args.range (page_pos p c.stands.ensures.page_size) c.requires.has.aligned (c.if-range-size.true ∙ size) ∙ ap (λ n. page_range p (c.args.range.offset / n)) (sym size)

step : (g : Over) (t : ℕ) (c : Then-range-size g t) → PageStep c.args.source.now.view.now c.args.range c.args.from (length c.args.out.now)
step g t c =
    let s = c.args.source.now.view.now in
    page_step s c.args.range c.args.from (length c.args.out.now) (page_pos s.page_size c.stands.ensures.page_size) c.requires.has.aligned
    (c.if-range-size.true ∙ (c.bytes-size.ensures.is ∙ c.page_size.ensures)) c.requires.begins c.requires.ends c.requires.some

pub fill_page-requires-clause-newest : goal.fill_page-requires-clause-newest
fill_page-requires-clause-newest g t c = c.requires.newest ∙ ap (newest_in c.args.source.now.view.now) (at_page g t (goal.at.fill_page-requires-clause-newest g t c).Then-range-size)

pub fill_page-requires-clause-has : goal.fill_page-requires-clause-has
fill_page-requires-clause-has g t c =
    let H : Range → Type 0 = λ r. HasNodeFor c.args.source.now.view.now c.args.at r in
    subst H (at_page g t (goal.at.fill_page-requires-clause-has g t c).Then-range-size) c.requires.has

pub returns-in-true-clause-bytes : goal.returns-in-true-clause-bytes
returns-in-true-clause-bytes g t c =
    λ all.
    let s = c.args.source.now.view.now in
    let page = c.args.range.offset / c.bytes-size.result in
    let o : c.args.range.offset ≡ page * s.page_size = ap (λ (x : Range). x.offset) (at_page g t (goal.at.returns-in-true-clause-bytes g t c).Then-range-size) in
    let sum : page * s.page_size + (c.args.from - c.args.range.offset) ≡ c.args.from = omega (arith, o, c.requires.begins) in
    c.fill_page.ensures.bytes all c.in-true.is ∙ ap (λ n. bytes_at s n (length c.args.out.now)) sum

pub returns-in-true-clause-steps : goal.returns-in-true-clause-steps
returns-in-true-clause-steps g t c =
    λ h q first last e before after.
    let s = c.args.source.now.view.now in
    let step' = step g t (goal.at.returns-in-true-clause-steps g t c).Then-range-size in
    let d = ap (λ n. backs_of s.page_size (falls s) (length s.rows) (c.args.range.offset / n)) (c.bytes-size.ensures.is ∙ c.page_size.ensures) in
    omega (arith, c.fill_page.ensures.steps, d, step'.backs, step'.visits c.visited_are_few.ensures.leaf h q first last e before after)

pub returns-in-false-clause-steps : goal.returns-in-false-clause-steps
returns-in-false-clause-steps g t c =
    λ h q first last e before after.
    let s = c.args.source.now.view.now in
    let step' = step g t (goal.at.returns-in-false-clause-steps g t c).Then-range-size in
    let d = ap (λ n. backs_of s.page_size (falls s) (length s.rows) (c.args.range.offset / n)) (c.bytes-size.ensures.is ∙ c.page_size.ensures) in
    omega (arith, c.fill_page.ensures.steps, d, step'.backs, step'.visits c.visited_are_few.ensures.leaf h q first last e before after)

pub returns-in-false-clause-failed : goal.returns-in-false-clause-failed
returns-in-false-clause-failed g t c =
    let step' = step g t (goal.at.returns-in-false-clause-failed g t c).Then-range-size in
    let d = ap (λ n. c.args.range.offset / n) (c.bytes-size.ensures.is ∙ c.page_size.ensures) in
    record { from = omega (arith, step'.begins, d); upto = omega (arith, step'.ends, d); failed = c.fill_page.ensures.failed c.in-false.is }

-- ---- at an inner node
node : (g : Over) (t : ℕ) (c : After-halves g t) → InnerNode c.args.source.now.view.now c.args.range c.halves.result.0 c.halves.result.1 c.links-left.result.0 c.links-left.result.1
node g t c =
    inner_node c.links_step.ensures.step c.page_bytes_stay.ensures.extents c.args.source.now.view.now c.stands.ensures c.args.at _ _ c.bytes-size.result c.args.range _ _
    c.requires.newest c.requires.has c.if-range-size.false (c.bytes-size.ensures.is ∙ c.page_size.ensures) c.halves.ensures.lower c.halves.ensures.upper
    (omega (arith, c.requires.begins, c.requires.valid, c.requires.some)) c.links-left.ensures.left c.links-left.ensures.right

inner : (g : Over) (t : ℕ) (c : After-halves g t) (h q first last : ℕ) → let p = c.args.source.now.view.now.page_size in c.args.range ≡ tree_range p h q → first * p ≤ c.args.from
    → c.args.from + length c.args.out.now ≤ (last + 1) * p → InnerStep p h q first last c.args.range
inner g t c h q first last e before after =
    (node g t c).step c.visited_are_few.ensures.inner h q first last c.args.from (length c.args.out.now) e before after c.requires.begins c.requires.ends c.requires.some

pub halves-requires-clause-even : goal.halves-requires-clause-even
halves-requires-clause-even g t c =
    halved c.args.source.now.view.now c.stands.ensures c.args.at c.bytes-size.result c.args.range c.requires.has c.if-range-size.false (c.bytes-size.ensures.is ∙ c.page_size.ensures)

pub walk-requires : goal.walk-requires
walk-requires g t c = λ κs lives.
    let half = (node g t (goal.at.walk-requires g t c).After-halves).left_newest in
    (search rules, (lives.0, (lives.1, (search rules, (search rules, (search rules, (half.0, (half.1, (search rules, (search rules, (search rules, (search rules, search rules))))))))))))

pub returns-then-end-high-clause-steps : goal.returns-then-end-high-clause-steps
returns-then-end-high-clause-steps g t c =
    λ h q first last e before after.
    let i = inner g t (goal.at.returns-then-end-high-clause-steps g t c).After-halves h q first last e before after in
    omega (arith, c.walk.ensures.steps i.below (2 * q) first last (c.halves.ensures.lower ∙ i.left) before after, i.visits, c.links-left.ensures.step)

pub walk-requires-then-high-from : goal.walk-requires-then-high-from
walk-requires-then-high-from g t c = λ κs lives.
    let of = node g t (goal.at.walk-requires-then-high-from g t c).After-halves in
    let half = of.right_newest (omega (arith, c.requires.valid, c.requires.some, c.if-high-from.true)) in
    let high = c.halves.result.1 in
    let ends : c.args.from + length c.args.out.now ≤ high.offset + high.size = omega (arith, of.ends, c.requires.ends) in
    (search rules, (lives.0, (lives.1, (search rules, (search rules, (search rules, (half.0, (half.1, (search rules, (ends, (search rules, (search rules, search rules))))))))))))

pub returns-then-high-from-clause-steps : goal.returns-then-high-from-clause-steps
returns-then-high-from-clause-steps g t c =
    λ h q first last e before after.
    let i = inner g t (goal.at.returns-then-high-from-clause-steps g t c).After-halves h q first last e before after in
    omega (arith, c.walk-then-high-from.ensures.steps i.below (2 * q + 1) first last (c.halves.ensures.upper ∙ i.right) before after, i.visits, c.links-left.ensures.step)

-- ---- where bytes of both halves are read
-- the part before the upper half, and the part from there on
cut : (g : Over) (t : ℕ) (c : After-split_at_mut-front g t) → let mid = c.halves.result.1.offset in let end = c.args.from + length c.args.out.now in
    (c.args.from + length c.split_at_mut-front.result.0.now ≡ mid) × (mid + length c.split_at_mut-front.result.1.now ≡ end) × (c.args.from < mid) × (mid < end)
cut g t c =
    let front = c.split_at_mut-front.ensures.front_len in
    let back = c.split_at_mut-front.ensures.back_len in
    (omega (arith, front, c.if-high-from.false), omega (arith, front, back, c.if-high-from.false, c.if-end-high.false), omega (arith, c.if-high-from.false), omega (arith, c.if-end-high.false))

-- the backs of both parts
backs : (g : Over) (t : ℕ) (c : After-split_at_mut-front g t) (h q first last : ℕ) → let s = c.args.source.now.view.now in InnerStep s.page_size h q first last c.args.range
    → backs_in s c.args.from (length c.split_at_mut-front.result.0.now) + backs_in s c.halves.result.1.offset (length c.split_at_mut-front.result.1.now)
    ≡ backs_in s c.args.from (length c.args.out.now)
backs g t c h q first last i =
    let s = c.args.source.now.view.now in
    let p = s.page_size in
    let n = length c.args.out.now in
    let m = length c.split_at_mut-front.result.0.now in
    let k = length c.split_at_mut-front.result.1.now in
    let mid = c.halves.result.1.offset in
    let parts = cut g t c in
    let turn = ap (λ (x : Range). x.offset) (c.halves.ensures.upper ∙ i.right) in
    let at : mid ≡ (2 * q + 1) * 2 ^ i.below * p = turn ∙ (let w : (2 * q + 1) * (p * 2 ^ i.below) ≡ (2 * q + 1) * 2 ^ i.below * p = omega arith in w) in
    let one : m ≡ mid - c.args.from = omega (arith, parts.0) in
    let two : k ≡ c.args.from + n - mid = omega (arith, parts.1) in
    let join = backs_join s c.args.from mid n ((2 * q + 1) * 2 ^ i.below) (page_pos p c.stands.ensures.page_size) at parts.2 parts.3 in
    let short = ap (λ j. backs_in s c.args.from j) one in
    let other = ap (λ j. backs_in s mid j) two in
    omega (arith, join, short, other)

pub walk-requires-2 : goal.walk-requires-2
walk-requires-2 g t c = λ κs lives.
    let half = (node g t (goal.at.walk-requires-2 g t c).After-halves).left_newest in
    (search rules, (lives.0, (lives.1, (search rules, (search rules, (search rules, (half.0, (half.1, (search rules, (search rules, (search rules, (search rules, search rules))))))))))))

pub returns-in_err-walk-clause-steps : goal.returns-in_err-walk-clause-steps
returns-in_err-walk-clause-steps g t c =
    λ h q first last e before after.
    let at = goal.at.returns-in_err-walk-clause-steps g t c in
    let parts = cut g t at.After-split_at_mut-front in
    let i = inner g t at.After-halves h q first last e before after in
    let f = c.walk-2.ensures.steps i.below (2 * q) first last (c.halves.ensures.lower ∙ i.left) before (omega (arith, after, parts)) in
    omega (arith, f, i.visits, c.links-left.ensures.step, backs g t at.After-split_at_mut-front h q first last i)

pub returns-in_err-walk-clause-failed : goal.returns-in_err-walk-clause-failed
returns-in_err-walk-clause-failed g t c =
    let s = c.args.source.now.view.now in
    let parts = cut g t (goal.at.returns-in_err-walk-clause-failed g t c).After-split_at_mut-front in
    let p = err_from_is_err_and c.from_residual.result c.from_residual.ensures.1 in
    rw (p.1, p.2) (failed_front s c.args.from _ (length c.args.out.now) _ _ _ (page_pos s.page_size c.stands.ensures.page_size) (omega (arith, parts)) c.in_err-walk.ensures.failed)

pub walk-requires-3 : goal.walk-requires-3
walk-requires-3 g t c = λ κs lives.
    let at = goal.at.walk-requires-3 g t c in
    let parts = cut g t at.After-split_at_mut-front in
    let of = node g t at.After-halves in
    let half = of.right_newest (omega (arith, c.requires.valid, c.requires.some, c.if-end-high.false)) in
    let high = c.halves.result.1 in
    let ends : high.offset + length c.split_at_mut-front.result.1.now ≤ high.offset + high.size = omega (arith, of.ends, parts, c.requires.ends) in
    (search rules, (lives.0, (lives.1, (search rules, (search rules, (search rules, (half.0, (half.1, (search rules, (ends, (search rules, (search rules, search rules))))))))))))

pub returns-clause-bytes : goal.returns-clause-bytes
returns-clause-bytes g t c =
    λ all.
    let text = content_of c.args.source.now.view.now in
    let n = length c.args.out.now in
    let mid = c.halves.result.1.offset in
    let parts = cut g t (goal.at.returns-clause-bytes g t c).After-split_at_mut-front in
    let one = c.in_ok-walk.ensures.bytes all ∙ ap (λ k. slice_range text c.args.from k) parts.0 in
    ok_then c.walk-3.result _ _
    (λ two.
    ap (λ l. l ++ c.walk-3.new.out) one ∙ ap (λ l. slice_range text c.args.from mid ++ l) (two ∙ ap (λ k. slice_range text mid k) parts.1)
    ∙ range_join text c.args.from mid (c.args.from + n) (omega (arith, parts)) (omega (arith, parts)))
    (c.walk-3.ensures.bytes (c.in_ok-walk.ensures.truth_stays all))

pub returns-clause-steps : goal.returns-clause-steps
returns-clause-steps g t c =
    λ h q first last e before after.
    let at = goal.at.returns-clause-steps g t c in
    let parts = cut g t at.After-split_at_mut-front in
    let i = inner g t at.After-halves h q first last e before after in
    let f = c.walk-2.ensures.steps i.below (2 * q) first last (c.halves.ensures.lower ∙ i.left) before (omega (arith, after, parts)) in
    let k = c.walk-3.ensures.steps i.below (2 * q + 1) first last (c.halves.ensures.upper ∙ i.right) (omega (arith, before, parts)) (omega (arith, after, parts)) in
    omega (arith, f, k, i.visits, c.links-left.ensures.step, backs g t at.After-split_at_mut-front h q first last i)

pub returns-clause-failed : goal.returns-clause-failed
returns-clause-failed g t c =
    let s = c.args.source.now.view.now in
    let parts = cut g t (goal.at.returns-clause-failed g t c).After-split_at_mut-front in
    err_then c.walk-3.result _ _
    (λ i f. failed_back s c.args.from c.halves.result.1.offset (length c.args.out.now) _ _ _ _ i (page_pos s.page_size c.stands.ensures.page_size) (omega (arith, parts)) parts.1
    c.walk-2.ensures.kept.none_fell f)
    c.walk-3.ensures.failed

pub returns-clause-counted : goal.returns-clause-counted
returns-clause-counted g t c = err_then c.walk-3.result _ _ (λ i f. risen_since _ _ _ c.walk-2.ensures.kept.total f) c.walk-3.ensures.counted

pub returns-clause-truth_stays : goal.returns-clause-truth_stays
returns-clause-truth_stays g t c = λ all. c.walk-3.ensures.truth_stays (c.in_ok-walk.ensures.truth_stays all)
