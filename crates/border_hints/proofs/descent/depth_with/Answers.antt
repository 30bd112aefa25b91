use Rattle.std.proofs.Common.{◌≡◌, ℕ, ◌+◌, ◌%◌, suc, arith, ap, sym, ◌∙◌, Bool, true, false}
use Rattle.tree_geom.specs.declared.touch.Touch.{Touch}
use Rattle.tree_geom.specs.Geometry.{tree_range, page_range, meets_of}
use Rattle.tree_geom.specs.Laws.{PagesAlign}
use Rattle.range_log.specs.Depths.{fold_number}
use Rattle.border_hints.proofs.Depths.{after_miss, after_hit}
use Rattle.border_hints.proofs.descent.depth_with.Goals as goal

-- whether the update touches the page
tested : PagesAlign → (p : ℕ) (u : Touch) (i : ℕ) (test value : Bool) → test ≡ meets_of p u (tree_range p 0 i) → test ≡ value → meets_of p u (page_range p i) ≡ value
tested align p u i test value met is = ap (meets_of p u) (align p i) ∙ sym met ∙ is

pub returns-then-not-reaches : goal.returns-then-not-reaches
returns-then-not-reaches c = λ p pos.
    let u = c.args.touch.now in
    after_miss p u c.args.page c.args.depth (tested c.ranges_align.ensures.pages p u c.args.page c.reaches.result false (c.reaches.ensures p pos) c.if-not-reaches.true)

pub returns-then-leaves_open : goal.returns-then-leaves_open
returns-then-leaves_open c = λ p pos.
    let u = c.args.touch.now in
    let more : c.args.depth + 1 ≡ suc c.args.depth = omega arith in
    c.deeper.ensures.is
    ∙ ap (λ n. n % fold_number) more
    ∙ sym (after_hit p u c.args.page c.args.depth true (tested c.ranges_align.ensures.pages p u c.args.page c.reaches.result true (c.reaches.ensures p pos) c.if-not-reaches.false)
    (sym c.leaves_open.ensures ∙ c.if-leaves_open.true))

pub returns-else-leaves_open : goal.returns-else-leaves_open
returns-else-leaves_open c = λ p pos.
    let u = c.args.touch.now in
    sym (after_hit p u c.args.page c.args.depth false (tested c.ranges_align.ensures.pages p u c.args.page c.reaches.result true (c.reaches.ensures p pos) c.if-not-reaches.false)
    (sym c.leaves_open.ensures ∙ c.if-leaves_open.false))
