use Rattle.std.proofs.Common.{◌≡◌, ℕ, ◌/◌, ◌<◌, ◌≤◌, arith, inl, inr, ap, sym, subst, ◌∙◌, Bool, false}
use Rattle.std.specs.Prelude.{IsTrue}
use Rattle.std.proofs.lemmas.Bool.{false≢true}
use Rattle.tree_geom.specs.declared.range.Range.{Range}
use Rattle.tree_geom.specs.Geometry.{page_range}
use Rattle.range_log.specs.Log.{newest_of}
use Rattle.border_hints.specs.Borders.{BorderLinks}
use Rattle.border_hints.proofs.Halves.{placed, page_numbered, IsPlaced, StandsBeside, first_side, last_side}
use Rattle.border_hints.proofs.border.Borders.of.Goals as goal
use Rattle.border_hints.proofs.border.Borders.of.Goals.{After-bytes-size, After-height-level}

-- what the test for a page says
paged : (range : Range) (bytes p page : ℕ) → bytes ≡ p → (range.size ≡ bytes) × (range.offset / bytes ≡ page) → (range.size ≡ p) × (range.offset / p ≡ page)
paged range bytes p page e is = let Q : ℕ → Type 0 = λ n. (range.size ≡ n) × (range.offset / n ≡ page) in subst Q e is

not_so : (b : Bool) (P : Type 0) → b ≡ false → (P → IsTrue b) → ¬ P
not_so b P e f x = false≢true (sym e ∙ f x)

not_page : (range : Range) (bytes p page : ℕ) (b : Bool) → bytes ≡ p → b ≡ false → ((range.size ≡ bytes) × (range.offset / bytes ≡ page) → IsTrue b) → ¬ ((range.size ≡ p) × (range.offset / p ≡ page))
not_page range bytes p page b e fails f =
    let Q : ℕ → Type 0 = λ n. ¬ ((range.size ≡ n) × (range.offset / n ≡ page)) in
    subst Q e (not_so b ((range.size ≡ bytes) × (range.offset / bytes ≡ page)) fails f)

-- where it stands that is no edge's page
standing : (c : After-height-level) → IsPlaced c.self.inside.page_size c.self.inside.touch c.args.range
standing c =
    let i = c.self.inside in
    let asked = rw (← c.self.view_is) at c.requires in
    let size = c.bytes-size.ensures.is in
    placed c.spans_hold.ensures.heights c.spans_hold.ensures.none c.spans_hold.ensures.some c.ranges_align.ensures.low c.ranges_align.ensures.high i.page_size i.touch c.args.range
    (omega (arith, c.bytes-size.ensures.bounds, size)) c.self.invariant.0
    (not_page c.args.range c.bytes-size.result i.page_size i.touch.first c.is_page.result size c.if-is_page.false c.is_page.ensures.1)
    (not_page c.args.range c.bytes-size.result i.page_size i.touch.last c.is_page-2.result size c.if-is_page-2.false c.is_page-2.ensures.1) asked

page_here : (c : After-bytes-size) (page : ℕ) (test : Bool) → (IsTrue test → (c.args.range.size ≡ c.bytes-size.result) × (c.args.range.offset / c.bytes-size.result ≡ page)) → IsTrue test
    → c.args.range ≡ page_range c.args.self.now.page_size page
page_here c page test says was =
    let i = c.self.inside in
    let asked = rw (← c.self.view_is) at c.requires in
    let is = paged c.args.range c.bytes-size.result i.page_size page c.bytes-size.ensures.is (says was) in
    page_numbered c.spans_hold.ensures.heights c.spans_hold.ensures.none c.spans_hold.ensures.some c.ranges_align.ensures.low c.ranges_align.ensures.high i.page_size page i.touch c.args.range
    (omega (arith, c.bytes-size.ensures.bounds, c.bytes-size.ensures.is)) c.self.invariant.0 asked is.0 is.1
    ∙ ap (λ (b : BorderLinks). page_range b.page_size page) c.self.view_is

pub leaf-requires : goal.leaf-requires
leaf-requires c = record { edge = inl (ap (λ (b : BorderLinks). b.touch.first) c.self.view_is) }

pub returns-then-is_page : goal.returns-then-is_page
returns-then-is_page c = λ log k are.
    let b = c.args.self.now in
    let here = page_here (goal.at.returns-then-is_page c).After-bytes-size c.self.inside.touch.first c.is_page.result c.is_page.ensures.0 c.if-is_page.true in
    c.leaf.ensures log k are ∙ ap (newest_of b.page_size log k) (sym here)

pub leaf-requires-then-is_page-2 : goal.leaf-requires-then-is_page-2
leaf-requires-then-is_page-2 c = record { edge = inr (ap (λ (b : BorderLinks). b.touch.last) c.self.view_is) }

pub returns-then-is_page-2 : goal.returns-then-is_page-2
returns-then-is_page-2 c = λ log k are.
    let b = c.args.self.now in
    let here = page_here (goal.at.returns-then-is_page-2 c).After-bytes-size c.self.inside.touch.last c.is_page-2.result c.is_page-2.ensures.0 c.if-is_page-2.true in
    c.leaf-then-is_page-2.ensures log k are ∙ ap (newest_of b.page_size log k) (sym here)

-- the sides, in the borders' own words
before : (c : After-height-level) → c.args.range.offset / c.bytes-size.result < c.self.inside.touch.first
    → StandsBeside c.args.self.now.page_size c.args.self.now.touch c.args.self.now.touch.first c.height-level.result c.args.range
before c lt =
    let i = c.self.inside in
    let P : BorderLinks → Type 0 = λ b. StandsBeside b.page_size b.touch b.touch.first c.height-level.result c.args.range in
    let B : ℕ → Type 0 = λ n. c.args.range.offset / n < i.touch.first in
    let size = c.bytes-size.ensures.is in
    subst P c.self.view_is
    (first_side c.spans_hold.ensures.heights i.page_size c.height-level.result i.touch c.args.range (omega (arith, c.bytes-size.ensures.bounds, size)) (standing c) c.height-level.ensures.is (subst B size lt))

behind : (c : After-height-level) → c.self.inside.touch.first ≤ c.args.range.offset / c.bytes-size.result
    → StandsBeside c.args.self.now.page_size c.args.self.now.touch c.args.self.now.touch.last c.height-level.result c.args.range
behind c le =
    let i = c.self.inside in
    let P : BorderLinks → Type 0 = λ b. StandsBeside b.page_size b.touch b.touch.last c.height-level.result c.args.range in
    let B : ℕ → Type 0 = λ n. i.touch.first ≤ c.args.range.offset / n in
    let size = c.bytes-size.ensures.is in
    subst P c.self.view_is
    (last_side c.spans_hold.ensures.heights i.page_size c.height-level.result i.touch c.args.range (omega (arith, c.bytes-size.ensures.bounds, size)) (standing c) c.height-level.ensures.is (subst B size le))

pub below-requires : goal.below-requires
below-requires c = (before (goal.at.below-requires c).After-height-level c.if-range-size.true).0

pub returns-then-range-size : goal.returns-then-range-size
returns-then-range-size c = λ log k are.
    let at = before (goal.at.returns-then-range-size c).After-height-level c.if-range-size.true in
    c.below.ensures log k are ∙ ap (newest_of c.args.self.now.page_size log k) (sym at.1)

pub above-requires : goal.above-requires
above-requires c = (behind (goal.at.above-requires c).After-height-level c.if-range-size.false).0

pub returns-else-range-size : goal.returns-else-range-size
returns-else-range-size c = λ log k are.
    let at = behind (goal.at.returns-else-range-size c).After-height-level c.if-range-size.false in
    c.above.ensures log k are ∙ ap (newest_of c.args.self.now.page_size log k) (sym at.1)
