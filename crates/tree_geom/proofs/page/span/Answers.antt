use Rattle.std.proofs.Common.{◌≡◌, ℕ, ◌*◌, ◌%◌, ◌^◌, ◌≤◌, arith, refl, ap, sym, subst, ◌∙◌}
use Rattle.tree_geom.specs.Geometry.{span_of, height_of, IsPageSize}
use Rattle.tree_geom.proofs.Spans.{span_some, span_none, span_holds}
use Rattle.tree_geom.proofs.Pages.{span_fits}
use Rattle.tree_geom.proofs.Shifts.{size_is}
use Rattle.tree_geom.proofs.page.span.Goals as goal

pub returns-then-size-eq0-clause-is : goal.returns-then-size-eq0-clause-is
returns-then-size-eq0-clause-is c = let e : c.args.size ≡ 0 = c.if-size-eq0.true in rw e (sym (span_none c.args.p))

pub returns-clause-least : goal.returns-clause-least
returns-clause-least c some = (c.height.result, c.height.ensures.least, size_is _ _ c.args.p c.height.result c.bytes.ensures.is refl c.bytes.ensures.bounds.1 c.height.ensures.bound)

-- the page's bytes, shifted by the height, are the span
span_is : (p page n h : ℕ) → page ≡ p → page ≤ 1048576 → h ≡ height_of p n → h ≤ 38 → 1 ≤ n → page * 2 ^ h % 2 ^ 64 ≡ span_of p n
span_is p page n h same few is low some = size_is page p p h same refl few low ∙ ap (λ j. p * 2 ^ j) is ∙ sym (span_some p n some)

pub returns-clause-is : goal.returns-clause-is
returns-clause-is c = span_is c.args.p c.bytes.result c.args.size c.height.result c.bytes.ensures.is c.bytes.ensures.bounds.1 c.height.ensures.is c.height.ensures.bound (omega arith)

pub returns-clause-holds : goal.returns-clause-holds
returns-clause-holds c = rw (returns-clause-is c) (span_holds c.args.p c.args.size (omega (arith, c.bytes.ensures.is, c.bytes.ensures.bounds)))

pub returns-clause-fits : goal.returns-clause-fits
returns-clause-fits c = rw (returns-clause-is c) (span_fits c.args.p c.args.size (let P : ℕ → Type 0 = λ n. IsPageSize n in subst P c.bytes.ensures.is c.bytes.ensures.power) c.requires)
