use Rattle.std.proofs.Common.{◌≡◌, ℕ, ◌+◌, ◌*◌, ◌≤◌, arith, ap}
use Rattle.std.specs.Prelude.{max, min}
use Rattle.tree_geom.specs.Geometry.{page_range}
use Rattle.range_log.specs.Extents.{Extent, extent_at}
use Rattle.range_log.specs.Updates.{extents}
use Rattle.range_log.specs.Rows.{leaf_lo, leaf_hi, leaf_start, leaf_len}
use Rattle.blob_core.proofs.Rowing.{VersionStands, version_stands}
use Rattle.blob_core.proofs.leaves.own_part.Goals as goal
use Rattle.blob_core.proofs.leaves.own_part.Goals.{After-page_bytes_stay, After-min-high}

bounds_are : (p i at len size size' low high : ℕ) (x : Extent) → size ≡ p → size' ≡ p → at ≡ x.at → len ≡ x.len → low ≡ max at (i * size) → high ≡ min (at + len) (i * size + size')
    → (low ≡ leaf_lo p x i) × (high ≡ leaf_hi p x i)
bounds_are p i at len size size' low high x one two begin count lo hi =
    let end : (i + 1) * p ≡ i * p + p = omega arith in
    (rw (lo, begin, one), rw (hi, begin, count, one, two, end))

stands : (c : After-page_bytes_stay) → VersionStands c.args.p c.args.blob.now c.args.log.now c.args.version (page_range c.args.p c.args.page)
stands c = version_stands c.page_bytes_stay.ensures.extents c.requires.log c.requires.has

-- the part lies between the leaf's bounds
bounds : (c : After-min-high)
    → (c.max-low.result ≡ leaf_lo c.args.p (extent_at (extents c.args.blob.now.updates) c.args.version) c.args.page)
    × (c.min-high.result ≡ leaf_hi c.args.p (extent_at (extents c.args.blob.now.updates) c.args.version) c.args.page)
bounds c =
    bounds_are c.args.p c.args.page c.extent-at.result.0 c.extent-at.result.1 c.bytes.result c.bytes-2.result c.max-low.result c.min-high.result _ c.bytes.ensures.is c.bytes-2.ensures.is
    c.extent-at.ensures.at c.extent-at.ensures.len c.max-low.ensures c.min-high.ensures

-- and has some bytes, and no more than the page
part_fits : (c : After-min-high) → (1 ≤ leaf_len c.args.p (extent_at (extents c.args.blob.now.updates) c.args.version) c.args.page)
    × (leaf_start c.args.p (extent_at (extents c.args.blob.now.updates) c.args.version) c.args.page
    + leaf_len c.args.p (extent_at (extents c.args.blob.now.updates) c.args.version) c.args.page ≤ c.args.p)
part_fits c =
    let pos : 1 ≤ c.args.p = omega (arith, c.bytes.ensures.bounds.0, c.bytes.ensures.is) in
    let stand = (c.page_bytes_stay.ensures.extents c.args.blob.now.updates c.requires.log.replay).0 in
    let fit = c.leaves_fill.ensures.fit c.args.p c.args.version c.args.page (extents c.args.blob.now.updates) pos stand c.requires.has in
    (fit.0, fit.1)

pub span_stands-requires : goal.span_stands-requires
span_stands-requires c = omega (arith, c.size_at-whole.ensures, (stands (goal.at.span_stands-requires c).After-page_bytes_stay).small)

pub extent-at-requires : goal.extent-at-requires
extent-at-requires c = let v = stands (goal.at.extent-at-requires c).After-page_bytes_stay in record { version = (v.some, v.upto); count = v.count; sizes = v.sizes }

pub overflow_mul-begin : goal.overflow_mul-begin
overflow_mul-begin c = omega (arith, (stands (goal.at.overflow_mul-begin c).After-page_bytes_stay).ends c.size_at-whole.result c.size_at-whole.ensures c.span_stands.ensures.fits, ap (λ (n : ℕ). c.args.page * n) c.bytes.ensures.is)

pub overflow_add-end : goal.overflow_add-end
overflow_add-end c = omega (arith, (stands (goal.at.overflow_add-end c).After-page_bytes_stay).ends c.size_at-whole.result c.size_at-whole.ensures c.span_stands.ensures.fits, c.bytes-2.ensures.is, ap (λ (n : ℕ). c.args.page * n) c.bytes.ensures.is)

pub overflow_add-at : goal.overflow_add-at
overflow_add-at c = omega (arith, (stands (goal.at.overflow_add-at c).After-page_bytes_stay).inside, c.extent-at.ensures.at, c.extent-at.ensures.len)

pub overflow_sub-result-3 : goal.overflow_sub-result-3
overflow_sub-result-3 c =
    let here = (goal.at.overflow_sub-result-3 c).After-min-high in
    let are = bounds here in
    omega (arith, are.0, are.1, (part_fits here).0)

pub returns-clause-start : goal.returns-clause-start
returns-clause-start c =
    rw ((bounds (goal.at.returns-clause-start c).After-min-high).0, c.bytes.ensures.is)

pub returns-clause-from : goal.returns-clause-from
returns-clause-from c =
    rw ((bounds (goal.at.returns-clause-from c).After-min-high).0, c.extent-at.ensures.at)

pub returns-clause-len : goal.returns-clause-len
returns-clause-len c =
    let are = bounds (goal.at.returns-clause-len c).After-min-high in
    rw (are.0, are.1)

pub returns-clause-some : goal.returns-clause-some
returns-clause-some c =
    rw (returns-clause-len c) (part_fits (goal.at.returns-clause-some c).After-min-high).0

pub returns-clause-small : goal.returns-clause-small
returns-clause-small c = omega (arith, returns-clause-start c, returns-clause-len c, (part_fits (goal.at.returns-clause-small c).After-min-high).1)
