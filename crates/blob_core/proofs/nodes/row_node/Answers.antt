use Rattle.std.proofs.Common.{◌≡◌, ℕ, ◌+◌, ◌/◌, ◌≤◌, arith, ap}
use Rattle.tree_geom.specs.declared.range.Range.{Range}
use Rattle.tree_geom.specs.Geometry.{page_range}
use Rattle.blob_core.proofs.Rowing.{VersionStands, version_stands, even_size, page_of}
use Rattle.blob_core.proofs.nodes.row_node.Goals as goal
use Rattle.blob_core.proofs.nodes.row_node.Goals.{After-page_bytes_stay}

stands : (c : After-page_bytes_stay) → VersionStands c.args.p c.args.blob.now c.args.log.now c.args.version c.args.range
stands c = version_stands c.page_bytes_stay.ensures.extents c.requires.log c.requires.has

pub row_leaf-requires-clause-has : goal.row_leaf-requires-clause-has
row_leaf-requires-clause-has c =
    let pos : 1 ≤ c.args.p = omega (arith, c.bytes.ensures.bounds.0, c.bytes.ensures.is) in
    let size : c.args.range.size ≡ c.args.p = omega (arith, c.if-range-bytes.true, c.bytes.ensures.is) in
    let page : c.args.range ≡ page_range c.args.p (c.args.range.offset / c.args.p) = page_of c.args.p c.args.range pos c.requires.has.aligned size in
    rw (c.bytes-then-range-bytes.ensures.is, ← page) c.requires.has

pub size_at-requires : goal.size_at-requires
size_at-requires c = (stands (goal.at.size_at-requires c).After-page_bytes_stay).within

pub span_stands-requires : goal.span_stands-requires
span_stands-requires c = omega (arith, c.size_at.ensures, (stands (goal.at.span_stands-requires c).After-page_bytes_stay).small)

pub halves-requires-clause-even : goal.halves-requires-clause-even
halves-requires-clause-even c =
    let pos : 1 ≤ c.args.p = omega (arith, c.bytes.ensures.bounds.0, c.bytes.ensures.is) in
    even_size c.args.p c.args.range pos c.requires.has.aligned (λ same. omega (arith, same, c.if-range-bytes.false, c.bytes.ensures.is))

pub halves-requires-clause-fits : goal.halves-requires-clause-fits
halves-requires-clause-fits c = (stands (goal.at.halves-requires-clause-fits c).After-page_bytes_stay).ends c.size_at.result c.size_at.ensures c.span_stands.ensures.fits

pub newest-requires-clause-within : goal.newest-requires-clause-within
newest-requires-clause-within c = (stands (goal.at.newest-requires-clause-within c).After-page_bytes_stay).within

pub newest-requires-2-clause-within : goal.newest-requires-2-clause-within
newest-requires-2-clause-within c = (stands (goal.at.newest-requires-2-clause-within c).After-page_bytes_stay).within

pub newest-requires-clause-fits : goal.newest-requires-clause-fits
newest-requires-clause-fits c =
    let E : Range → ℕ = λ r. r.offset + r.size in
    omega (arith, (stands (goal.at.newest-requires-clause-fits c).After-page_bytes_stay).ends c.size_at.result c.size_at.ensures c.span_stands.ensures.fits, ap E c.halves.ensures.lower)

pub newest-requires-2-clause-fits : goal.newest-requires-2-clause-fits
newest-requires-2-clause-fits c =
    let E : Range → ℕ = λ r. r.offset + r.size in
    omega (arith, (stands (goal.at.newest-requires-2-clause-fits c).After-page_bytes_stay).ends c.size_at.result c.size_at.ensures c.span_stands.ensures.fits, ap E c.halves.ensures.upper)
