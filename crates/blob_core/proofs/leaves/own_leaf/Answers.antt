use Rattle.std.proofs.Common.{◌≡◌, ℕ, ◌+◌, List, arith, ap, ◌∙◌}
use Rattle.blob_model.specs.Content.{Update}
use Rattle.tree_geom.specs.declared.range.Range.{Range}
use Rattle.tree_geom.specs.declared.touch.Touch.{Touch}
use Rattle.tree_geom.specs.Geometry.{page_range}
use Rattle.range_log.specs.Depths.{depth_of}
use Rattle.range_log.specs.Updates.{extents}
use Rattle.range_log.specs.Rows.{back_of}
use Rattle.blob_core.proofs.Rowing.{VersionStands, version_stands, back_is, own_leaf_is}
use Rattle.blob_core.proofs.leaves.own_leaf.Goals as goal
use Rattle.blob_core.proofs.leaves.own_leaf.Goals.{After-page_bytes_stay, then-is_covered, else-is_covered}

stands : (c : After-page_bytes_stay) → VersionStands c.args.p c.args.blob.now c.args.log.now c.args.version (page_range c.args.p c.args.page)
stands c = version_stands c.page_bytes_stay.ensures.extents c.requires.log c.requires.has

pub size_at-requires : goal.size_at-requires
size_at-requires c = (stands (goal.at.size_at-requires c).After-page_bytes_stay).within

pub span_stands-requires : goal.span_stands-requires
span_stands-requires c = omega (arith, c.size_at.ensures, (stands (goal.at.span_stands-requires c).After-page_bytes_stay).small)

pub is_covered-requires-clause-version : goal.is_covered-requires-clause-version
is_covered-requires-clause-version c = let v = stands (goal.at.is_covered-requires-clause-version c).After-page_bytes_stay in (v.some, v.upto)

pub is_covered-requires-clause-fits : goal.is_covered-requires-clause-fits
is_covered-requires-clause-fits c = omega (arith, (stands (goal.at.is_covered-requires-clause-fits c).After-page_bytes_stay).ends c.size_at.result c.size_at.ensures c.span_stands.ensures.fits)

pub overflow_sub-version : goal.overflow_sub-version
overflow_sub-version c = (stands (goal.at.overflow_sub-version c).After-page_bytes_stay).some

pub range_of_page-requires : goal.range_of_page-requires
range_of_page-requires c = omega (arith, (stands (goal.at.range_of_page-requires c).After-page_bytes_stay).ends c.size_at.result c.size_at.ensures c.span_stands.ensures.fits)

pub newest-back-requires-clause-within : goal.newest-back-requires-clause-within
newest-back-requires-clause-within c = omega (arith, (stands (goal.at.newest-back-requires-clause-within c).After-page_bytes_stay).within)

pub newest-back-requires-clause-fits : goal.newest-back-requires-clause-fits
newest-back-requires-clause-fits c =
    let E : Range → ℕ = λ r. r.offset + r.size in
    omega (arith, (stands (goal.at.newest-back-requires-clause-fits c).After-page_bytes_stay).ends c.size_at.result c.size_at.ensures c.span_stands.ensures.fits, ap E c.range_of_page.ensures)

pub depth_at-depth-requires : goal.depth_at-depth-requires
depth_at-depth-requires c =
    let v = stands (goal.at.depth_at-depth-requires c).After-page_bytes_stay in
    record { version = v.within; few = omega (arith, v.upto, c.requires.log.few); fits = v.ends c.size_at.result c.size_at.ensures c.span_stands.ensures.fits }

pub returns : goal.returns
returns c =
    let us : List Update = c.args.blob.now.updates in
    let p : ℕ = c.args.p in
    let k : ℕ = c.args.version in
    let i : ℕ = c.args.page in
    let back : c.if-is_covered.back ≡ back_of p (extents us) k i =
    elim c.if-is_covered.branch [
      | then-is_covered w ↦ back_is p (extents us) k i c.is_covered.result c.if-is_covered.back c.is_covered.ensures c.requires.kept (λ t. w.back-is) (λ t. cc)
      | else-is_covered w ↦ back_is p (extents us) k i c.is_covered.result c.if-is_covered.back c.is_covered.ensures c.requires.kept (λ t. cc)
          (λ t. w.back-is ∙ w.newest-back.ensures.is ∙ rw (c.requires.log.is, w.range_of_page.ensures))
    ] in
    own_leaf_is p (extents us) k i c.own_part-part.result.start c.own_part-part.result.from c.own_part-part.result.len c.in_ok-count.count c.in_ok-count.first c.in_ok-count.second
    c.depth_at-depth.result c.if-is_covered.back c.requires.kept c.own_part-part.ensures.start c.own_part-part.ensures.from c.own_part-part.ensures.len
    c.in_ok-count.ensures.count c.in_ok-count.ensures.first c.in_ok-count.ensures.second
    (c.depth_at-depth.ensures ∙ ap (λ (l : List Touch). depth_of p l k i) c.requires.log.is) back
