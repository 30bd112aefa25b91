use Rattle.std.proofs.Common.{◌≡◌, ℕ, ◌+◌, ◌-◌, ◌*◌, ◌/◌, List, arith, ap, ◌∙◌}
use Rattle.std.specs.Prelude.{◌==◌}
use Rattle.std.specs.List.{position_or_len}
use Rattle.blob_model.specs.Content.{Update}
use Rattle.tree_geom.specs.declared.touch.Touch.{Touch}
use Rattle.tree_geom.specs.Geometry.{page_range}
use Rattle.range_log.specs.Log.{size_at}
use Rattle.range_log.specs.Extents.{extent_at, size_after}
use Rattle.range_log.specs.Updates.{extents}
use Rattle.range_log.specs.Rows.{folds_of, pages_in}
use Rattle.blob_core.proofs.Growing.{size_in_log}
use Rattle.blob_core.proofs.Rowing.{VersionStands, version_stands, whole_leaf_is}
use Rattle.blob_core.proofs.leaves.whole_leaf.Goals as goal
use Rattle.blob_core.proofs.leaves.whole_leaf.Goals.{After-page_bytes_stay}

stands : (c : After-page_bytes_stay) → VersionStands c.args.p c.args.blob.now c.args.log.now c.args.version (page_range c.args.p c.args.page)
stands c = version_stands c.page_bytes_stay.ensures.extents c.requires.log c.requires.has

pub size_at-whole-requires : goal.size_at-whole-requires
size_at-whole-requires c = (stands (goal.at.size_at-whole-requires c).After-page_bytes_stay).within

pub span_stands-requires : goal.span_stands-requires
span_stands-requires c = omega (arith, c.size_at-whole.ensures, (stands (goal.at.span_stands-requires c).After-page_bytes_stay).small)

pub extent-len-requires : goal.extent-len-requires
extent-len-requires c = let v = stands (goal.at.extent-len-requires c).After-page_bytes_stay in record { version = (v.some, v.upto); count = v.count; sizes = v.sizes }

pub overflow_add-len : goal.overflow_add-len
overflow_add-len c = omega (arith, c.bytes-size.ensures.bounds.1, (stands (goal.at.overflow_add-len c).After-page_bytes_stay).inside, c.extent-len.ensures.at, c.extent-len.ensures.len)

pub overflow_mul-begin : goal.overflow_mul-begin
overflow_mul-begin c = omega (arith, (stands (goal.at.overflow_mul-begin c).After-page_bytes_stay).ends c.size_at-whole.result c.size_at-whole.ensures c.span_stands.ensures.fits, ap (λ (n : ℕ). c.args.page * n) c.bytes-size.ensures.is)

pub overflow_add-begin : goal.overflow_add-begin
overflow_add-begin c = omega (arith, (stands (goal.at.overflow_add-begin c).After-page_bytes_stay).ends c.size_at-whole.result c.size_at-whole.ensures c.span_stands.ensures.fits, c.bytes-size.ensures.is, ap (λ (n : ℕ). c.args.page * n) c.bytes-size.ensures.is)

pub returns : goal.returns
returns c =
    let us : List Update = c.args.blob.now.updates in
    let v = stands (goal.at.returns c).After-page_bytes_stay in
    let p : ℕ = c.args.p in
    let k : ℕ = c.args.version in
    let i : ℕ = c.args.page in
    let number : c.in-Ok.number ≡ (c.extent-len.result.1 + c.bytes-size.result - 1) / c.bytes-size.result + c.fold_place-place.result = omega (arith, c.in-Ok.ensures) in
    let place : c.in-Ok.number ≡ pages_in p (extent_at (extents us) k).len + position_or_len (λ j. j == i) (folds_of p (extents us) k) =
    rw (number, c.bytes-size.ensures.is, c.extent-len.ensures.len, c.fold_place-place.ensures.place) in
    let end : (i + 1) * p ≡ i * p + p = omega arith in
    let whole : c.size_at-whole.result ≡ size_after (extents us) k = c.size_at-whole.ensures ∙ ap (λ (l : List Touch). size_at l k) c.requires.log.is ∙ size_in_log p us k v.upto in
    whole_leaf_is p (extents us) k i c.in-Ok.number c.saturating_sub-valid.result c.no_piece.result c.requires.anew place
    (rw (c.saturating_sub-valid.ensures, c.min.ensures, c.bytes-size.ensures.is, whole, end)) c.no_piece.ensures
