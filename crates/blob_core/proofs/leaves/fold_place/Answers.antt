use Rattle.std.proofs.Common.{arith, sym, ◌∙◌}
use Rattle.std.specs.Prelude.{true, false}
use Rattle.tree_geom.specs.Geometry.{page_range}
use Rattle.blob_core.proofs.Rowing.{VersionStands, version_stands, first_fits, place_first, place_other}
use Rattle.blob_core.proofs.leaves.fold_place.Goals as goal
use Rattle.blob_core.proofs.leaves.fold_place.Goals.{After-page_bytes_stay, else-page-first-via-then-page-first+else-is_folded, else-page-first-via-else-page-first}

stands : (c : After-page_bytes_stay) → VersionStands c.args.p c.args.blob.now c.args.log.now c.args.version (page_range c.args.p c.args.page)
stands c = version_stands c.page_bytes_stay.ensures.extents c.requires.log c.requires.has

pub span_stands-requires : goal.span_stands-requires
span_stands-requires c = omega (arith, c.size_at.ensures, (stands (goal.at.span_stands-requires c).After-page_bytes_stay).small)

pub is_folded-requires-clause-version : goal.is_folded-requires-clause-version
is_folded-requires-clause-version c = let v = stands (goal.at.is_folded-requires-clause-version c).After-page_bytes_stay in (v.some, v.upto)

pub is_folded-requires-clause-fits : goal.is_folded-requires-clause-fits
is_folded-requires-clause-fits c =
    first_fits c.args.p c.args.blob.now c.args.log.now c.args.version c.args.page c.size_at.result c.requires.log c.requires.has c.size_at.ensures c.span_stands.ensures.fits

pub returns-then-is_folded-clause-place : goal.returns-then-is_folded-clause-place
returns-then-is_folded-clause-place c =
    place_other c.page_bytes_stay.ensures.extents c.folds_are.ensures.folds c.args.p c.args.blob.now c.args.log.now c.args.version c.args.page true c.requires.log c.requires.has
    (λ same. omega (arith, same, c.if-page-first.true)) c.requires.anew (sym c.if-is_folded.true ∙ c.is_folded.ensures)

pub returns-else-page-first-clause-place : goal.returns-else-page-first-clause-place
returns-else-page-first-clause-place c =
    elim c.else-page-first.branch [
      | else-page-first-via-then-page-first+else-is_folded w ↦
          place_other c.page_bytes_stay.ensures.extents c.folds_are.ensures.folds c.args.p c.args.blob.now c.args.log.now c.args.version c.args.page false c.requires.log c.requires.has
          (λ same. omega (arith, same, w.if-page-first.true)) c.requires.anew (sym w.if-is_folded.false ∙ w.is_folded.ensures)
      | else-page-first-via-else-page-first w ↦
          place_first c.args.p c.args.blob.now c.args.log.now c.args.version c.args.page c.requires.log c.requires.has (omega (arith, w.if-page-first.false)) c.requires.anew
    ]
