use Rattle.std.proofs.Common.{◌≤◌, arith, sym, ◌∙◌}
use Rattle.tree_geom.specs.Geometry.{Meets, page_range}
use Rattle.range_log.specs.Log.{touch_at}
use Rattle.blob_core.specs.World.{log_of}
use Rattle.blob_core.proofs.Rowing.{log_tells, folds_here, fold_fits}
use Rattle.blob_core.proofs.leaves.folds_page.Goals as goal
use Rattle.blob_core.proofs.leaves.folds_page.Goals.{Else-touch-page, then-page-touch-via-then-page-touch, then-page-touch-via-else-page-touch+then-touch-page}

pub size_at-requires : goal.size_at-requires
size_at-requires c =
    omega (arith, (log_tells c.page_bytes_stay.ensures.extents c.args.p c.args.blob.now c.args.log.now c.requires.log).0, c.requires.version.1)

pub span_stands-requires : goal.span_stands-requires
span_stands-requires c =
    let tells = log_tells c.page_bytes_stay.ensures.extents c.args.p c.args.blob.now c.args.log.now c.requires.log in
    omega (arith, c.size_at.ensures, tells.1 c.args.version c.requires.version.1, c.requires.log.fits c.args.version c.requires.version.1)

pub bounds-log-version : goal.bounds-log-version
bounds-log-version c =
    omega (arith, (log_tells c.page_bytes_stay.ensures.extents c.args.p c.args.blob.now c.args.log.now c.requires.log).0, c.requires.version.0, c.requires.version.1)

pub returns-then-page-touch : goal.returns-then-page-touch
returns-then-page-touch c =
    let pos : 1 ≤ c.args.p = omega (arith, c.stands.ensures.bounds.0) in
    let here = folds_here c.args.p c.args.blob.now c.args.log.now c.args.version c.args.page c.requires.log pos c.requires.version.0 c.requires.version.1 in (
      λ no. (let never : ⊥ = cc no in absurd never),
      λ both.
          let within = here.1 both.0 in
          elim c.then-page-touch.branch [
            | then-page-touch-via-then-page-touch x ↦ absurd (omega (arith, within.0, x.if-page-touch.true))
            | then-page-touch-via-else-page-touch+then-touch-page x ↦ absurd (omega (arith, within.1, x.if-touch-page.true))
          ],
    )

met : (c : Else-touch-page) → Meets c.args.p (touch_at (log_of c.args.p c.args.blob.now.updates) c.args.version) (page_range c.args.p c.args.page)
met c =
    let pos : 1 ≤ c.args.p = omega (arith, c.stands.ensures.bounds.0) in
    let here = folds_here c.args.p c.args.blob.now c.args.log.now c.args.version c.args.page c.requires.log pos c.requires.version.0 c.requires.version.1 in
    here.0 (omega (arith, c.if-page-touch.false), omega (arith, c.if-touch-page.false))

pub is_folded-requires-clause-fits : goal.is_folded-requires-clause-fits
is_folded-requires-clause-fits c =
    fold_fits c.page_bytes_stay.ensures.extents c.args.p c.args.blob.now c.args.log.now c.args.version c.args.page c.size_at.result c.requires.log (omega (arith, c.stands.ensures.bounds.0))
    c.requires.version.0 c.requires.version.1 (met (goal.at.is_folded-requires-clause-fits c).Else-touch-page) c.size_at.ensures c.span_stands.ensures.fits

pub returns : goal.returns
returns c = (λ yes. (met (goal.at.returns c).Else-touch-page, sym c.is_folded.ensures ∙ yes), λ both. c.is_folded.ensures ∙ both.1)
