use Rattle.std.proofs.Common.{◌≡◌, ℕ, ◌/◌, ◌≤◌, true, arith, sym, subst, ◌∙◌}
use Rattle.tree_geom.specs.Geometry.{Meets, page_range}
use Rattle.range_log.specs.Log.{touch_at}
use Rattle.range_log.specs.Rows.{folded_of}
use Rattle.range_log.specs.Updates.{extents}
use Rattle.blob_core.specs.World.{IsKnown, fold_at, log_of}
use Rattle.blob_core.proofs.Rowing.{has_version, page_of, not_true, not_false}
use Rattle.range_log.proofs.Nodes.{same_page}
use Rattle.blob_core.proofs.nodes.lacks_fold.Goals as goal
use Rattle.blob_core.proofs.nodes.lacks_fold.Goals.{After-bytes-2}

-- the key's range is that of the page that is asked for
page_here : (c : After-bytes-2) → c.args.key.now.range ≡ page_range c.args.p (c.args.key.now.range.offset / c.bytes-2.result)
page_here c =
    let pos : 1 ≤ c.args.p = omega (arith, c.bytes.ensures.bounds.0, c.bytes.ensures.is) in
    let size : c.args.key.now.range.size ≡ c.args.p = omega (arith, c.if-key-bytes.false, c.bytes.ensures.is) in
    let I : ℕ → Type 0 = λ n. c.args.key.now.range ≡ page_range c.args.p (c.args.key.now.range.offset / n) in
    subst I (sym c.bytes-2.ensures.is) (page_of c.args.p c.args.key.now.range pos c.requires.has.aligned size)

same : (c : After-bytes-2) (page : ℕ) → c.args.key.now.range ≡ page_range c.args.p page → c.args.key.now.range.offset / c.bytes-2.result ≡ page
same c page at = same_page c.args.p (c.args.key.now.range.offset / c.bytes-2.result) page (omega (arith, c.bytes.ensures.bounds.0, c.bytes.ensures.is)) (sym (page_here c) ∙ at)

pub folds_page-requires-clause-version : goal.folds_page-requires-clause-version
folds_page-requires-clause-version c = has_version c.args.p c.args.blob.now.updates c.args.key.now.version c.args.key.now.range c.requires.has

pub returns-then-folds_page-clause-lacks : goal.returns-then-folds_page-clause-lacks
returns-then-folds_page-clause-lacks c none =
    let folds = c.folds_page.ensures.0 c.if-folds_page.true in
    record {
      page = c.args.key.now.range.offset / c.bytes-2.result;
      leaf = page_here (goal.at.returns-then-folds_page-clause-lacks c).After-bytes-2;
      met = folds.0;
      anew = folds.1;
      missing = c.has_fold.ensures.missing (not_true c.has_fold.result none);
    }

pub returns-then-folds_page-clause-has : goal.returns-then-folds_page-clause-has
returns-then-folds_page-clause-has c there page at met anew =
    let here = same (goal.at.returns-then-folds_page-clause-has c).After-bytes-2 page at in
    let K : ℕ → Type 0 = λ i. IsKnown (fold_at c.args.folded.now c.args.key.now.blob c.args.key.now.version i) in
    subst K here (c.has_fold.ensures.there (not_false c.has_fold.result there))

pub returns-else-folds_page-clause-has : goal.returns-else-folds_page-clause-has
returns-else-folds_page-clause-has c none page at met anew =
    let here = same (goal.at.returns-else-folds_page-clause-has c).After-bytes-2 page at in
    let us = c.args.blob.now.updates in
    let Q : ℕ → Type 0 = λ i. Meets c.args.p (touch_at (log_of c.args.p us) c.args.key.now.version) (page_range c.args.p i)
    × (folded_of c.args.p (extents us) c.args.key.now.version i ≡ true) in
    let yes : c.folds_page.result ≡ true = c.folds_page.ensures.1 (subst Q (sym here) (met, anew)) in
    let never : ⊥ = cc none in
    absurd never
