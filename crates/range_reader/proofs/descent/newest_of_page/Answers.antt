use Rattle.std.proofs.Common.{◌≡◌, ℕ, ◌+◌, ◌-◌, ◌*◌, ◌/◌, ◌^◌, ◌<◌, arith, refl, ap, sym, ◌∙◌, subst}
use Rattle.tree_geom.specs.Geometry.{tree_range}
use Rattle.tree_geom.specs.Laws.{LowHalvesAlign, HighHalvesAlign}
use Rattle.range_log.specs.Log.{newest_of}
use Rattle.range_log.specs.Laws.{ExtentsStand}
use Rattle.range_log.specs.Walk.{LinksStep}
use Rattle.snapshot.specs.Versions.{Version, RowIn, size_now, HasNodeFor, NodesLieIn, IsVersion}
use Rattle.range_reader.specs.Reading.{log_of}
use Rattle.snapshot.proofs.Finding.{in_rows}
use Rattle.range_reader.proofs.Descending.{IsOver, over_at_root, over_below, newest_here, has_leaf}
use Rattle.range_reader.proofs.descent.newest_of_page.Goals as goal

-- the height of the node that is asked for is that of the link's, and one
node_over : (s : Version) (page h at : ℕ) → 0 < h → IsOver s page h at → IsOver s page (h - 1 + 1) at
node_over s page h at some over =
    let e : h ≡ h - 1 + 1 = omega arith in
    let P : ℕ → Type 0 = λ k. IsOver s page k at in
    subst P e over

pub loop-level-init : goal.loop-level-init
loop-level-init g c =
    let s = c.args.snapshot.now in
    record {
      row = c.row_of-row.ensures;
      over =
          over_at_root c.spans_hold.ensures.heights c.page_bytes_stay.ensures.extents c.links_find.ensures.roots c.newest_is_greatest.ensures.greatest s c.version-at.ensures.stands c.args.page
          c.args.levels c.version-at.result c.requires.valid c.requires.levels c.version-at.ensures.count;
      counted = refl {a = c.args.steps.now + c.args.levels};
    }

pub link_toward-on-requires-clause-here : goal.link_toward-on-requires-clause-here
link_toward-on-requires-clause-here g c =
    let P : RowIn → Type 0 = λ r. NodesLieIn c.args.nodes.now r.version in
    subst P (sym c.loop-level.invariant.row) c.requires.here

pub link_toward-on-requires-clause-has : goal.link_toward-on-requires-clause-has
link_toward-on-requires-clause-has g c =
    let h = c.loop-level.level in
    let i = c.args.page in
    let over = node_over c.args.snapshot.now i h c.loop-level.at (omega (arith, c.loop-level-test.true)) c.loop-level.invariant.over in
    let P : RowIn → Type 0 = λ r. HasNodeFor r.version r.update (tree_range r.version.page_size (h - 1 + 1) (i / 2 ^ (h - 1 + 1))) in
    subst P (sym c.loop-level.invariant.row) over.has

-- the way goes on by the link
below : (step : LinksStep) (stand : ExtentsStand) (low : LowHalvesAlign) (high : HighHalvesAlign) (s : Version) → IsVersion s → (page h at on : ℕ) (row : RowIn)
    → page * s.page_size < size_now s → 0 < h → row ≡ record { version = s; update = at } → IsOver s page h at
    → on ≡ newest_of row.version.page_size (log_of row.version) row.update (tree_range row.version.page_size (h - 1) (page / 2 ^ (h - 1))) → IsOver s page (h - 1) on
below step stand low high s is page h at on row inside some here over link =
    let e = ap (λ (r : RowIn). newest_of r.version.page_size (log_of r.version) r.update (tree_range r.version.page_size (h - 1) (page / 2 ^ (h - 1)))) here in
    over_below step stand low high s is page (h - 1) at on inside (node_over s page h at some over) (link ∙ e)

pub row_of-row-requires-then-on-at : goal.row_of-row-requires-then-on-at
row_of-row-requires-then-on-at g c =
    let s = c.args.snapshot.now in
    let h = c.loop-level.level in
    let inv = c.loop-level.invariant in
    let over = below c.links_step.ensures.step c.page_bytes_stay.ensures.extents c.ranges_align.ensures.low c.ranges_align.ensures.high s c.version-at.ensures.stands c.args.page h c.loop-level.at
    c.link_toward-on.result c.loop-level.row c.requires.valid (omega (arith, c.loop-level-test.true)) inv.row inv.over c.link_toward-on.ensures.link in
    (in_rows s c.link_toward-on.result (tree_range s.page_size (h - 1) (c.args.page / 2 ^ (h - 1))) over.has).1

pub loop-level-preserved-then-on-at : goal.loop-level-preserved-then-on-at
loop-level-preserved-then-on-at g c =
    let inv = c.loop-level.invariant in
    record {
      row = c.row_of-row-then-on-at.ensures;
      over =
          below c.links_step.ensures.step c.page_bytes_stay.ensures.extents c.ranges_align.ensures.low c.ranges_align.ensures.high c.args.snapshot.now
          c.version-at.ensures.stands c.args.page c.loop-level.level c.loop-level.at c.link_toward-on.result c.loop-level.row c.requires.valid
          (omega (arith, c.loop-level-test.true)) inv.row inv.over c.link_toward-on.ensures.link;
      counted = omega (arith, inv.counted, c.link_toward-on.ensures.step, c.loop-level-test.true);
    }

pub loop-level-preserved : goal.loop-level-preserved
loop-level-preserved g c =
    let s = c.args.snapshot.now in
    let inv = c.loop-level.invariant in
    let made : ℕ → RowIn = λ j. record { version = s; update = j } in
    record {
      row = inv.row ∙ ap made (sym c.if-on-at.false);
      over =
          below c.links_step.ensures.step c.page_bytes_stay.ensures.extents c.ranges_align.ensures.low c.ranges_align.ensures.high s c.version-at.ensures.stands c.args.page c.loop-level.level
          c.loop-level.at c.link_toward-on.result c.loop-level.row c.requires.valid (omega (arith, c.loop-level-test.true)) inv.row inv.over c.link_toward-on.ensures.link;
      counted = omega (arith, inv.counted, c.link_toward-on.ensures.step, c.loop-level-test.true);
    }

pub returns-clause-newest : goal.returns-clause-newest
returns-clause-newest g c =
    newest_here c.ranges_align.ensures.pages c.args.snapshot.now c.args.page c.loop-level.level c.loop-level.at (omega (arith, c.loop-level-test.false)) c.loop-level.invariant.over

pub returns-clause-has : goal.returns-clause-has
returns-clause-has g c =
    has_leaf c.ranges_align.ensures.pages c.args.snapshot.now c.args.page c.loop-level.level c.loop-level.at (omega (arith, c.loop-level-test.false)) c.loop-level.invariant.over
