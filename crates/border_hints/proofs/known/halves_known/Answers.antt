use Rattle.std.proofs.Common.{◌≡◌, ℕ, ◌+◌, ◌*◌, ◌≤◌, length, arith, inl, inr, refl, ap, sym, ◌∙◌}
use Rattle.tree_geom.specs.Geometry.{height_of}
use Rattle.range_log.specs.Log.{size_at}
use Rattle.range_log.specs.Laws.{TouchesAre, SizesAre, LogsAreGrown, ExtentsStand, Grown}
use Rattle.snapshot.specs.Versions.{Version, size_now, IsVersion}
use Rattle.tree_geom.proofs.Spans.{page_pos}
use Rattle.border_hints.specs.Numbered.{log_of}
use Rattle.border_hints.proofs.Tickets.{length-log_of}
use Rattle.border_hints.proofs.Published.{log_grown, log_size, none_in_half, above_root, node_below, inner_size, link_low, link_high}
use Rattle.border_hints.proofs.known.halves_known.Goals as goal

pub returns-then-at-eq0-clause-low : goal.returns-then-at-eq0-clause-low
returns-then-at-eq0-clause-low g c =
    let s = c.args.row.now.version in
    none_in_half s.page_size (log_of s) (length s.rows) c.newest_is_greatest.ensures.agree c.newest_is_greatest.ensures.none c.args.level c.args.q (2 * c.args.q) (inl refl)
    (sym c.if-at-eq0.true ∙ c.requires.at)

pub returns-then-at-eq0-clause-high : goal.returns-then-at-eq0-clause-high
returns-then-at-eq0-clause-high g c =
    let s = c.args.row.now.version in
    none_in_half s.page_size (log_of s) (length s.rows) c.newest_is_greatest.ensures.agree c.newest_is_greatest.ensures.none c.args.level c.args.q (2 * c.args.q + 1) (inr refl)
    (sym c.if-at-eq0.true ∙ c.requires.at)

in_log : TouchesAre → (s : Version) → length s.rows ≤ length (log_of s)
in_log are s = omega (arith, length-log_of are s)

grown : LogsAreGrown → ExtentsStand → (s : Version) → IsVersion s → Grown s.page_size (log_of s)
grown grow stand s is = log_grown grow stand s is (page_pos s.page_size is.page_size)

-- the height of the snapshot's tree, by its log
tall_is : SizesAre → ExtentsStand → (s : Version) (tall : ℕ) → IsVersion s → tall ≡ height_of s.page_size (size_now s) → height_of s.page_size (size_at (log_of s) (length s.rows)) ≡ tall
tall_is sizes stand s tall is e = ap (height_of s.page_size) (log_size sizes stand s is) ∙ sym e

pub returns-then-tall-level-clause-low : goal.returns-then-tall-level-clause-low
returns-then-tall-level-clause-low g c =
    let s = c.args.row.now.version in
    let is = c.stands.ensures.version in
    (above_root c.newest_is_greatest.ensures.hit c.newest_is_greatest.ensures.none c.newest_has_node.ensures.none c.spans_hold.ensures.heights s.page_size (log_of s) (length s.rows)
    (grown c.logs_are_grown.ensures.grown c.page_bytes_stay.ensures.extents s is) (page_pos s.page_size is.page_size) (in_log c.logs_are_grown.ensures.count s)
    c.args.level c.args.q c.args.at c.requires.at (omega (arith, c.if-at-eq0.false))
    (omega (arith, tall_is c.logs_are_grown.ensures.sizes c.page_bytes_stay.ensures.extents s c.args.tall is c.requires.tall, c.if-tall-level.true))).0

pub returns-then-tall-level-clause-high : goal.returns-then-tall-level-clause-high
returns-then-tall-level-clause-high g c =
    let s = c.args.row.now.version in
    let is = c.stands.ensures.version in
    (above_root c.newest_is_greatest.ensures.hit c.newest_is_greatest.ensures.none c.newest_has_node.ensures.none c.spans_hold.ensures.heights s.page_size (log_of s) (length s.rows)
    (grown c.logs_are_grown.ensures.grown c.page_bytes_stay.ensures.extents s is) (page_pos s.page_size is.page_size) (in_log c.logs_are_grown.ensures.count s)
    c.args.level c.args.q c.args.at c.requires.at (omega (arith, c.if-at-eq0.false))
    (omega (arith, tall_is c.logs_are_grown.ensures.sizes c.page_bytes_stay.ensures.extents s c.args.tall is c.requires.tall, c.if-tall-level.true))).1

pub links-requires-clause-has : goal.links-requires-clause-has
links-requires-clause-has g c =
    let s = c.args.row.now.version in
    let is = c.stands.ensures.version in
    node_below s.page_size (log_of s) (length s.rows)
    (grown c.logs_are_grown.ensures.grown c.page_bytes_stay.ensures.extents s is) (page_pos s.page_size is.page_size) (in_log c.logs_are_grown.ensures.count s)
    c.newest_has_node.ensures.none c.newest_has_node.ensures.node c.spans_hold.ensures.heights c.spans_hold.ensures.some c.ranges_align.ensures.nest
    (c.args.level + 1) c.args.q c.args.row.now.update (c.requires.row ∙ c.requires.at) (omega (arith, c.requires.row, c.if-at-eq0.false))
    (omega (arith, tall_is c.logs_are_grown.ensures.sizes c.page_bytes_stay.ensures.extents s c.args.tall is c.requires.tall, c.if-tall-level.false))

pub links-requires-clause-inner : goal.links-requires-clause-inner
links-requires-clause-inner g c =
    let p = c.args.row.now.version.page_size in
    inner_size p c.args.level (page_pos p c.stands.ensures.version.page_size)

pub returns-clause-low : goal.returns-clause-low
returns-clause-low g c =
    let s = c.args.row.now.version in
    link_low c.newest_is_greatest.ensures.agree c.ranges_align.ensures.low s.page_size (log_of s) (length s.rows) c.args.level c.args.q c.args.row.now.update c.links.result.0
    (c.requires.row ∙ c.requires.at) c.links.ensures.left

pub returns-clause-high : goal.returns-clause-high
returns-clause-high g c =
    let s = c.args.row.now.version in
    link_high c.newest_is_greatest.ensures.agree c.ranges_align.ensures.high s.page_size (log_of s) (length s.rows) c.args.level c.args.q c.args.row.now.update c.links.result.1
    (c.requires.row ∙ c.requires.at) c.links.ensures.right
