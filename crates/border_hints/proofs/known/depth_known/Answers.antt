use Rattle.std.proofs.Common.{◌≡◌, ℕ, length, arith, refl, ap, sym, ◌∙◌}
use Rattle.tree_geom.specs.Geometry.{tree_range}
use Rattle.range_log.specs.Log.{newest_of}
use Rattle.range_log.specs.Depths.{depth_of}
use Rattle.range_log.specs.Laws.{DepthOfNewest}
use Rattle.snapshot.specs.Versions.{Version}
use Rattle.tree_geom.specs.Laws.{PagesAlign}
use Rattle.tree_geom.proofs.Spans.{page_pos}
use Rattle.border_hints.specs.Numbered.{log_of}
use Rattle.border_hints.specs.Borders.{newest_known}
use Rattle.border_hints.proofs.Depths.{leaf_says}
use Rattle.border_hints.proofs.Tickets.{length-log_of}
use Rattle.border_hints.proofs.Published.{log_grown, newest_leaf}
use Rattle.range_log.proofs.Depths.{depth_none}
use Rattle.border_hints.proofs.known.depth_known.Goals as goal

-- the depth at the newest version for the page
at_newest : PagesAlign → DepthOfNewest → (s : Version) (at page : ℕ) → at ≡ newest_known s (tree_range s.page_size 0 page)
    → depth_of s.page_size (log_of s) at page ≡ depth_of s.page_size (log_of s) (length s.rows) page
at_newest align newest s at page is =
    let p : ℕ = s.page_size in
    ap (λ n. depth_of p (log_of s) n page) (is ∙ ap (newest_of p (log_of s) (length s.rows)) (sym (align p page))) ∙ newest p (length s.rows) page (log_of s)

pub returns-then-at-eq0-clause-depth : goal.returns-then-at-eq0-clause-depth
returns-then-at-eq0-clause-depth g c =
    let s = c.args.row.now.version in
    sym (depth_none s.page_size (log_of s) c.args.page)
    ∙ ap (λ n. depth_of s.page_size (log_of s) n c.args.page) (sym c.if-at-eq0.true)
    ∙ at_newest c.ranges_align.ensures.pages c.depth_counts_backs.ensures.newest s c.args.at c.args.page c.requires.at

pub leaf-requires-clause-has : goal.leaf-requires-clause-has
leaf-requires-clause-has g c =
    let s = c.args.row.now.version in
    let pos = page_pos s.page_size c.stands.ensures.version.page_size in
    newest_leaf c.newest_has_node.ensures.node s.page_size (log_of s) (length s.rows) c.args.page c.args.row.now.update
    (log_grown c.logs_are_grown.ensures.grown c.page_bytes_stay.ensures.extents s c.stands.ensures.version pos) pos (omega (arith, length-log_of c.logs_are_grown.ensures.count s))
    (c.requires.row ∙ c.requires.at) (omega (arith, c.requires.row, c.if-at-eq0.false))

pub returns-clause-depth : goal.returns-clause-depth
returns-clause-depth g c =
    let s = c.args.row.now.version in
    sym c.leaf.ensures.parts.depth
    ∙ leaf_says c.ranges_align.ensures.pages s c.args.row.now.update c.args.page _ (page_pos s.page_size c.stands.ensures.version.page_size) refl
    ∙ at_newest c.ranges_align.ensures.pages c.depth_counts_backs.ensures.newest s c.args.row.now.update c.args.page (c.requires.row ∙ c.requires.at)
