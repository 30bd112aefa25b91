use Rattle.std.proofs.Common.{◌+◌, ◌*◌, ◌/◌, ◌%◌, ◌<◌, ◌≤◌, length, arith, ap, sym, ◌∙◌, subst}
use Rattle.std.proofs.lemmas.Nat.{mod_below}
use Rattle.tree_geom.specs.declared.node.Piece.{Piece}
use Rattle.tree_geom.specs.Geometry.{height_of, page_range}
use Rattle.range_log.specs.Visits.{backs_of}
use Rattle.snapshot.specs.Versions.{Version, size_now}
use Rattle.tree_geom.proofs.Spans.{page_pos}
use Rattle.range_reader.specs.Reading.{falls}
use Rattle.snapshot.proofs.Finding.{in_rows}
use Rattle.range_reader.proofs.Among.{page_in}
use Rattle.range_reader.proofs.Leaves.{leaf_of_version}
use Rattle.range_reader.proofs.Walking.{down}
use Rattle.range_reader.proofs.Holding.{piece_stands}
use Rattle.range_reader.proofs.Stating.{page_bound}
use Rattle.range_reader.proofs.locate.holder.Goals as goal

pub newest_of_page-newest-requires-clause-levels : goal.newest_of_page-newest-requires-clause-levels
newest_of_page-newest-requires-clause-levels g c =
    let s = c.args.snapshot.now in
    c.height-levels.ensures.is ∙ ap (λ p. height_of p c.size-size.result) c.page_size-page_size.ensures ∙ ap (height_of s.page_size) c.size-size.ensures.size
    ∙ ap (λ (v : Version). height_of v.page_size (size_now v)) (sym c.view-view.ensures)

pub newest_of_page-newest-requires-clause-valid : goal.newest_of_page-newest-requires-clause-valid
newest_of_page-newest-requires-clause-valid g c =
    let s = c.args.snapshot.now in
    let size = c.bytes-bytes.ensures.is ∙ c.page_size-page_size.ensures in
    let lt : c.args.at / c.bytes-bytes.result * s.page_size < size_now s =
    omega (arith, ap (λ n. c.args.at / n * s.page_size) size, down c.args.at s.page_size, c.if-size-at.false, c.size-size.ensures.size) in
    let P : Version → Type 0 = λ v. c.args.at / c.bytes-bytes.result * v.page_size < size_now v in
    subst P (sym c.view-view.ensures) lt

pub page-requires-clause-version : goal.page-requires-clause-version
page-requires-clause-version g c =
    let s = c.args.snapshot.now in
    in_rows s c.first_with_byte-first.result.0 (page_range s.page_size (c.args.at / c.bytes-bytes.result)) (rw (c.view-view.ensures) at c.first_with_byte-first.ensures.stands)

pub page-requires-clause-number : goal.page-requires-clause-number
page-requires-clause-number g c =
    let s = c.args.snapshot.now in
    let i = c.args.at / c.bytes-bytes.result in
    let j = c.first_with_byte-first.result.0 in
    let is = c.stands.ensures in
    let first = rw (c.view-view.ensures) at c.first_with_byte-first.ensures in
    let fill = c.leaves_fill.ensures in
    let leaf = leaf_of_version fill.fill fill.fit fill.pieces c.folds_are.ensures.folds c.page_bytes_stay.ensures.bytes c.page_bytes_stay.ensures.extents s is j i first.stands in
    let number = piece_stands s j i (c.args.at % c.bytes-bytes.result) c.first_with_byte-first.result.1 first.leaf leaf first.has in
    omega (arith, number, ap (λ (x : Piece). x.page) c.piece_with-piece.ensures)

pub returns-clause-among : goal.returns-clause-among
returns-clause-among g c = λ houses pages.
    let s = c.args.snapshot.now in
    let rows = in_rows s c.first_with_byte-first.result.0 (page_range s.page_size (c.args.at / c.bytes-bytes.result)) (rw (c.view-view.ensures) at c.first_with_byte-first.ensures.stands) in
    page_in houses s c.first_with_byte-first.result.0 c.piece_with-piece.result.page c.page.result.now pages rows.0 rows.1 c.page.ensures.this

pub returns-clause-steps : goal.returns-clause-steps
returns-clause-steps g c =
    let s = c.args.snapshot.now in
    let p = s.page_size in
    let is = c.stands.ensures in
    let size = c.bytes-bytes.ensures.is ∙ c.page_size-page_size.ensures in
    let tall = c.height-levels.ensures.is ∙ ap (λ q. height_of q c.size-size.result) c.page_size-page_size.ensures ∙ ap (height_of p) c.size-size.ensures.size in
    let along = rw (c.view-view.ensures) at c.first_with_byte-first.ensures.steps in
    let backs = ap (λ n. backs_of p (falls s) (length s.rows) (c.args.at / n)) size in
    let within : c.args.at % p + 1 ≤ p = let lt : c.args.at % p < p = mod_below c.args.at p (page_pos p is.page_size) in omega arith in
    omega (arith, c.newest_of_page-newest.ensures.steps, tall, along, backs, page_bound c.page_bytes_stay.ensures.extents s is c.args.at 1 (omega arith) within)
