use Rattle.std.proofs.Common.{◌≡◌, ℕ, ◌+◌, ◌*◌, ◌/◌, ◌%◌, length, arith, ap, sym, ◌∙◌, subst}
use Rattle.std.proofs.lemmas.Nat.{div-add-mod'}
use Rattle.tree_geom.specs.Geometry.{page_range}
use Rattle.range_log.specs.Visits.{backs_of}
use Rattle.snapshot.specs.Versions.{HasNodeFor}
use Rattle.tree_geom.proofs.Spans.{page_pos}
use Rattle.range_reader.specs.Reading.{falls, newest_in, bytes_at}
use Rattle.range_reader.proofs.Walking.{within_page}
use Rattle.range_reader.proofs.Stating.{page_bound}
use Rattle.range_reader.proofs.walk.walk_to_page.Goals as goal

pub fill_page-requires-clause-newest : goal.fill_page-requires-clause-newest
fill_page-requires-clause-newest g c =
    let s = c.args.source.now.view.now in
    let size = c.bytes-size.ensures.is ∙ c.page_size.ensures in
    c.newest_knowing-newest.ensures.newest ∙ ap (λ n. newest_in s (page_range s.page_size (c.args.from / n))) (sym size)

pub fill_page-requires-clause-has : goal.fill_page-requires-clause-has
fill_page-requires-clause-has g c =
    let s = c.args.source.now.view.now in
    let size = c.bytes-size.ensures.is ∙ c.page_size.ensures in
    let H : ℕ → Type 0 = λ n. HasNodeFor s c.newest_knowing-newest.result (page_range s.page_size (c.args.from / n)) in
    subst H (sym size) c.newest_knowing-newest.ensures.has

pub fill_page-requires-clause-within : goal.fill_page-requires-clause-within
fill_page-requires-clause-within g c =
    let size = c.bytes-size.ensures.is ∙ c.page_size.ensures in
    omega (arith, ap (λ n. c.args.from % n) size, c.requires.one_page)

pub fill_page-requires-clause-valid : goal.fill_page-requires-clause-valid
fill_page-requires-clause-valid g c =
    let p = c.args.source.now.view.now.page_size in
    let size = c.bytes-size.ensures.is ∙ c.page_size.ensures in
    omega (arith, div-add-mod' c.args.from p, ap (λ n. c.args.from / n * p) size, ap (λ n. c.args.from % n) size, c.requires.valid)

pub returns-in-true-clause-bytes : goal.returns-in-true-clause-bytes
returns-in-true-clause-bytes g c = λ all.
    let s = c.args.source.now.view.now in
    let p = s.page_size in
    let size = c.bytes-size.ensures.is ∙ c.page_size.ensures in
    let b = c.bytes-size.result in
    let sum : c.args.from / b * p + c.args.from % b ≡ c.args.from =
    ap (λ n. c.args.from / n * p + c.args.from % n) size ∙ div-add-mod' c.args.from p
    in
    c.fill_page.ensures.bytes all c.in-true.is ∙ ap (λ n. bytes_at s n (length c.args.out.now)) sum

pub returns-in-true-clause-steps : goal.returns-in-true-clause-steps
returns-in-true-clause-steps g c =
    let s = c.args.source.now.view.now in
    let size = c.bytes-size.ensures.is ∙ c.page_size.ensures in
    let d = ap (λ n. backs_of s.page_size (falls s) (length s.rows) (c.args.from / n)) size in
    omega (
      arith,
      c.newest_knowing-newest.ensures.steps,
      c.fill_page.ensures.steps,
      d,
      c.requires.levels,
      page_bound c.page_bytes_stay.ensures.extents s c.stands.ensures c.args.from (length c.args.out.now) c.requires.some c.requires.one_page,
    )

pub returns-in-false-clause-steps : goal.returns-in-false-clause-steps
returns-in-false-clause-steps g c =
    let s = c.args.source.now.view.now in
    let size = c.bytes-size.ensures.is ∙ c.page_size.ensures in
    let d = ap (λ n. backs_of s.page_size (falls s) (length s.rows) (c.args.from / n)) size in
    omega (
      arith,
      c.newest_knowing-newest.ensures.steps,
      c.fill_page.ensures.steps,
      d,
      c.requires.levels,
      page_bound c.page_bytes_stay.ensures.extents s c.stands.ensures c.args.from (length c.args.out.now) c.requires.some c.requires.one_page,
    )

pub returns-in-false-clause-failed : goal.returns-in-false-clause-failed
returns-in-false-clause-failed g c =
    let s = c.args.source.now.view.now in
    let p = s.page_size in
    let pos = page_pos p c.stands.ensures.page_size in
    let size = c.bytes-size.ensures.is ∙ c.page_size.ensures in
    let one = within_page s c.args.from (length c.args.out.now) pos c.requires.some c.requires.one_page in
    let d = ap (λ n. c.args.from / n) size in
    record { from = omega (arith, d); upto = omega (arith, d, one.0); failed = c.fill_page.ensures.failed c.in-false.is }
