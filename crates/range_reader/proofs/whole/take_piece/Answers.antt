use Rattle.std.proofs.Common.{◌+◌, length, ap, ◌∙◌}
use Rattle.std.specs.Prelude.{slice_range}
use Rattle.range_reader.proofs.Among.{page_in, bytes_in}
use Rattle.page_fan.proofs.Using.{true_at_all}
use Rattle.range_reader.proofs.Counting.{served}
use Rattle.range_reader.proofs.whole.take_piece.Goals as goal

pub fetch-requires-clause-here : goal.fetch-requires-clause-here
fetch-requires-clause-here g c =
    page_in c.args.source.now.houses.now c.args.source.now.view.now c.args.j c.args.piece.page c.page-stored.result.now
    c.requires.here.1 c.requires.version.0 c.requires.version.1 c.page-stored.ensures.this

pub fetch-requires-clause-served : goal.fetch-requires-clause-served
fetch-requires-clause-served g c =
    served c.args.source.now.houses.now (length c.args.doors.now) c.page-stored.result.now.spots c.requires.doors
    (page_in c.args.source.now.houses.now c.args.source.now.view.now c.args.j c.args.piece.page c.page-stored.result.now
    c.requires.here.1 c.requires.version.0 c.requires.version.1 c.page-stored.ensures.this)

pub returns-clause-bytes : goal.returns-clause-bytes
returns-clause-bytes g c = λ all ok.
    let from = c.args.piece.from + c.args.skip in
    let n = length c.args.out.now in
    c.fetch.ensures.got ok (true_at_all g.D.Door.is_true c.args.doors.now c.page-stored.result.now.spots all)
    ∙ ap (λ l. slice_range l from (from + n)) (bytes_in c.args.source.now.view.now c.args.j c.args.piece.page c.page-stored.result.now c.page-stored.ensures.this)
