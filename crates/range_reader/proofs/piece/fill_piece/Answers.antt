use Rattle.std.proofs.Common.{length, refl}
use Rattle.range_reader.specs.Reading.{stored_bytes}
use Rattle.range_reader.proofs.Among.{page_in, bytes_in}
use Rattle.range_reader.proofs.Counting.{served}
use Rattle.range_reader.proofs.Overlaying.{overlaid_by, taken_by}
use Rattle.range_reader.proofs.piece.fill_piece.Goals as goal

pub fill_marked-requires-clause-here : goal.fill_marked-requires-clause-here
fill_marked-requires-clause-here g c =
    page_in c.args.source.now.houses.now c.args.source.now.view.now c.args.j c.args.piece.page c.page-stored.result.now
    c.requires.here.1 c.requires.version.0 c.requires.version.1 c.page-stored.ensures.this

pub fill_marked-requires-clause-served : goal.fill_marked-requires-clause-served
fill_marked-requires-clause-served g c =
    served c.args.source.now.houses.now (length c.args.doors.now) c.page-stored.result.now.spots c.requires.doors
    (page_in c.args.source.now.houses.now c.args.source.now.view.now c.args.j c.args.piece.page c.page-stored.result.now
    c.requires.here.1 c.requires.version.0 c.requires.version.1 c.page-stored.ensures.this)

pub returns-clause-overlaid : goal.returns-clause-overlaid
returns-clause-overlaid g c = λ all ok.
    let s = c.args.source.now.view.now in
    overlaid_by c.args.start c.args.piece.len c.args.begin c.max-low.result c.min-end.result _ _ c.args.out.now c.args.marks.now
    c.requires.marked c.max-low.ensures c.min-end.ensures c.if-end-low.false refl refl
    c.args.piece.from _ (stored_bytes s c.args.j c.args.piece.page) c.page-stored.result.now.bytes c.fill_marked.new.out
    (bytes_in s c.args.j c.args.piece.page c.page-stored.result.now c.page-stored.ensures.this) refl c.fill_marked.auto.out (c.fill_marked.ensures.filled all ok)

pub returns-clause-taken : goal.returns-clause-taken
returns-clause-taken g c = λ ok.
    taken_by c.args.start c.args.piece.len c.args.begin c.max-low.result c.min-end.result _ _ c.args.out.now c.args.marks.now
    c.requires.marked c.max-low.ensures c.min-end.ensures c.if-end-low.false refl refl
    c.fill_marked.new.marks c.fill_marked.auto.marks (c.fill_marked.ensures.taken ok)
