use Rattle.std.proofs.Common.{sym, subst, sum_by}
use Rattle.server_core.specs.Conversed.{Input}
use Rattle.file_layer.specs.Sessions.{files_of}
use Rattle.file_layer.specs.Served.{FilePoint, ServedFiles}
use Rattle.file_layer.proofs.serving.serve_files.Goals as goal

-- the source and the sink that were lent are those that the pair has in the end
pub returns-clause-served : goal.returns-clause-served
returns-clause-served g c =
    let io = c.serve_lines.new.io in
    let input : _ → Input = λ s. record { given = g.S.Ends.given s; left = g.S.Ends.left s; ends = g.S.Ends.ends s } in
    let point : _ → _ → FilePoint = λ f k. record { session = files_of f; faults = sum_by g.D.Door.faults f.session.doors; written = g.K.Ends.written k } in
    let R : _ → _ → Type 0 = λ s k. ServedFiles (point c.args.files.now c.args.sink.now) (input c.args.source.now) (input s) c.args.limit (point c.serve_lines.new.files k) c.serve_lines.result in
    let source_is = c.source-1.given.1 (cc (c.serve_lines.ensures.objects)) in
    let sink_is = c.sink-1.given.1 (cc (c.serve_lines.ensures.objects)) in
    let source = subst (λ (s : _). R s io.sink.now) (sym source_is) c.serve_lines.ensures.served in
    subst (λ (k : _). R c.source-1.given.0 k) (sym sink_is) source
