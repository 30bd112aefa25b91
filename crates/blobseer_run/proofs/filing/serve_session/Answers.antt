use Rattle.std.proofs.Common.{◌∙◌, ap}
use Rattle.client_session.specs.Sessions.{SessionState, pass_of}
use Rattle.server_core.specs.Conversed.{Input}
use Rattle.file_layer.specs.Sessions.{FileState}
use Rattle.blobseer_run.proofs.FilesStored.{lines_back, lines_of}
use Rattle.blobseer_run.proofs.filing.serve_session.Goals as goal

pub returns-in-Err-clause-lines : goal.returns-in-Err-clause-lines
returns-in-Err-clause-lines g c =
    let script = c.args.script.now in
    let input : Input = record { given = g.S.Ends.given script; left = g.S.Ends.left script; ends = g.S.Ends.ends script } in
    lines_back g.D.Door.faults c.args.shared.now c.args.held.pass _ c.args.held.names c.args.held.doors _ input (g.K.Ends.written c.args.out.now) c.in-Err.ensures.pass_back c.in-Err.ensures.doors_back

pub returns-clause-lines : goal.returns-clause-lines
returns-clause-lines g c =
    let stream = c.serve_files-end in
    let parts = c.into_parts-session in
    let ended = c.into_parts-pass in
    let made = c.new-files.ensures ∙ ap (λ (s : SessionState _). let f : FileState _ = record { session = s; names = c.args.held.names } in f) c.in-Ok.ensures.session in
    let gave = ended.ensures.pass ∙ ap pass_of parts.ensures.session in
    let same = ended.ensures.doors ∙ ap (λ (s : SessionState _). s.doors) parts.ensures.session in
    lines_of g.D.Door.faults c.args.shared.now c.args.held.pass ended.result.0 c.args.held.names parts.result.1 c.args.held.doors ended.result.1 c.new-files.result stream.new.files _ _ _ _ stream.result
    made gave parts.ensures.names same stream.ensures.kept stream.ensures.served
