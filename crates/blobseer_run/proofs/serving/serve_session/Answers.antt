use Rattle.std.proofs.Common.{[], sum_by}
use Rattle.server_core.specs.Served.{Input}
use Rattle.request_form.specs.Answers.{max_update}
use Rattle.client_session.specs.Sessions.{session_at}
use Rattle.blobseer_run.proofs.Stores.{lines_none, lines_back, lines_of}
use Rattle.blobseer_run.proofs.serving.serve_session.Goals as goal

pub returns-in_default-clause-lines : goal.returns-in_default-clause-lines
returns-in_default-clause-lines g c =
    let pass = c.args.pass in
    let io = c.args.io.now in
    let input : Input = record { given = g.I.Ends.given io; left = g.I.Ends.left io; ends = g.I.Ends.ends io } in
    lines_none (session_at c.args.shared.now.fixed pass.caller pass.seen [] 1 max_update) (sum_by g.D.Door.faults c.args.doors) input (g.I.Ends.written io)

pub returns-in-Err-clause-lines : goal.returns-in-Err-clause-lines
returns-in-Err-clause-lines g c =
    let io = c.args.io.now in
    let input : Input = record { given = g.I.Ends.given io; left = g.I.Ends.left io; ends = g.I.Ends.ends io } in
    lines_back g.D.Door.faults c.args.shared.now.fixed c.args.pass _ c.args.doors _ input (g.I.Ends.written io) c.in-Err.ensures.pass_back c.in-Err.ensures.doors_back

pub returns-clause-lines : goal.returns-clause-lines
returns-clause-lines g c =
    let stream = c.serve_stream-end in
    let ended = c.into_parts-pass in
    lines_of g.D.Door.faults c.args.shared.now c.args.pass ended.result.0 c.args.doors ended.result.1 c.in-Ok-new.session stream.new.service _ _ _ _ stream.result
    c.in-Ok.dialect c.in-Ok.ensures c.in-Ok-new.ensures.session ended.ensures.pass ended.ensures.doors stream.ensures.served
