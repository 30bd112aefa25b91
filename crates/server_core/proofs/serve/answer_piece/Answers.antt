use Rattle.std.proofs.Common.{ℕ, List, [], ◌++◌}
use Rattle.server_core.specs.Talk.{PointOf}
use Rattle.server_core.proofs.GoingOn.{Stops-at-same, IsDrained-from}
use Rattle.server_core.proofs.Endings.{Stops-none, IsDrained-fed}
use Rattle.server_core.proofs.Settled.{settle_drained}
use Rattle.server_core.proofs.serve.answer_piece.Goals as goal

pub returns-in-Err-clause-drained : goal.returns-in-Err-clause-drained
returns-in-Err-clause-drained g c = ([], Stops-at-same g.C.Conversation.talk _ _ _ _ _ c.in-Err.ensures.session c.in-Err.ensures.faults _ _ [] (Stops-none g.C.Conversation.talk _ _))

pub returns-in-Ok-clause-drained : goal.returns-in-Ok-clause-drained
returns-in-Ok-clause-drained g c =
    let old : PointOf g.C.Conversation.talk.Session = record { session = g.C.Conversation.session c.args.talk.now; faults = g.C.Conversation.faults c.args.talk.now; written = g.I.Ends.written c.args.io.now } in
    let new : PointOf g.C.Conversation.talk.Session = record { session = g.C.Conversation.session c.drain-flow.new.talk; faults = g.C.Conversation.faults c.drain-flow.new.talk; written = g.I.Ends.written c.drain-flow.new.io } in
    let from = IsDrained-from g.C.Conversation.talk _ _ _ _ _ c.in-Ok.ensures.session c.in-Ok.ensures.faults _ _ _ _ _ c.drain-flow.ensures.drained in
    let fed = IsDrained-fed g.C.Conversation.talk old (g.C.Conversation.reads c.args.talk.now) c.args.piece.now (g.C.Conversation.reads c.feed.new.self) c.drain-flow.new.gathered.bytes.items new
    (g.C.Conversation.reads c.drain-flow.new.talk) c.drain-flow.result c.in-Ok.ensures.fed from in
    settle_drained g.C.Conversation.talk old (λ (more : List ℕ). g.C.Conversation.reads c.args.talk.now (c.args.piece.now ++ more)) c.drain-flow.new.gathered.bytes.items new
    (g.C.Conversation.reads c.drain-flow.new.talk) (g.I.Ends.written c.settle.new.io) c.drain-flow.result c.settle.result fed c.settle.ensures.settled

pub returns-in-Ok-clause-write_faults : goal.returns-in-Ok-clause-write_faults
returns-in-Ok-clause-write_faults g c = c.settle.ensures.write_faults (g.I.Ends.write_faults c.args.io.now) c.drain-flow.ensures.write_faults
