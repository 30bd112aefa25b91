use Rattle.std.proofs.Common.{ℕ, List, [], subst}
use Rattle.server_core.specs.Conversing.{IsAnswered}
use Rattle.server_core.specs.Talk.{PointOf}
use Rattle.server_core.proofs.Settled.{settle_answered}
use Rattle.server_core.proofs.serve.answer_last.Goals as goal

pub returns-clause-answered : goal.returns-clause-answered
returns-clause-answered g c =
    let old : PointOf g.C.Conversation.talk.Session = record { session = g.C.Conversation.session c.args.talk.now; faults = g.C.Conversation.faults c.args.talk.now; written = g.I.Ends.written c.args.io.now } in
    let new : PointOf g.C.Conversation.talk.Session = record { session = g.C.Conversation.session c.answer_one-flow.new.talk; faults = g.C.Conversation.faults c.answer_one-flow.new.talk; written = g.I.Ends.written c.answer_one-flow.new.io } in
    let one = subst (λ (held : List ℕ). IsAnswered g.C.Conversation.talk held old c.args.heard c.answer_one-flow.new.gathered.bytes.items new c.answer_one-flow.result) c.requires.settled c.answer_one-flow.ensures.answered in
    settle_answered g.C.Conversation.talk [] old c.args.heard c.answer_one-flow.new.gathered.bytes.items new (g.I.Ends.written c.settle.new.io) c.answer_one-flow.result c.settle.result one c.settle.ensures.settled

pub returns-clause-write_faults : goal.returns-clause-write_faults
returns-clause-write_faults g c = c.settle.ensures.write_faults (g.I.Ends.write_faults c.args.io.now) c.answer_one-flow.ensures.write_faults
