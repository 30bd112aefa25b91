use Rattle.std.proofs.Common.{◌∙◌, sym}
use Rattle.server_core.proofs.GoingOn.{Progress-one}
use Rattle.server_core.proofs.serve.answer_one.Goals as goal

pub returns-then-last-clause-answered : goal.returns-then-last-clause-answered
returns-then-last-clause-answered g c =
    let one = c.answer-said.ensures.answer in
    (Progress-one g.C.Conversation.talk _ _ _ c.args.heard one.reply _ one.answers one.rose (c.in-Goes.ensures.put (g.C.Conversation.talk.said one.reply) one.parts), sym c.is_last-last.ensures ∙ c.if-last.true)

pub returns-else-last-clause-answered : goal.returns-else-last-clause-answered
returns-else-last-clause-answered g c =
    let one = c.answer-said.ensures.answer in
    (Progress-one g.C.Conversation.talk _ _ _ c.args.heard one.reply _ one.answers one.rose (c.in-Goes.ensures.put (g.C.Conversation.talk.said one.reply) one.parts), sym c.is_last-last.ensures ∙ c.if-last.false)

pub returns-in-WriteFault-clause-answered : goal.returns-in-WriteFault-clause-answered
returns-in-WriteFault-clause-answered g c =
    let one = c.answer-said.ensures.answer in
    let put = c.in-WriteFault.ensures.put (g.C.Conversation.talk.said one.reply) one.parts in
    (put.0, put.1, Progress-one g.C.Conversation.talk _ _ _ c.args.heard one.reply put.0 one.answers one.rose put.2)

pub returns-in-NoMemory-clause-answered : goal.returns-in-NoMemory-clause-answered
returns-in-NoMemory-clause-answered g c =
    let one = c.answer-said.ensures.answer in
    let put = c.in-NoMemory.ensures.put (g.C.Conversation.talk.said one.reply) one.parts in
    (put.0, Progress-one g.C.Conversation.talk _ _ _ c.args.heard one.reply _ one.answers one.rose put.1)

-- no text that is put quits
pub unreachable-requires : goal.unreachable-requires
unreachable-requires g c = let one = c.answer-said.ensures.answer in c.in-Quits.ensures.put (g.C.Conversation.talk.said one.reply) one.parts
