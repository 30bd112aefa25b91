use Rattle.std.proofs.Common.{[]}
use Rattle.server_core.proofs.GoingOn.{Progress-from}
use Rattle.server_core.proofs.Endings.{Finished-none, Finished-cut, Finished-clean, Finished-at, Finished-last, Finished-quit, Finished-fault, Finished-no_memory}
use Rattle.server_core.proofs.serve.finish.Goals as goal

pub returns-in-Err-clause-finished : goal.returns-in-Err-clause-finished
returns-in-Err-clause-finished g c =
    Finished-at g.C.Conversation.talk _ (g.C.Conversation.reads c.args.talk.now []) _ _ _ _ _ _ c.in-Err.ensures.session c.in-Err.ensures.faults (Finished-none g.C.Conversation.talk _ (g.C.Conversation.reads c.args.talk.now []))

pub returns-in-Ok-Clean-clause-finished : goal.returns-in-Ok-Clean-clause-finished
returns-in-Ok-Clean-clause-finished g c =
    let end = rw c.in-Ok-Clean.field-0-is at c.in-Ok-Clean.ensures in
    Finished-at g.C.Conversation.talk _ (g.C.Conversation.reads c.args.talk.now []) _ _ _ _ _ _ end.session end.faults (Finished-clean g.C.Conversation.talk _ (g.C.Conversation.reads c.args.talk.now []) end.left.0 c.requires.fed end.left.1)

pub returns-in-Ok-Cut-clause-finished : goal.returns-in-Ok-Cut-clause-finished
returns-in-Ok-Cut-clause-finished g c =
    let end = rw c.in-Ok-Cut.field-0-is at c.in-Ok-Cut.ensures in
    Finished-at g.C.Conversation.talk _ (g.C.Conversation.reads c.args.talk.now []) _ _ _ _ _ _ end.session end.faults (Finished-cut g.C.Conversation.talk _ (g.C.Conversation.reads c.args.talk.now []) end.left)

pub returns-in-Goes-clause-finished : goal.returns-in-Goes-clause-finished
returns-in-Goes-clause-finished g c =
    let end = rw c.in-Ok-Last.field-0-is at c.in-Ok-Last.ensures in
    let one = c.in-Goes.ensures.answered in
    let progress = Progress-from g.C.Conversation.talk _ _ _ _ _ end.session end.faults _ _ _ _ one.0 in
    Finished-last g.C.Conversation.talk _ _ (g.C.Conversation.reads c.args.talk.now []) c.in-Ok-Last.heard end.left.0 c.requires.fed progress one.1 end.left.1

pub returns-in-Quits-clause-finished : goal.returns-in-Quits-clause-finished
returns-in-Quits-clause-finished g c =
    let end = rw c.in-Ok-Last.field-0-is at c.in-Ok-Last.ensures in
    let one = c.in-Quits.ensures.answered in
    let progress = Progress-from g.C.Conversation.talk _ _ _ _ _ end.session end.faults _ _ _ _ one.0 in
    Finished-quit g.C.Conversation.talk _ _ (g.C.Conversation.reads c.args.talk.now []) c.in-Ok-Last.heard end.left.0 c.requires.fed progress one.1 end.left.1

pub returns-in-WriteFault-clause-finished : goal.returns-in-WriteFault-clause-finished
returns-in-WriteFault-clause-finished g c =
    let end = rw c.in-Ok-Last.field-0-is at c.in-Ok-Last.ensures in
    let one = c.in-WriteFault.ensures.answered in
    let progress = Progress-from g.C.Conversation.talk _ _ _ _ _ end.session end.faults _ _ _ _ one.2 in
    Finished-fault g.C.Conversation.talk _ _ (g.C.Conversation.reads c.args.talk.now []) c.in-Ok-Last.heard end.left.0 c.requires.fed one.0 one.1 progress end.left.1

pub returns-in-NoMemory-clause-finished : goal.returns-in-NoMemory-clause-finished
returns-in-NoMemory-clause-finished g c =
    let end = rw c.in-Ok-Last.field-0-is at c.in-Ok-Last.ensures in
    let one = c.in-NoMemory.ensures.answered in
    let progress = Progress-from g.C.Conversation.talk _ _ _ _ _ end.session end.faults _ _ _ _ one.1 in
    Finished-no_memory g.C.Conversation.talk _ _ (g.C.Conversation.reads c.args.talk.now []) c.in-Ok-Last.heard end.left.0 c.requires.fed one.0 progress
