use Rattle.std.proofs.Common.{rules, refl, arith}
use Rattle.server_core.proofs.GoingOn.{goes_from, Goes-at, Goes-more, Quits-at, Stops-at, stops_there}
use Rattle.server_core.proofs.serve.drain.Goals as goal

pub items-init : goal.items-init
items-init g c = record { goes = goes_from g.C.Conversation.talk _ (g.C.Conversation.reads c.args.talk.now) c.args.gathered.now.bytes.items c.requires; given = refl; left = refl; read_faults = refl; ends = refl; objects = refl; kept = refl; write_faults = omega arith }

pub returns-in-Err-clause-drained : goal.returns-in-Err-clause-drained
returns-in-Err-clause-drained g c =
    let goes = Goes-at g.C.Conversation.talk _ _ _ _ _ c.in-Err.ensures.session c.in-Err.ensures.faults _ (g.C.Conversation.reads c.args.talk.now) c.items.gathered.bytes.items (g.C.Conversation.reads c.items.talk) c.items.invariant.goes in
    stops_there g.C.Conversation.talk _ (g.C.Conversation.reads c.args.talk.now) c.items.gathered.bytes.items _ (g.C.Conversation.reads c.items.talk) goes

pub items-preserved : goal.items-preserved
items-preserved g c =
    let next = rw c.in-Ok-Some.field-0-is at c.in-Ok-Some.ensures in
    let one = c.in-Goes.ensures.answered in
    let goes = Goes-at g.C.Conversation.talk _ _ _ _ _ next.session next.faults _ (g.C.Conversation.reads c.args.talk.now) c.items.gathered.bytes.items (g.C.Conversation.reads c.items.talk) c.items.invariant.goes in
    let more = Goes-more g.C.Conversation.talk _ (g.C.Conversation.reads c.args.talk.now) c.items.gathered.bytes.items _ (g.C.Conversation.reads c.items.talk) goes c.in-Ok-Some.heard (g.C.Conversation.reads c.next.new.self) next.next.0 _ _ one.0 one.1 in
    record {
      goes = rw c.in-Goes.ensures.reads more;
      given = search rules;
      left = search rules;
      read_faults = search rules;
      ends = search rules;
      objects = search rules;
      kept = search rules;
      write_faults = omega (arith, c.in-Goes.ensures.write_faults.later);
    }

pub returns-in-Quits-clause-drained : goal.returns-in-Quits-clause-drained
returns-in-Quits-clause-drained g c =
    let next = rw c.in-Ok-Some.field-0-is at c.in-Ok-Some.ensures in
    let one = c.in-Quits.ensures.answered in
    let goes = Goes-at g.C.Conversation.talk _ _ _ _ _ next.session next.faults _ (g.C.Conversation.reads c.args.talk.now) c.items.gathered.bytes.items (g.C.Conversation.reads c.items.talk) c.items.invariant.goes in
    Quits-at g.C.Conversation.talk _ (g.C.Conversation.reads c.args.talk.now) c.items.gathered.bytes.items _ (g.C.Conversation.reads c.items.talk) goes c.in-Ok-Some.heard (g.C.Conversation.reads c.next.new.self) next.next.0 _ _ one.0 one.1

pub returns-in-WriteFault-clause-drained : goal.returns-in-WriteFault-clause-drained
returns-in-WriteFault-clause-drained g c =
    let next = rw c.in-Ok-Some.field-0-is at c.in-Ok-Some.ensures in
    let one = c.in-WriteFault.ensures.answered in
    let goes = Goes-at g.C.Conversation.talk _ _ _ _ _ next.session next.faults _ (g.C.Conversation.reads c.args.talk.now) c.items.gathered.bytes.items (g.C.Conversation.reads c.items.talk) c.items.invariant.goes in
    (one.0, one.1, Stops-at g.C.Conversation.talk _ (g.C.Conversation.reads c.args.talk.now) c.items.gathered.bytes.items _ (g.C.Conversation.reads c.items.talk) goes c.in-Ok-Some.heard (g.C.Conversation.reads c.next.new.self) next.next.0 _ _ one.2)

pub returns-in-NoMemory-clause-drained : goal.returns-in-NoMemory-clause-drained
returns-in-NoMemory-clause-drained g c =
    let next = rw c.in-Ok-Some.field-0-is at c.in-Ok-Some.ensures in
    let one = c.in-NoMemory.ensures.answered in
    let goes = Goes-at g.C.Conversation.talk _ _ _ _ _ next.session next.faults _ (g.C.Conversation.reads c.args.talk.now) c.items.gathered.bytes.items (g.C.Conversation.reads c.items.talk) c.items.invariant.goes in
    (one.0, Stops-at g.C.Conversation.talk _ (g.C.Conversation.reads c.args.talk.now) c.items.gathered.bytes.items _ (g.C.Conversation.reads c.items.talk) goes c.in-Ok-Some.heard (g.C.Conversation.reads c.next.new.self) next.next.0 _ _ one.1)
