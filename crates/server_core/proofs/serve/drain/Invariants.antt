use Rattle.std.proofs.Common.{◌≡◌, ◌≤◌, [], length}
use Rattle.server_core.specs.Conversing.{Goes}
use Rattle.server_core.proofs.serve.drain.Given as goal

abbrev pub invariant-items : goal.invariant-items
invariant-items g l = record {
  goes : Goes g.C.Conversation.talk
      (record { session = g.C.Conversation.session l.fn.talk; faults = g.C.Conversation.faults l.fn.talk; written = g.I.Ends.written l.fn.io })
      (g.C.Conversation.reads l.fn.talk)
      l.gathered.bytes.items
      (record { session = g.C.Conversation.session l.talk; faults = g.C.Conversation.faults l.talk; written = g.I.Ends.written l.io })
      (g.C.Conversation.reads l.talk);
  given : g.I.Ends.given l.io ≡ g.I.Ends.given l.fn.io;
  left : g.I.Ends.left l.io ≡ g.I.Ends.left l.fn.io;
  read_faults : g.I.Ends.read_faults l.io ≡ g.I.Ends.read_faults l.fn.io;
  ends : g.I.Ends.ends l.io ≡ g.I.Ends.ends l.fn.io;
  objects : g.I.Ends.objects l.io ≡ g.I.Ends.objects l.fn.io;
  kept : g.C.Conversation.kept l.talk ≡ g.C.Conversation.kept l.fn.talk;
  write_faults : g.I.Ends.write_faults l.fn.io ≤ g.I.Ends.write_faults l.io;
}

abbrev pub decreases-items : goal.decreases-items
decreases-items g l = length (g.C.Conversation.reads l.talk []).whole
