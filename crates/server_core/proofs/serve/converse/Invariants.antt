use Rattle.std.proofs.Common.{◌≡◌, ◌-◌, ◌≤◌, [], length}
use Rattle.server_core.proofs.Endings.{Serving}
use Rattle.server_core.proofs.serve.converse.Given as goal

abbrev pub invariant-pieces : goal.invariant-pieces
invariant-pieces g l = record {
  serving : Serving g.C.Conversation.talk
      (record { session = g.C.Conversation.session l.fn.talk; faults = g.C.Conversation.faults l.fn.talk; written = g.I.Ends.written l.fn.io })
      (g.C.Conversation.reads l.fn.talk)
      (record { given = g.I.Ends.given l.fn.io; left = g.I.Ends.left l.fn.io; ends = g.I.Ends.ends l.fn.io })
      (record { given = g.I.Ends.given l.io; left = g.I.Ends.left l.io; ends = g.I.Ends.ends l.io })
      l.count
      (record { session = g.C.Conversation.session l.talk; faults = g.C.Conversation.faults l.talk; written = g.I.Ends.written l.io })
      (g.C.Conversation.reads l.talk);
  within : l.count ≤ l.limit;
  room : length l.buf.items ≡ 65536;
  gathered : l.gathered.bytes.items ≡ [];
  read_faults : g.I.Ends.read_faults l.fn.io ≤ g.I.Ends.read_faults l.io;
  write_faults : g.I.Ends.write_faults l.fn.io ≤ g.I.Ends.write_faults l.io;
  objects : g.I.Ends.objects l.io ≡ g.I.Ends.objects l.fn.io;
  kept : g.C.Conversation.kept l.talk ≡ g.C.Conversation.kept l.fn.talk;
}

abbrev pub decreases-pieces : goal.decreases-pieces
decreases-pieces g l = l.limit - l.count
