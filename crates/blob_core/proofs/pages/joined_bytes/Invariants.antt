use Rattle.blob_core.proofs.Cutting.{JoinedUpTo}
use Rattle.blob_core.proofs.pages.joined_bytes.Given as goal

abbrev pub invariant-loop-i : goal.invariant-loop-i
invariant-loop-i l = JoinedUpTo l.p l.pages l.numbers l.i l.bytes.items
