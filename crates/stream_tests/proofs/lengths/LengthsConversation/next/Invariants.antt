use Rattle.std.proofs.Common.{◌≡◌, ◌++◌, ℕ, List, length}
use Rattle.stream_tests.specs.Lengths.{heard_behind}
use Rattle.stream_tests.proofs.lengths.LengthsConversation.next.Given as goal

abbrev pub invariant-bytes : goal.invariant-bytes
invariant-bytes l = record {
  reads : (more : List ℕ) → heard_behind l.fn.self.count (l.fn.self.rest ++ more) ≡ heard_behind l.self.count (l.self.rest ++ more);
  greatest : l.self.greatest ≡ l.fn.self.greatest;
}

abbrev pub decreases-bytes : goal.decreases-bytes
decreases-bytes l = length l.self.rest
