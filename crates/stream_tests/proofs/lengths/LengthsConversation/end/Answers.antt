use Rattle.std.proofs.Common.{◌∙◌, ◌==◌, ℕ, List, length, sym, ap, arith}
use Rattle.stream_tests.proofs.LengthLemmas.{ends_inside, ends_inside_rest}
use Rattle.stream_tests.proofs.lengths.LengthsConversation.end.Goals as goal

pub returns-then-self-gt0-clause-left : goal.returns-then-self-gt0-clause-left
returns-then-self-gt0-clause-left c = ends_inside c.args.self.now.count c.args.self.now.rest c.requires (omega arith)

pub returns-then-not-is_empty-clause-left : goal.returns-then-not-is_empty-clause-left
returns-then-not-is_empty-clause-left c =
    ends_inside_rest c.args.self.now.count c.args.self.now.rest c.requires
    (ap (λ (l : List ℕ). length l == 0) (sym c.as_slice.ensures) ∙ sym c.is_empty.ensures ∙ c.if-not-is_empty.true)
