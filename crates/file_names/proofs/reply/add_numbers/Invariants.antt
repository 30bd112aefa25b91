use Rattle.std.proofs.Common.{◌≡◌, ◌++◌, drop}
use Rattle.file_names.specs.Said.{numbers_behind, numbers_text}
use Rattle.file_names.proofs.reply.add_numbers.Given as goal

abbrev pub invariant-loop-number : goal.invariant-loop-number
invariant-loop-number l = l.line.items ++ numbers_behind l.first (drop l.number-index l.numbers) ≡ l.fn.line.items ++ numbers_text l.numbers
