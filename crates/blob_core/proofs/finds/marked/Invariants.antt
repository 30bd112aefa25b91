use Rattle.std.proofs.Common.{◌≡◌, ◌+◌, drop}
use Rattle.blob_model.specs.Store.{true_prefix}
use Rattle.blob_core.proofs.finds.marked.Given as goal

abbrev pub invariant-loop-mark : goal.invariant-loop-mark
invariant-loop-mark l = record { upto : l.count ≡ l.mark-index; rest : l.count + true_prefix (drop l.mark-index l.marks) ≡ true_prefix l.marks }
