use Rattle.std.proofs.Common.{[], refl}
use Rattle.radix_list.proofs.Tree.{packed_none}
use Rattle.radix_list.proofs.packed.PackedList.empty.Goals as goal

pub invariant_of-result : goal.invariant_of-result
invariant_of-result g c = packed_none [] refl
