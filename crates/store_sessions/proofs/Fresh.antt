-- Doors that have counted nothing.
use Rattle.std.proofs.Common.{◌≡◌, ℕ, List, [], ◌∷◌, All, sum_by, refl, ◌∙◌, arith}
use Rattle.std.specs.List.{AllByRecursion}
use Rattle.std.proofs.lemmas.List.Elements.{recursion_from_All}
use Rattle.std.proofs.lemmas.List.Sums.{sum_by-cons}

none_counted : {D : Type 0} (faults : D → ℕ) (doors : List D) → AllByRecursion (λ door. faults door ≡ 0) doors → sum_by faults doors ≡ 0
none_counted faults [] all = refl
none_counted faults (door ∷ doors) all = sum_by-cons faults door doors ∙ omega (arith, all.0, none_counted faults doors all.1)

-- doors of which none has counted a fault have counted none together
pub fresh_doors : {D : Type 0} (faults : D → ℕ) (doors : List D) → All (λ door. faults door ≡ 0) doors → sum_by faults doors ≡ 0
fresh_doors faults doors all = none_counted faults doors (recursion_from_All (λ door. faults door ≡ 0) doors all)
