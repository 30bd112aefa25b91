use Rattle.std.specs.Prelude.{List}
use Rattle.std.specs.List.Sorted.{IsNonDecreasingBy}
use Rattle.branching.specs.declared.Branch.{Branch}

-- no branch begins before one that stands before it
abbrev pub IsRising : List Branch → Type 0
IsRising branches = IsNonDecreasingBy (λ (b : Branch). b.after) branches
