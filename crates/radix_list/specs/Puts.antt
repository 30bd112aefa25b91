-- Items that lie in slots, each with the name of its slot before it.
use Rattle.std.specs.Prelude.{ℕ, List, map}
use Rattle.boxcar.specs.Slot.{Named}

-- the items
abbrev pub items_put : {T : Type 0} → List (ℕ × T) → List T
items_put {T} puts = map (λ (p : ℕ × T). p.1) puts

-- the names of the slots that they lie in
abbrev pub slots_told : {T : Type 0} → List (ℕ × T) → List ℕ
slots_told {T} puts = map (λ (p : ℕ × T). p.0) puts

-- the names of slots
abbrev pub names_of : List Named → List ℕ
names_of slots = map (λ (s : Named). s.id) slots
