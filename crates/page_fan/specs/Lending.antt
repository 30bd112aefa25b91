-- A door that is lent out of a session's doors.
use Rattle.std.specs.Prelude.{ℕ, ◌-◌, List, slice_set}
use Rattle.std.specs.Borrow.{Fml, RattleType, MutBor, Lends}
use Rattle.page_fan.specs.contracts.doors.Doors.{the_row}

-- the doors end with the provider's door as it was left behind r
abbrev pub LendsDoor : (D : RattleType) → MutBor (List D.Denot) → ℕ → MutBor D.Denot → Fml
LendsDoor D doors provider r = Lends (the_row D) D doors r (slice_set doors.now (provider - 1))
