-- What looks at the names tell, of the history before and after each.
use Rattle.std.specs.Prelude.{◌≡◌, ℕ, List, Option, Result}
use Rattle.file_names.specs.Tree.{NameLog, blob_at, stat_at, enter_fault, Lists}
use Rattle.file_names.specs.declared.tree.Stat.{Stat}
use Rattle.file_names.specs.declared.tree.Listed.{Listed}
use Rattle.file_names.specs.declared.tree.EnterFault.{EnterFault}
use Rattle.file_names.specs.declared.tree.FindFault.{FindFault}
use Rattle.file_names.specs.declared.tree.ListFault.{ListFault}

abbrev pub Finds : List ℕ → NameLog → Result ℕ FindFault → NameLog → Type 0
Finds path before said after = (said ≡ blob_at before path) × (after ≡ before)

abbrev pub Looks : List ℕ → NameLog → Option Stat → NameLog → Type 0
Looks path before said after = (said ≡ stat_at before path) × (after ≡ before)

abbrev pub ListsIn : List ℕ → NameLog → Result (List Listed) ListFault → NameLog → Type 0
ListsIn path before said after = Lists before path said × (after ≡ before)

abbrev pub Foresees : List ℕ → NameLog → Option EnterFault → NameLog → Type 0
Foresees path before said after = (said ≡ enter_fault before path) × (after ≡ before)
