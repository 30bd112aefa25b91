-- Of which board a view is, and the rule of what is published.
use Rattle.std.specs.Prelude.{◌≡◌, ℕ, List, Option, Some, None}
use Rattle.std.specs.Option.{option_map}
use Rattle.std.specs.Arc.{arc_value}
use mathlib.Core.Option.{some}
use lib.ListN.{get_elem?}
use Rattle.read_board.specs.Fronts.{BoardId, FrontState}
use Rattle.read_board.specs.declared.shown.Shown.{Shown}

abbrev pub front_of : Shown → FrontState
front_of s = arc_value s.chart

-- which board a view knows
abbrev pub known : Option FrontState → Option BoardId
known v = option_map (λ f. f.board) v

abbrev pub Fits : Shown → Option FrontState → Type 0
Fits x v = (f : FrontState) → v ≡ Some f → (front_of x).board ≡ f.board

-- what is published is of the board that each view knows
abbrev pub Keeps : Shown → List (Option FrontState) → Type 0
Keeps x views = (seat : ℕ) (v : Option FrontState) → get_elem? views seat ≡ some v → Fits x v

abbrev pub newcomer : Option FrontState
newcomer = None

-- what is seen afterwards is y, which is of the board that was known
abbrev pub Sees : Option FrontState → Shown → Shown → Option FrontState → Type 0
Sees v x y w = Fits y v × (w ≡ Some (front_of y))
