-- The doors that a maker made.
use Rattle.std.specs.Prelude.{◌≡◌, ℕ, ◌+◌, List, Some, slice_get}

-- the first is a door for provider 1, and so on, where `made` says which doors are made for a provider
abbrev pub AreMade : {D : Type 0} → (ℕ → D → Type 0) → List D → Type 0
AreMade {D = D} made doors = (i : ℕ) (door : D) → slice_get doors i ≡ Some door → made (i + 1) door
