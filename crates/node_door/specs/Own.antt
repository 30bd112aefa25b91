-- What a clause sees of the pages that a door stored: their places with the ids that the node has them under, and for how many more there is room.
use Rattle.std.specs.Prelude.{ℕ, List}

pub record OwnAt : Type 0 where
  pub pages : List (ℕ × ℕ)
  pub spare : ℕ
