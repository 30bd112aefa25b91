-- What an update touches, its version, the height of its tree and the size of its pages.
use Rattle.std.specs.Prelude.{ℕ}
use Rattle.tree_geom.specs.declared.touch.Touch.{Touch}

pub record RowShape : Type 0 where
  pub touch : Touch
  pub version : ℕ
  pub height : ℕ
  pub page_size : ℕ
