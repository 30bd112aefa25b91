use Rattle.std.specs.Prelude.{ℕ, ◌+◌, ◌<◌, ◌≤◌, zero, suc, List, length, slice_index_or, if◌then◌else◌}
use Rattle.tree_geom.specs.declared.range.Range.{Range}
use Rattle.tree_geom.specs.declared.touch.Touch.{Touch}
use Rattle.tree_geom.specs.Geometry.{Aligned, Meets, meets_of, no_touch, span_of}

-- what version k touched: item k - 1 of the log
abbrev pub touch_at : List Touch → ℕ → Touch
touch_at log zero = no_touch
touch_at log (suc k) = slice_index_or log k no_touch

-- the blob's size at version k
abbrev pub size_at : List Touch → ℕ → ℕ
size_at log k = (touch_at log k).size

-- the greatest version up to k whose touched pages meet the range, or 0
unfoldable pub newest_of : ℕ → List Touch → ℕ → Range → ℕ
newest_of p log zero r = 0
newest_of p log (suc k) r = if meets_of p (touch_at log (suc k)) r then suc k else newest_of p log k r

-- j is that version
pub record IsNewest (p : ℕ) (log : List Touch) (k : ℕ) (r : Range) (j : ℕ) : Type 0 where
  pub upto : j ≤ k
  pub met : 1 ≤ j → Meets p (touch_at log j) r
  pub none : (i : ℕ) → j < i → i ≤ k → ¬ Meets p (touch_at log i) r

-- the row of version k has a node for the range
pub record HasNode (p : ℕ) (log : List Touch) (k : ℕ) (r : Range) : Type 0 where
  pub version : (1 ≤ k) × (k ≤ length log)
  pub aligned : Aligned p r
  pub within : r.offset + r.size ≤ span_of p (size_at log k)
  pub met : Meets p (touch_at log k) r
