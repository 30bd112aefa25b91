-- How deep the leaves of a page lie: how many older leaves a reader of the newest one may have to go through. Each is said
-- over a fold number, and then at that of the store.
use Rattle.std.specs.Prelude.{ℕ, ◌%◌, zero, suc, List, if◌then◌else◌}
use Rattle.tree_geom.specs.declared.touch.Touch.{Touch}
use Rattle.tree_geom.specs.Geometry.{page_range, meets_of, leaves_open}
use Rattle.range_log.specs.declared.fold.TheConstants.{FOLD}
use Rattle.range_log.specs.Log.{touch_at}

-- how many leaves of a page that their updates don't cover may come in a row until the last of them stores the page anew; with
-- 0 none ever does
unfoldable pub fold_number : ℕ
fold_number = FOLD

-- The depth of the newest leaf of page i after an update, where it was d before. It is 0 where the update covers the page.
-- Where it touches the page and leaves valid bytes of it to older leaves, it is one more, and 0 again at each fold-th such
-- leaf in a row. Where it doesn't touch the page, it is d.
abbrev pub depth_after : ℕ → ℕ → Touch → ℕ → ℕ → ℕ
depth_after fold p t i d = if meets_of p t (page_range p i) then (if leaves_open t i then suc d % fold else 0) else d

-- the depth of the newest leaf of page i at version k, and 0 where there is no such leaf
unfoldable pub depth_by : ℕ → ℕ → List Touch → ℕ → ℕ → ℕ
depth_by fold p log zero i = 0
depth_by fold p log (suc k) i = depth_after fold p (touch_at log (suc k)) i (depth_by fold p log k i)

abbrev pub depth_of : ℕ → List Touch → ℕ → ℕ → ℕ
depth_of p log k i = depth_by fold_number p log k i
