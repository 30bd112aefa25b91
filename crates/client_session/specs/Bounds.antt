-- How many nodes a read visits at most, in numbers, whatever the updates of a blob are.
use Rattle.std.specs.Prelude.{◌≡◌, ℕ, ◌+◌, ◌*◌, ◌≤◌, List, length}
use Rattle.tree_geom.specs.Geometry.{height_of}
use Rattle.range_log.specs.Depths.{fold_number}
use Rattle.range_log.specs.Extents.{Extent, InBounds, size_after}
use Rattle.range_log.specs.Visits.{backs_of, pages_met, visits}

-- each sixteenth leaf of a page in a row that leaves valid bytes of it to older ones stores the page anew
abbrev pub FoldNumberIsSixteen : Type 0
FoldNumberIsSixteen = fold_number ≡ 16

-- so no more than fifteen backs lead on from a page's newest leaf, one after another
abbrev pub BacksAreFew : Type 0
BacksAreFew = (p v i : ℕ) (us : List Extent) → 1 ≤ p → InBounds us → v ≤ length us → backs_of p us v i ≤ 15

-- and a read may visit 17 nodes for each page that its bytes meet, and 2 for each level of the version's tree
abbrev pub VisitsAreBounded : Type 0
VisitsAreBounded = (p v o n : ℕ) (us : List Extent) → 1 ≤ p → InBounds us → v ≤ length us
    → visits p us v o n ≤ 17 * length (pages_met p o n) + 2 * height_of p (size_after us v)
