use Rattle.std.specs.Prelude.{ℕ, ◌+◌, ◌-◌, ◌*◌, ◌/◌, ◌==◌, zero, suc, List, length, if◌then◌else◌}
use Rattle.std.specs.List.{range_with_len, sum_by}
use Rattle.tree_geom.specs.Geometry.{page_range, height_of}
use Rattle.range_log.specs.Log.{newest_of}
use Rattle.range_log.specs.Extents.{Extent, size_after, touches}
use Rattle.range_log.specs.Depths.{fold_number}
use Rattle.range_log.specs.Rows.{back_by}

-- the backs that lead from the leaf of page i in the row of version j to one without a back, over a fold number; at most
-- `most` are counted
unfoldable pub backs_from : ℕ → ℕ → ℕ → List Extent → ℕ → ℕ → ℕ
backs_from zero fold p us j i = 0
backs_from (suc most) fold p us j i = if back_by fold p us j i == 0 then 0 else 1 + backs_from most fold p us (back_by fold p us j i) i

-- how many backs lead on, one after another, from the leaf in which version v last touched page i
unfoldable pub backs_by : ℕ → ℕ → List Extent → ℕ → ℕ → ℕ
backs_by fold p us v i = backs_from v fold p us (newest_of p (touches p us) v (page_range p i)) i

abbrev pub backs_of : ℕ → List Extent → ℕ → ℕ → ℕ
backs_of p us v i = backs_by fold_number p us v i

-- the pages that n bytes from o on meet, for n at least 1
abbrev pub pages_met : ℕ → ℕ → ℕ → List ℕ
pages_met p o n = range_with_len (o / p) ((o + n - 1) / p + 1 - o / p)

-- the visit bound: the most nodes that are met when n bytes of version v are read from byte o on
abbrev pub visits_by : ℕ → ℕ → List Extent → ℕ → ℕ → ℕ → ℕ
visits_by fold p us v o n =
    if n == 0 then 0
    else 2 * length (pages_met p o n) + 2 * height_of p (size_after us v) + sum_by (λ i. backs_by fold p us v i) (pages_met p o n)

abbrev pub visits : ℕ → List Extent → ℕ → ℕ → ℕ → ℕ
visits p us v o n = visits_by fold_number p us v o n
