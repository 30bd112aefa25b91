use Rattle.std.specs.Prelude.{ℕ, ◌+◌, ◌/◌, ◌==◌, ◌&&◌, not, nat_lt, nat_le, zero, suc, Bool, true, false, if◌then◌else◌, List, [], ◌∷◌, max, Some, None}
use Rattle.std.specs.List.{filter, position_or_len}
use Rattle.blob_model.specs.Store.{Blob}
use Rattle.tree_geom.specs.declared.range.Range.{Range}
use Rattle.tree_geom.specs.declared.touch.Touch.{Touch}
use Rattle.tree_geom.specs.declared.node.Node.{Node}
use Rattle.tree_geom.specs.declared.node.Node.TheVariants.{Inner}
use Rattle.tree_geom.specs.Geometry.{meets_of, left_half, right_half, page_range, span_of, height_of}
use Rattle.tree_geom.specs.Nodes.{left_link, right_link, depth_in}
use Rattle.range_log.specs.declared.«open».OpenTouch.{OpenTouch}
use Rattle.range_log.specs.Log.{touch_at, size_at}
use Rattle.range_log.specs.Extents.{extent_at, size_after}
use Rattle.range_log.specs.Updates.{extents}
use Rattle.range_log.specs.Rows.{covered, edge_pages, leaf_at, pages_in, valid_in, whole_leaf}
use Rattle.range_log.specs.Depths.{depth_after, fold_number}
use Rattle.range_log.specs.Walk.{half_toward, root_of}
use Rattle.blob_core.specs.World.{World, UpdateEntry, node_in, log_of}

-- the link of a node for the half of its range in which the target begins
abbrev pub link_toward : Node → Range → Range → ℕ
link_toward n r target = if nat_lt target.offset (r.offset + r.size / 2) then left_link n else right_link n

-- From the node of version j for r, by the links of the nodes that are there: the version of the node for the target, or 0 at
-- a link 0.
unfoldable pub followed : ℕ → World → ℕ → ℕ → Range → Range → ℕ
followed zero w blob j r target = j
followed (suc most) w blob j r target =
    elim (nat_le r.size target.size) [
      | true ↦ j
      | false ↦
          elim (node_in w blob j r) [
            | None ↦ 0
            | Some n ↦
                elim (link_toward n r target == 0) [
                  | true ↦ 0
                  | false ↦ followed most w blob (link_toward n r target) (half_toward r target) target
                ]
          ]
    ]

-- 0 for a range past the root of version v, the version itself for one that holds the root, else where the nodes lead from
-- that root
unfoldable pub found_in : ℕ → World → ℕ → List Touch → ℕ → Range → ℕ
found_in p w blob log v target =
    if nat_le (span_of p (size_at log v)) target.offset then 0
    else followed (height_of p (size_at log v)) w blob v (root_of p log v) target

-- the greatest version among these that touches the range, or 0
abbrev pub greatest_open : ℕ → List OpenTouch → Range → ℕ
greatest_open p [] r = 0
greatest_open p (t ∷ ts) r = max (if meets_of p t.touch r then t.version else 0) (greatest_open p ts r)

-- the newest version below an update's own that touches the range, by its hints and the nodes that are there
abbrev pub older_link : ℕ → World → ℕ → Blob → UpdateEntry → Range → ℕ
older_link p w blob b kept r =
    if greatest_open p kept.waiting r == 0 then found_in p w blob (log_of p b.updates) kept.published r else greatest_open p kept.waiting r

-- the own version of update k where it touches the range, else an older one
abbrev pub link_of : ℕ → World → ℕ → Blob → UpdateEntry → ℕ → Range → ℕ
link_of p w blob b kept k r = if meets_of p (touch_at (log_of p b.updates) k) r then k else older_link p w blob b kept r

-- ---- depths, over a fold number
-- how deep the leaf of page i lies to which the nodes lead from the root of version v; 0 where they lead to none
abbrev pub depth_found : ℕ → World → ℕ → List Touch → ℕ → ℕ → ℕ
depth_found p w blob log v i =
    elim (found_in p w blob log v (page_range p i) == 0) [
      | true ↦ 0
      | false ↦ elim (node_in w blob (found_in p w blob log v (page_range p i)) (page_range p i)) [ None ↦ 0 | Some n ↦ depth_in n ]
    ]

-- how deep the newest leaf of page i lies after these updates, the newest first, where it was d before
abbrev pub depth_through : ℕ → ℕ → List OpenTouch → ℕ → ℕ → ℕ
depth_through fold p [] i d = d
depth_through fold p (t ∷ ts) i d = depth_after fold p t.touch i (depth_through fold p ts i d)

-- how deep the leaf of page i of update k lies, by its hints and the nodes that are there
abbrev pub woven_depth : ℕ → ℕ → World → ℕ → Blob → UpdateEntry → ℕ → ℕ → ℕ
woven_depth fold p w blob b kept k i =
    depth_after fold p (touch_at (log_of p b.updates) k) i
    (depth_through fold p kept.waiting i (depth_found p w blob (log_of p b.updates) kept.published i))

-- ---- nodes, over a fold number
-- update k stores page i, which it touches, anew
abbrev pub woven_folded : ℕ → ℕ → World → ℕ → Blob → UpdateEntry → ℕ → ℕ → Bool
woven_folded fold p w blob b kept k i = not (covered p (extents b.updates) k i) && woven_depth fold p w blob b kept k i == 0

-- the pages that it stores anew, rising
abbrev pub woven_folds : ℕ → ℕ → World → ℕ → Blob → UpdateEntry → ℕ → List ℕ
woven_folds fold p w blob b kept k = filter (λ i. woven_folded fold p w blob b kept k i) (edge_pages (touch_at (log_of p b.updates) k))

-- its leaf of page i
abbrev pub woven_leaf : ℕ → ℕ → World → ℕ → Blob → UpdateEntry → ℕ → ℕ → Node
woven_leaf fold p w blob b kept k i =
    if woven_folded fold p w blob b kept k i
    then whole_leaf (pages_in p (extent_at (extents b.updates) k).len + position_or_len (λ j. j == i) (woven_folds fold p w blob b kept k)) (valid_in p (size_after (extents b.updates) k) i)
    else leaf_at p (extent_at (extents b.updates) k) i
    (if covered p (extents b.updates) k i then 0 else older_link p w blob b kept (page_range p i)) (woven_depth fold p w blob b kept k i)

-- its node for the range, as its writer weaves it
abbrev pub woven_by : ℕ → ℕ → World → ℕ → Blob → UpdateEntry → ℕ → Range → Node
woven_by fold p w blob b kept k r =
    if r.size == p then woven_leaf fold p w blob b kept k (r.offset / p)
    else Inner (link_of p w blob b kept k (left_half r)) (link_of p w blob b kept k (right_half r))

-- the same at the store's fold number
abbrev pub woven : ℕ → World → ℕ → Blob → UpdateEntry → ℕ → Range → Node
woven p w blob b kept k r = woven_by fold_number p w blob b kept k r
