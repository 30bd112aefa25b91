-- The row of a numbered update, by what its ticket tells.
use Rattle.std.specs.Prelude.{◌≡◌, ℕ, ◌+◌, ◌-◌, ◌/◌, ◌≤◌, ◌==◌, ◌&&◌, not, Bool, if◌then◌else◌, suc, List, length, map}
use Rattle.std.specs.List.{filter, position_or_len}
use Rattle.tree_geom.specs.declared.range.Range.{Range}
use Rattle.tree_geom.specs.declared.node.Node.{Node}
use Rattle.tree_geom.specs.declared.node.Node.TheVariants.{Inner}
use Rattle.tree_geom.specs.Geometry.{page_range, left_half, right_half, height_of, covers}
use Rattle.range_log.specs.Log.{newest_of}
use Rattle.range_log.specs.Extents.{Extent}
use Rattle.range_log.specs.Depths.{depth_of}
use Rattle.range_log.specs.Rows.{edge_pages, levels_of, leaf_at, pages_in, valid_in, whole_leaf}
use Rattle.border_hints.specs.Numbered.{NumberedUpdate, own_touch, log_upto}
use Rattle.border_hints.specs.Borders.{BorderLinks, AreBorders}

-- where the update falls
abbrev pub own_extent : NumberedUpdate → Extent
own_extent t = record { at = t.at; len = t.len }

-- the newest version up to its own that touches the range
abbrev pub own_link : NumberedUpdate → Range → ℕ
own_link t r = newest_of t.snapshot.page_size (log_upto t) t.version r

-- the newest version below its own that touches page i, or 0 where it covers the page
abbrev pub own_back : NumberedUpdate → ℕ → ℕ
own_back t i =
    if covers t.snapshot.page_size t.at t.len t.size i then 0
    else newest_of t.snapshot.page_size (log_upto t) (t.version - 1) (page_range t.snapshot.page_size i)

-- how deep its leaf of page i lies: how many backs lead on from it, one after another; 0 again where it stores the page anew
abbrev pub own_depth : NumberedUpdate → ℕ → ℕ
own_depth t i = depth_of t.snapshot.page_size (log_upto t) t.version i

-- it stores page i, which it touches, anew
abbrev pub own_folded : NumberedUpdate → ℕ → Bool
own_folded t i = not (covers t.snapshot.page_size t.at t.len t.size i) && own_depth t i == 0

-- the pages that it stores anew, rising
abbrev pub own_folds : NumberedUpdate → List ℕ
own_folds t = filter (λ i. own_folded t i) (edge_pages (own_touch t))

-- the place of page i among them
abbrev pub own_place : NumberedUpdate → ℕ → ℕ
own_place t i = position_or_len (λ j. j == i) (own_folds t)

-- its leaf of page i
abbrev pub own_leaf : NumberedUpdate → ℕ → Node
own_leaf t i =
    if own_folded t i then whole_leaf (pages_in t.snapshot.page_size t.len + own_place t i) (valid_in t.snapshot.page_size t.size i)
    else leaf_at t.snapshot.page_size (own_extent t) i (own_back t i) (own_depth t i)

-- its inner node for the range
abbrev pub own_inner : NumberedUpdate → Range → Node
own_inner t r = Inner (own_link t (left_half r)) (own_link t (right_half r))

-- its node for the range
abbrev pub own_node : NumberedUpdate → Range → Node
own_node t r = if r.size == t.snapshot.page_size then own_leaf t (r.offset / t.snapshot.page_size) else own_inner t r

-- the nodes beside their ranges
abbrev pub own_nodes : NumberedUpdate → List Range → List (Range × Node)
own_nodes t ranges = map (λ r. (r, own_node t r)) ranges

-- the ranges of the update's row
abbrev pub own_ranges : NumberedUpdate → List Range
own_ranges t = levels_of t.snapshot.page_size (own_touch t) (suc (height_of t.snapshot.page_size t.size))

-- the ranges of such a list
abbrev pub ranges_of : List (Range × Node) → List Range
ranges_of pairs = map (λ (x : Range × Node). x.0) pairs

-- its nodes
abbrev pub nodes_of : List (Range × Node) → List Node
nodes_of pairs = map (λ (x : Range × Node). x.1) pairs

-- a planned row: its nodes beside their ranges, and the pages that the update stores anew
pub record RowPlan : Type 0 where
  pub nodes : List (Range × Node)
  pub folded : List ℕ

-- the borders are those of its row
pub record AreOwnBorders (t : NumberedUpdate) (borders : BorderLinks) : Type 0 where
  pub page_size : borders.page_size ≡ t.snapshot.page_size
  pub touch : borders.touch ≡ own_touch t
  pub newest : AreBorders (log_upto t) (t.version - 1) borders

-- by these its nodes are told: its borders, a tree of no more heights than there are, and so few stored pages that two more have numbers
pub record TellsNodes (t : NumberedUpdate) (borders : BorderLinks) : Type 0 where
  pub own : AreOwnBorders t borders
  pub low : height_of t.snapshot.page_size t.size ≤ 38
  pub few : length t.pages.pages ≤ 4294967293

-- and the height of its tree
pub record TellsRow (t : NumberedUpdate) (borders : BorderLinks) (height : ℕ) : Type 0 where
  pub nodes : TellsNodes t borders
  pub height_is : height ≡ height_of t.snapshot.page_size t.size
