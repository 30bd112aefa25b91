-- What a read says of the doors' counts, and why it answers a page fault.
use Rattle.std.specs.Prelude.{◌≡◌, ◌⊎◌, ℕ, ◌+◌, ◌-◌, ◌/◌, ◌≤◌, List, All, Some, slice_get}
use Rattle.tree_geom.specs.declared.node.Node.{Node}
use Rattle.tree_geom.specs.Geometry.{page_range}
use Rattle.tree_geom.specs.Nodes.{count_of, first_of, second_of}
use Rattle.range_log.specs.Rows.{back_of, node_of}
use Rattle.page_store.specs.Page.{Spot}
use Rattle.page_store.specs.Stored.{Stored}
use Rattle.node_store.specs.UpdateRows.{stored_of}
use Rattle.page_fan.specs.Counts.{NoneFell, RoseAt}
use Rattle.snapshot.specs.Versions.{Version, row_at, HasNodeFor}
use Rattle.range_reader.specs.Reading.{falls, newest_in}

-- no door's count fell, nor did their sum
pub record CountsKept (before now : List ℕ) (sum_before sum_now : ℕ) : Type 0 where
  pub none_fell : NoneFell before now
  pub total : sum_before ≤ sum_now

-- the version of the newest leaf of page i, or of one that a back leads to from there
pub data IsLedTo (s : Version) (i : ℕ) : ℕ → Type 0 where
  Newest : IsLedTo s i (newest_in s (page_range s.page_size i))
  Back : (j : ℕ) → IsLedTo s i j → 1 ≤ back_of s.page_size (falls s) j i → IsLedTo s i (back_of s.page_size (falls s) j i)

-- a piece of the leaf lies in stored page q
abbrev pub HasPieceIn : Node → ℕ → Type 0
HasPieceIn n q = ((1 ≤ count_of n) × ((first_of n).page ≡ q)) ⊎ ((count_of n ≡ 2) × ((second_of n).page ≡ q))

-- blob page i needs stored page q of update j: a leaf of the page by which the walk goes has a piece in it
pub record Needs (s : Version) (i j q : ℕ) : Type 0 where
  pub led : IsLedTo s i j
  pub has : HasNodeFor s j (page_range s.page_size i)
  pub piece : HasPieceIn (node_of s.page_size (falls s) j (page_range s.page_size i)) q

-- all doors of the replicas of this stored page failed
abbrev pub AllRose : List ℕ → List ℕ → List Spot → Type 0
AllRose before now spots = All (λ spot. RoseAt before now spot.provider) spots

-- all doors of stored page q of update j failed
pub record StoredFailed (s : Version) (before now : List ℕ) (j q : ℕ) : Type 0 where
  pub stored : Stored
  pub is : slice_get (stored_of (row_at s.rows j)) q ≡ Some stored
  pub failed : AllRose before now stored.spots

-- all doors of one stored page failed in which the leaf of page i of update j has a piece
pub record PieceFailed (s : Version) (before now : List ℕ) (i j : ℕ) : Type 0 where
  pub number : ℕ
  pub piece : HasPieceIn (node_of s.page_size (falls s) j (page_range s.page_size i)) number
  pub failed : StoredFailed s before now j number

-- all doors of one stored page failed that blob page i needs
pub record PageFailed (s : Version) (before now : List ℕ) (i : ℕ) : Type 0 where
  pub version : ℕ
  pub number : ℕ
  pub needed : Needs s i version number
  pub failed : StoredFailed s before now version number

-- and the page is one of those of n bytes at o
pub record PageFailedIn (s : Version) (o n : ℕ) (before now : List ℕ) (i : ℕ) : Type 0 where
  pub from : o / s.page_size ≤ i
  pub upto : i ≤ (o + n - 1) / s.page_size
  pub failed : PageFailed s before now i
