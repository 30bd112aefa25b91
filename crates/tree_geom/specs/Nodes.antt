use Rattle.std.specs.Prelude.{ℕ, Bool, true, false}
use Rattle.tree_geom.specs.declared.node.Node.{Node}
use Rattle.tree_geom.specs.declared.node.Node.TheVariants.{Inner, Leaf}
use Rattle.tree_geom.specs.declared.node.Piece.{Piece}

-- the version that a node links to for the lower half of its range; a leaf has no such link
abbrev pub left_link : Node → ℕ
left_link (Inner left right) = left
left_link (Leaf start count first second depth back) = 0

-- the version that a node links to for the upper half of its range; a leaf has no such link
abbrev pub right_link : Node → ℕ
right_link (Inner left right) = right
right_link (Leaf start count first second depth back) = 0

-- the version of the older leaf that a leaf leads back to; an inner node leads back to none
abbrev pub back_link : Node → ℕ
back_link (Inner left right) = 0
back_link (Leaf start count first second depth back) = back

-- how many backs a leaf says lead on from it, one after another; none lead on from an inner node
abbrev pub depth_in : Node → ℕ
depth_in (Inner left right) = 0
depth_in (Leaf start count first second depth back) = depth

-- whether a node is a leaf
abbrev pub is_leaf : Node → Bool
is_leaf (Inner left right) = false
is_leaf (Leaf start count first second depth back) = true

-- the byte of the page at which a leaf's own bytes begin; an inner node has none
abbrev pub start_of : Node → ℕ
start_of (Inner left right) = 0
start_of (Leaf start count first second depth back) = start

-- how many pieces a leaf has; an inner node has none
abbrev pub count_of : Node → ℕ
count_of (Inner left right) = 0
count_of (Leaf start count first second depth back) = count

-- what stands in place of a piece that there is none of
abbrev pub no_piece : Piece
no_piece = record { page = 0; from = 0; len = 0 }

-- a leaf's first piece
abbrev pub first_of : Node → Piece
first_of (Inner left right) = no_piece
first_of (Leaf start count first second depth back) = first

-- a leaf's second piece
abbrev pub second_of : Node → Piece
second_of (Inner left right) = no_piece
second_of (Leaf start count first second depth back) = second
