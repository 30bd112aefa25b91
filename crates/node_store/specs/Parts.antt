-- What a node's parts say of it.
use Rattle.std.specs.Prelude.{◌≡◌, ℕ, ◌+◌, nat_lt, true, false, if◌then◌else◌, List, Option, MatchOption, Some, slice_get}
use Rattle.tree_geom.specs.declared.node.Node.{Node}
use Rattle.tree_geom.specs.declared.node.Node.TheVariants.{Inner}
use Rattle.tree_geom.specs.declared.node.Piece.{Piece}
use Rattle.tree_geom.specs.Nodes.{is_leaf, start_of, first_of, second_of, back_link, depth_in}
use Rattle.node_store.specs.declared.parts.LeafParts.{LeafParts}

-- the node is a leaf, and these are its parts; how many pieces there are follows from the second one's length
pub record IsPartsOf (node : Node) (parts : LeafParts) : Type 0 where
  pub leaf : is_leaf node ≡ true
  pub start : start_of node ≡ parts.start
  pub first : first_of node ≡ parts.first
  pub second : second_of node ≡ parts.second
  pub back : back_link node ≡ parts.back
  pub depth : depth_in node ≡ parts.depth

-- the links of an inner node, or none of a leaf
abbrev pub HasLinks : Node → Option (ℕ × ℕ) → Type 0
HasLinks node links = MatchOption links (is_leaf node ≡ true) (λ l. node ≡ Inner l.0 l.1)

-- the parts of a leaf, or none of an inner node
abbrev pub HasParts : Node → Option LeafParts → Type 0
HasParts node parts = MatchOption parts (is_leaf node ≡ false) (IsPartsOf node)

-- the same of a node of that number
abbrev pub LinksOf : List Node → ℕ → Option (ℕ × ℕ) → Type 0
LinksOf nodes index links = (node : Node) → slice_get nodes index ≡ Some node → HasLinks node links

abbrev pub PartsOf : List Node → ℕ → Option LeafParts → Type 0
PartsOf nodes index parts = (node : Node) → slice_get nodes index ≡ Some node → HasParts node parts

-- that of a leaf's two pieces which has byte b of the page, where the leaf's bytes begin at byte `start`
abbrev pub piece_with : ℕ → Piece → Piece → ℕ → Piece
piece_with start first second b = if nat_lt b (start + first.len) then first else second
