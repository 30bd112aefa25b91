-- The parts of the nodes of a row.
use Rattle.std.proofs.Common.{◌≡◌, ℕ, ◌*◌, ◌/◌, ◌≤◌, List, arith, ap, sym, ◌∙◌, subst, true, false}
use Rattle.std.specs.Prelude.{◌-◌, ◌%◌, ◌==◌, nat_lt, if◌then◌else◌, Bool}
use Rattle.std.proofs.lemmas.Bool.Decides.{nat_tests}
use Rattle.std.proofs.Math.Nat.{mul-div_cancel}
use Rattle.tree_geom.specs.declared.node.Node.{Node}
use Rattle.tree_geom.specs.Geometry.{page_range}
use Rattle.tree_geom.specs.Nodes.{back_link, depth_in, start_of, first_of, second_of}
use Rattle.range_log.specs.Extents.{Extent, touches}
use Rattle.range_log.specs.Depths.{depth_of}
use Rattle.range_log.specs.Rows.{node_of, leaf_of, back_of, piece_count}
use Rattle.range_log.proofs.Nodes.{leaf_back, leaf_depth}
use Rattle.range_reader.specs.Faults.{HasPieceIn}

pub leaf_node : (p j i : ℕ) (xs : List Extent) → 1 ≤ p → node_of p xs j (page_range p i) ≡ leaf_of p xs j i
leaf_node p j i xs pos =
    let e : (p == p) ≡ true = grind (arith, nat_tests) in
    let f : i * p / p ≡ i = mul-div_cancel i pos in
    rw e (ap (leaf_of p xs j) f)

pub record PartsAre (p j i : ℕ) (xs : List Extent) (n : Node) : Type 0 where
  pub starts : start_of n ≡ start_of (leaf_of p xs j i)
  pub one : first_of n ≡ first_of (leaf_of p xs j i)
  pub two : second_of n ≡ second_of (leaf_of p xs j i)
  pub leads : back_link n ≡ back_of p xs j i
  pub deep : depth_in n ≡ depth_of p (touches p xs) j i

pub leaf_parts : (p j i : ℕ) (xs : List Extent) (n : Node) → 1 ≤ p → n ≡ node_of p xs j (page_range p i) → PartsAre p j i xs n
leaf_parts p j i xs n pos is =
    let e : n ≡ leaf_of p xs j i = is ∙ leaf_node p j i xs pos in
    record { starts = ap start_of e; one = ap first_of e; two = ap second_of e; leads = ap back_link e ∙ leaf_back p j i xs; deep = ap depth_in e ∙ leaf_depth p j i xs }

-- a leaf has a piece
pub counts_one : (p b n : ℕ) → 1 ≤ piece_count p b n
counts_one p b n =
    let P : Bool → Type 0 = λ t. 1 ≤ (if t then 2 else 1) in
    let both : (t : Bool) → P t = λ t. elim t as P [ true ↦ omega arith | false ↦ omega arith ] in
    both (nat_lt (p - b % p) n)

-- the stored pages in which the page's leaf has pieces
pub pieces_in : (p j i q : ℕ) (xs : List Extent) → 1 ≤ p → HasPieceIn (leaf_of p xs j i) q → HasPieceIn (node_of p xs j (page_range p i)) q
pieces_in p j i q xs pos has = let P : Node → Type 0 = λ n. HasPieceIn n q in subst P (sym (leaf_node p j i xs pos)) has
