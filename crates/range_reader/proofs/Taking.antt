-- A leaf that has all that is wanted of its page.
use Rattle.std.proofs.Common.{◌≡◌, ℕ, ◌+◌, ◌-◌, ◌<◌, ◌≤◌, List, length, take, drop, arith, ap, sym, ◌∙◌, subst, get_or}
use Rattle.std.specs.Prelude.{slice_range}
use Rattle.std.proofs.lemmas.List.{ext_get_or}
use Rattle.tree_geom.specs.declared.node.Piece.{Piece}
use Rattle.tree_geom.specs.Geometry.{page_range}
use Rattle.tree_geom.specs.Nodes.{second_of}
use Rattle.range_log.specs.Rows.{node_of}
use Rattle.range_log.specs.Laws.{LeavesFill, LeavesFit, PiecesFit, FoldsAre, PageBytesStay, ExtentsStand}
use Rattle.snapshot.specs.Versions.{Version, HasNodeFor, IsVersion}
use Rattle.tree_geom.proofs.Spans.{page_pos}
use Rattle.range_reader.specs.declared.source.LeafAt.{LeafAt}
use Rattle.node_store.specs.declared.parts.LeafParts.{LeafParts}
use Rattle.range_reader.specs.Faults.{HasPieceIn}
use Rattle.range_reader.specs.Reading.{falls, page_in, leaf_in, own_start, own_len, stored_bytes, IsLeafOf}
use Rattle.range_reader.proofs.Parts.{part_read, length_part}
use Rattle.range_reader.proofs.Leaves.{LeafOf, IsPieceOf, leaf_of_version}
use Rattle.range_reader.proofs.NodeParts.{pieces_in}

-- n bytes of one list that stand in another too
pub slice_in : (xs ys : List ℕ) (a b n : ℕ) → a + n ≤ length xs → b + n ≤ length ys → ((y : ℕ) → y < n → get_or xs (a + y) 0 ≡ get_or ys (b + y) 0)
    → slice_range xs a (a + n) ≡ slice_range ys b (b + n)
slice_in xs ys a b n one two same =
    let left : length (take n (drop a xs)) ≡ n = length_part xs a n one in
    let right : length (take n (drop b ys)) ≡ n = length_part ys b n two in
    let e : a + n - a ≡ n = omega arith in
    let f : b + n - b ≡ n = omega arith in
    ap (λ k. take k (drop a xs)) e
    ∙ ext_get_or 0 (take n (drop a xs)) (take n (drop b ys)) (left ∙ sym right)
    (λ y lt. part_read 0 xs a n y (omega (arith, left, lt)) ∙ same y (omega (arith, left, lt)) ∙ sym (part_read 0 ys b n y (omega (arith, left, lt))))
    ∙ ap (λ k. take k (drop b ys)) (sym f)

-- a buffer that has n bytes of a list, one by one
pub read_all : (xs : List ℕ) (a n : ℕ) (out : List ℕ) → length out ≡ n → a + n ≤ length xs → ((x : ℕ) → x < length out → get_or out x 0 ≡ get_or xs (a + x) 0)
    → out ≡ slice_range xs a (a + n)
read_all xs a n out len fits same =
    let part : length (take n (drop a xs)) ≡ n = length_part xs a n fits in
    let e : a + n - a ≡ n = omega arith in
    ext_get_or 0 out (take n (drop a xs)) (len ∙ sym part) (λ x lt. same x lt ∙ sym (part_read 0 xs a n x (omega (arith, lt, len))))
    ∙ ap (λ k. take k (drop a xs)) (sym e)

-- ---- the pieces of a leaf by its parts
pub lens : (s : Version) (j i : ℕ) (parts : LeafParts) → IsLeafOf s j i parts → parts.first.len + parts.second.len ≡ own_len s j i
lens s j i parts is = omega (arith, ap (λ (x : Piece). x.len) is.first, ap (λ (x : Piece). x.len) is.second)

module _ (s : Version) (j i : ℕ) (parts : LeafParts) (is : IsLeafOf s j i parts) (of : LeafOf s j i) where
  pub first_is : IsPieceOf s j i (own_start s j i) parts.first
  first_is = let P : Piece → Type 0 = λ x. IsPieceOf s j i (own_start s j i) x in subst P (sym is.first) of.tells.one

  first_in : 1 ≤ s.page_size → HasPieceIn (node_of s.page_size (falls s) j (page_range s.page_size i)) parts.first.page
  first_in pos =
      let P : Piece → Type 0 = λ x. HasPieceIn (leaf_in s j i) x.page in
      pieces_in s.page_size j i parts.first.page (falls s) pos (subst P (sym is.first) of.tells.has_one)

  pub second_is : 1 ≤ parts.second.len → IsPieceOf s j i (own_start s j i + parts.first.len) parts.second
  second_is some =
      let P : Piece → Type 0 = λ x. IsPieceOf s j i (own_start s j i + parts.first.len) x in
      let Q : Piece → Type 0 = λ x. IsPieceOf s j i (own_start s j i + x.len) (second_of (leaf_in s j i)) in
      subst P (sym is.second) (subst Q (sym is.first) (of.tells.two (omega (arith, some, ap (λ (x : Piece). x.len) is.second))))

  second_in : 1 ≤ s.page_size → 1 ≤ parts.second.len → HasPieceIn (node_of s.page_size (falls s) j (page_range s.page_size i)) parts.second.page
  second_in pos some =
      let P : Piece → Type 0 = λ x. HasPieceIn (leaf_in s j i) x.page in
      pieces_in s.page_size j i parts.second.page (falls s) pos
      (subst P (sym is.second) (of.tells.has_two (omega (arith, some, ap (λ (x : Piece). x.len) is.second))))

  -- n bytes of a piece, from its byte skip on, are the page's
  pub taken_first : (skip n begin : ℕ) → skip + n ≤ parts.first.len → begin ≡ own_start s j i + skip
      → slice_range (stored_bytes s j parts.first.page) (parts.first.from + skip) (parts.first.from + skip + n) ≡ slice_range (page_in s j i) begin (begin + n)
  taken_first skip n begin fits same =
      let piece = first_is in
      slice_in (stored_bytes s j parts.first.page) (page_in s j i) (parts.first.from + skip) begin n (omega (arith, fits, piece.fits)) (omega (arith, fits, same, of.tells.valid, lens s j i parts is))
      (λ y lt.
      let e : parts.first.from + skip + y ≡ parts.first.from + (skip + y) = omega arith in
      let f : own_start s j i + (skip + y) ≡ begin + y = omega (arith, same) in
      ap (λ z. get_or (stored_bytes s j parts.first.page) z 0) e ∙ piece.same (skip + y) (omega (arith, lt, fits)) ∙ ap (λ z. get_or (page_in s j i) z 0) f)

  pub taken_second : (skip n begin : ℕ) → 1 ≤ parts.second.len → skip + n ≤ parts.second.len → begin ≡ own_start s j i + parts.first.len + skip
      → slice_range (stored_bytes s j parts.second.page) (parts.second.from + skip) (parts.second.from + skip + n) ≡ slice_range (page_in s j i) begin (begin + n)
  taken_second skip n begin some fits same =
      let piece = second_is some in
      slice_in (stored_bytes s j parts.second.page) (page_in s j i) (parts.second.from + skip) begin n (omega (arith, fits, piece.fits))
      (omega (arith, fits, same, of.tells.valid, lens s j i parts is))
      (λ y lt.
      let e : parts.second.from + skip + y ≡ parts.second.from + (skip + y) = omega arith in
      let f : own_start s j i + parts.first.len + (skip + y) ≡ begin + y = omega (arith, same) in
      ap (λ z. get_or (stored_bytes s j parts.second.page) z 0) e ∙ piece.same (skip + y) (omega (arith, lt, fits)) ∙ ap (λ z. get_or (page_in s j i) z 0) f)

-- what the parts of a leaf tell of its pieces
pub record LeafPieces (s : Version) (leaf : LeafAt) : Type 0 where
  pub of : LeafOf s leaf.version leaf.page
  pub lens : leaf.parts.first.len + leaf.parts.second.len ≡ own_len s leaf.version leaf.page
  pub inside : leaf.parts.start + (leaf.parts.first.len + leaf.parts.second.len) ≤ s.page_size
  pub first : IsPieceOf s leaf.version leaf.page (own_start s leaf.version leaf.page) leaf.parts.first
  pub second : 1 ≤ leaf.parts.second.len → IsPieceOf s leaf.version leaf.page (own_start s leaf.version leaf.page + leaf.parts.first.len) leaf.parts.second
  pub first_in : HasPieceIn (node_of s.page_size (falls s) leaf.version (page_range s.page_size leaf.page)) leaf.parts.first.page
  pub second_in : 1 ≤ leaf.parts.second.len → HasPieceIn (node_of s.page_size (falls s) leaf.version (page_range s.page_size leaf.page)) leaf.parts.second.page

pub leaf_pieces : LeavesFill → LeavesFit → PiecesFit → FoldsAre → PageBytesStay → ExtentsStand → (s : Version) → IsVersion s → (leaf : LeafAt)
    → HasNodeFor s leaf.version (page_range s.page_size leaf.page) → IsLeafOf s leaf.version leaf.page leaf.parts → LeafPieces s leaf
leaf_pieces fill fit pieces folds stay stand s is leaf has parts =
    let j : ℕ = leaf.version in
    let i : ℕ = leaf.page in
    let of = leaf_of_version fill fit pieces folds stay stand s is j i has in
    let pos : 1 ≤ s.page_size = page_pos s.page_size is.page_size in
    record {
      of = of;
      lens = lens s j i leaf.parts parts;
      inside = omega (arith, parts.start, lens s j i leaf.parts parts, of.tells.inside);
      first = first_is s j i leaf.parts parts of;
      second = second_is s j i leaf.parts parts of;
      first_in = first_in s j i leaf.parts parts of pos;
      second_in = second_in s j i leaf.parts parts of pos;
    }
