-- A leaf of a snapshot: its bytes and its pieces.
use Rattle.std.proofs.Common.{◌≡◌, ◌⊎◌, ℕ, zero, suc, ◌+◌, ◌-◌, ◌*◌, ◌/◌, ◌<◌, ◌≤◌, List, [], length, map, take, drop, get_or, arith, refl, ap, sym, ◌∙◌, inl, inr, true, false, min, length-append}
use Rattle.std.specs.Prelude.{◌==◌}
use Rattle.std.specs.List.{Contains, position_or_len}
use Rattle.std.proofs.lemmas.List.{length-map, get_or-map, get_or-append_right, get_or_append_left}
use Rattle.std.proofs.lemmas.Nat.{le-div}
use Rattle.std.proofs.lemmas.Option.{slice_get-get_or}
use Rattle.blob_model.specs.Content.{Update}
use Rattle.tree_geom.specs.declared.node.Node.{Node}
use Rattle.tree_geom.specs.declared.node.Piece.{Piece}
use Rattle.tree_geom.specs.Geometry.{page_range}
use Rattle.tree_geom.specs.Nodes.{start_of, first_of, second_of}
use Rattle.range_log.specs.Extents.{Extent, extent_at, size_after}
use Rattle.range_log.specs.Updates.{update_at, extents, page_bytes}
use Rattle.range_log.specs.Depths.{fold_number, depth_of}
use Rattle.range_log.specs.Rows.{first_piece, second_piece, piece_count, leaf_start, leaf_from, leaf_len, covered, folded_of, folds_of, back_of, fold_at, pages_in, valid_in, whole_leaf, leaf_at}
use Rattle.range_log.specs.Laws.{LeavesFill, LeavesFit, PiecesFit, PieceFits, FoldsAre, PageBytesStay, ExtentsStand}
use Rattle.range_log.proofs.Bytes.{extent_is, length-extents}
use Rattle.range_log.proofs.Folds.{place_at}
use Rattle.range_log.proofs.Nodes.{leaf_cases}
use Rattle.page_store.specs.Stored.{Stored}
use Rattle.page_store.proofs.Cuts.{page_range as cut_range}
use Rattle.node_store.specs.UpdateRows.{UpdateRow, stored_of, bytes_of_page}
use Rattle.snapshot.proofs.Growing.{cut_count}
use Rattle.snapshot.specs.Versions.{Version, row_at, bytes_of, fold_bytes, updates_of, HasNodeFor, IsVersion}
use Rattle.range_reader.specs.Faults.{HasPieceIn}
use Rattle.range_reader.specs.Reading.{falls, log_of, page_in, leaf_in, no_stored, stored_bytes}
use Rattle.range_reader.proofs.LeafBytes.{LeafIs, leaf_is, read_own, read_back, own_valid, length-page}
use Rattle.range_reader.proofs.Parts.{part_read, length_part}
use Rattle.range_reader.proofs.NodeParts.{counts_one}
use Rattle.snapshot.proofs.Finding.{in_rows}
use Rattle.range_reader.proofs.Among.{length-updates}
use Rattle.range_reader.proofs.Joining.{first_from, second_from}
use Rattle.tree_geom.proofs.Spans.{page_pos}

abbrev pub FitsIn : ℕ → ℕ → Piece → Type 0
FitsIn p m piece = PieceFits p m piece.page piece.from piece.len

-- the pieces of n bytes from b on, of a buffer of m bytes
pub record PiecesAre (p b n m : ℕ) : Type 0 where
  pub one : FitsIn p m (first_piece p b n)
  pub sum : (first_piece p b n).len + (second_piece p b n).len ≡ n
  pub two : 1 ≤ (second_piece p b n).len → (piece_count p b n ≡ 2) × FitsIn p m (second_piece p b n)

pub pieces_are : PiecesFit → (p b n m : ℕ) → 1 ≤ p → 1 ≤ n → n ≤ p → b + n ≤ m → PiecesAre p b n m
pieces_are fit p b n m pos some small in_buffer =
    let f = fit p b n m pos some small in_buffer in
    record {
      one = f.0;
      sum = f.1;
      two = λ has. elim f.2 [
        | inl none ↦ absurd (let e : (second_piece p b n).len ≡ 0 = ap (λ (x : Piece). x.len) none.1 in omega (arith, e))
        | inr both ↦ both
      ];
    }

-- the stored page of the piece has the page's valid bytes at version j from byte `at` on
pub record IsPieceOf (s : Version) (j i at : ℕ) (piece : Piece) : Type 0 where
  pub number : piece.page < length (stored_of (row_at s.rows j))
  pub fits : piece.from + piece.len ≤ length (stored_bytes s j piece.page)
  pub same : (y : ℕ) → y < piece.len → get_or (stored_bytes s j piece.page) (piece.from + y) 0 ≡ get_or (page_in s j i) (at + y) 0

-- update j neither covers page i nor stores it anew
abbrev pub IsOpen : Version → ℕ → ℕ → Type 0
IsOpen s j i = (covered s.page_size (falls s) j i ≡ false) × (folded_of s.page_size (falls s) j i ≡ false)

-- n has the parts of the leaf of page i in the row of update j: they are the page's bytes, and where a valid byte isn't among
-- them it is that of the page at the leaf's back
pub record Tells (s : Version) (j i : ℕ) (n : Node) : Type 0 where
  pub inside : start_of n + ((first_of n).len + (second_of n).len) ≤ s.page_size
  pub valid : start_of n + ((first_of n).len + (second_of n).len) ≤ length (page_in s j i)
  pub one : IsPieceOf s j i (start_of n) (first_of n)
  pub two : 1 ≤ (second_of n).len → IsPieceOf s j i (start_of n + (first_of n).len) (second_of n)
  pub has_one : HasPieceIn n (first_of n).page
  pub has_two : 1 ≤ (second_of n).len → HasPieceIn n (second_of n).page
  pub rest : (x : ℕ) → (x < start_of n) ⊎ (start_of n + ((first_of n).len + (second_of n).len) ≤ x) → x < length (page_in s j i)
      → IsOpen s j i
      × (get_or (page_in s j i) x 0 ≡ get_or (page_in s (back_of s.page_size (falls s) j i) i) x 0)
      × (x < length (page_in s (back_of s.page_size (falls s) j i) i))

pub record LeafOf (s : Version) (j i : ℕ) : Type 0 where
  pub bounds : (1 ≤ j) × (j ≤ length s.rows)
  pub tells : Tells s j i (leaf_in s j i)

-- ---- a leaf of the update's own bytes
-- a byte of a buffer's stored page
cut_read : (p q z : ℕ) (bytes : List ℕ) → z < p → q * p + z < length bytes → get_or (bytes_of_page p bytes q) z 0 ≡ get_or bytes (q * p + z) 0
cut_read p q z bytes small within =
    let span : (q + 1) * p ≡ q * p + p = omega arith in
    part_read 0 bytes (q * p) (min ((q + 1) * p) (length bytes) - q * p) z (omega (arith, span))

cut_length : (p q z : ℕ) (bytes : List ℕ) → z ≤ p → q * p + z ≤ length bytes → z ≤ length (bytes_of_page p bytes q)
cut_length p q z bytes small within =
    let m : ℕ = min ((q + 1) * p) (length bytes) - q * p in
    let span : (q + 1) * p ≡ q * p + p = omega arith in
    let held : length (take m (drop (q * p) bytes)) ≡ m = length_part bytes (q * p) m (omega (arith, span)) in
    omega (arith, held, span)

-- a stored page that holds byte number x of n bytes is one of the pages that they need
among_pages : (p q x n : ℕ) → 1 ≤ p → q * p ≤ x → x < n → q < pages_in p n
among_pages p q x n pos low within =
    let e : (q + 1) * p ≡ q * p + p = omega arith in
    let le : q + 1 ≤ (n + p - 1) / p = le-div (q + 1) (n + p - 1) p pos (omega arith) in
    omega (arith, le)

-- ---- the stored pages of a row
len_is : (us : List Update) (j : ℕ) → 1 ≤ j → j ≤ length us → (extent_at (extents us) j).len ≡ length (update_at us j).bytes
len_is us zero some le = absurd (omega (arith, some))
len_is us (suc k) some le = ap (λ (x : Extent). x.len) (extent_is us k le)

module _ (s : Version) (is : IsVersion s) (j : ℕ) (some : 1 ≤ j) (le : j ≤ length s.rows) where
  own_bytes : bytes_of (row_at s.rows j) ≡ (update_at (updates_of s) j).bytes
  own_bytes = (is.rows j some le).bytes

  counted : length (row_at s.rows j).pages.pages ≡ pages_in s.page_size (length (bytes_of (row_at s.rows j)))
  counted = cut_count s.page_size (row_at s.rows j).pages.pages (page_pos s.page_size is.page_size) (is.paged j some le)

  own_page : (q : ℕ) → q < length (row_at s.rows j).pages.pages → stored_bytes s j q ≡ bytes_of_page s.page_size (bytes_of (row_at s.rows j)) q
  own_page q lt =
      let row : UpdateRow = row_at s.rows j in
      let page : Stored = get_or row.pages.pages q no_stored in
      ap (λ (t : Stored). t.bytes) (get_or_append_left row.pages.pages row.folds no_stored q lt)
      ∙ cut_range s.page_size row.pages.pages q page (is.paged j some le) (slice_get-get_or row.pages.pages q no_stored lt)

  own_piece : (i at b : ℕ) (piece : Piece) → FitsIn s.page_size (length (bytes_of (row_at s.rows j))) piece → piece.page * s.page_size + piece.from ≡ b
      → ((y : ℕ) → y < piece.len → get_or (bytes_of (row_at s.rows j)) (b + y) 0 ≡ get_or (page_in s j i) (at + y) 0) → IsPieceOf s j i at piece
  own_piece i at b piece fits begins read =
      let p : ℕ = s.page_size in
      let row : UpdateRow = row_at s.rows j in
      let bytes : List ℕ = bytes_of row in
      let pos : 1 ≤ p = page_pos p is.page_size in
      let in' : piece.page < length row.pages.pages = omega (
        arith,
        counted,
        among_pages p piece.page (piece.page * p + piece.from) (length bytes)
            pos (omega arith) (omega (arith, fits.some, fits.in_buffer)),
      ) in
      let all : length (stored_of row) ≡ length row.pages.pages + length row.folds = length-append row.pages.pages row.folds in
      let page : stored_bytes s j piece.page ≡ bytes_of_page p bytes piece.page = own_page piece.page in' in
      record {
        number = omega (arith, in', all);
        fits = (let long : piece.from + piece.len ≤ length (bytes_of_page p bytes piece.page) = cut_length p piece.page (piece.from + piece.len)
            bytes fits.in_page (omega (arith, fits.in_buffer)) in omega (arith, long, ap length page));
        same = λ y lt.
            let e : piece.page * p + (piece.from + y) ≡ b + y = omega (arith, begins) in
            ap (λ (l : List ℕ). get_or l (piece.from + y) 0) page
            ∙ cut_read p piece.page (piece.from + y) bytes (omega (arith, lt, fits.in_page)) (omega (arith, lt, fits.in_buffer))
            ∙ ap (λ z. get_or bytes z 0) e
            ∙ read y lt;
      }

  own_leaf : PiecesFit → (i back depth : ℕ) → LeafIs s.page_size j i (updates_of s) (extent_at (falls s) j) → folded_of s.page_size (falls s) j i ≡ false
      → Tells s j i (leaf_at s.page_size (extent_at (falls s) j) i back depth)
  own_leaf pieces i back depth leaf kept =
      let p : ℕ = s.page_size in
      let us : List Update = updates_of s in
      let x : Extent = extent_at (falls s) j in
      let st : ℕ = leaf_start p x i in
      let f : ℕ = leaf_from p x i in
      let l : ℕ = leaf_len p x i in
      let bytes : List ℕ = bytes_of (row_at s.rows j) in
      let pos : 1 ≤ p = page_pos p is.page_size in
      let are : PiecesAre p f l (length bytes) = pieces_are pieces p f l (length bytes) pos leaf.some (omega (arith, leaf.inside)) (omega (arith, leaf.fits, ap length own_bytes)) in
      let first : Piece = first_piece p f l in
      let second : Piece = second_piece p f l in
      let sum : first.len + second.len ≡ l = are.sum in
      let read : (y : ℕ) → y < l → get_or bytes (f + y) 0 ≡ get_or (page_in s j i) (st + y) 0 =
      λ y lt.
      let e : f + (st + y - st) ≡ f + y = omega arith in
      ap (λ (b : List ℕ). get_or b (f + y) 0) own_bytes ∙ ap (λ z. get_or (update_at us j).bytes z 0) (sym e) ∙ sym (read_own p j i us x leaf (st + y) (omega arith) (omega arith)) in
      record {
        inside = omega (arith, sum, leaf.inside);
        valid = omega (arith, sum, own_valid p j i us x leaf);
        one = own_piece i st f first are.one (first_from p f l pos) (λ y lt. read y (omega (arith, lt, sum)));
        two = λ more.
            let next : second.page * p + second.from ≡ f + first.len = omega (arith, second_from p f l pos more, first_from p f l pos) in
            own_piece i (st + first.len) (f + first.len) second (are.two more).1 next
            (λ y lt.
            let e : f + (first.len + y) ≡ f + first.len + y = omega arith in
            let g : st + (first.len + y) ≡ st + first.len + y = omega arith in
            ap (λ z. get_or bytes z 0) (sym e) ∙ read (first.len + y) (omega (arith, lt, sum)) ∙ ap (λ z. get_or (page_in s j i) z 0) g);
        has_one = inl (counts_one p f l, refl);
        has_two = λ more. inr ((are.two more).0, refl);
        rest = λ z out valid.
            let out' : (z < st) ⊎ (st + l ≤ z) = elim out [ inl below ↦ inl below | inr above ↦ inr (omega (arith, above, sum)) ] in
            let back' = read_back p j i us x leaf z out' valid in
            ((back'.0, kept), back'.1, back'.2);
      }

  -- a leaf that stores its page anew has all its valid bytes in one piece
  fold_leaf : FoldsAre → ExtentsStand → (i : ℕ) → HasNodeFor s j (page_range s.page_size i) → folded_of s.page_size (falls s) j i ≡ true
      → Tells s j i (whole_leaf (fold_at fold_number s.page_size (falls s) j i) (valid_in s.page_size (size_after (falls s) j) i))
  fold_leaf folds stand i has anew =
      let p : ℕ = s.page_size in
      let us : List Update = updates_of s in
      let xs : List Extent = falls s in
      let row : UpdateRow = row_at s.rows j in
      let pos : 1 ≤ p = page_pos p is.page_size in
      let in_list : j ≤ length us = omega (arith, le, length-updates s) in
      let stands = stand us is.replayable in
      let v : ℕ = valid_in p (size_after xs j) i in
      let next : (i + 1) * p ≡ i * p + p = omega arith in
      let whole : length (page_in s j i) ≡ v = omega (arith, length-page p us j i, stands.2 j in_list, next) in
      let among : Contains (folds_of p xs j) i = ((folds p j xs pos stands.0 some (omega (arith, in_list, length-extents us))).0 i).1 (has.met, anew) in
      let k : ℕ = position_or_len (λ n. n == i) (folds_of p xs j) in
      let place = place_at i (folds_of p xs j) among in
      let told : map (λ (t : Stored). t.bytes) row.folds ≡ fold_bytes p us j = (is.rows j some le).folds in
      let many : length row.folds ≡ length (folds_of p xs j) =
      sym (length-map row.folds (λ (t : Stored). t.bytes)) ∙ ap length told ∙ length-map (folds_of p xs j) (λ n. page_bytes p us j n) in
      let all : length (stored_of row) ≡ length row.pages.pages + length row.folds = length-append row.pages.pages row.folds in
      let own : length row.pages.pages ≡ pages_in p (extent_at xs j).len = counted ∙ ap (pages_in p) (ap length own_bytes ∙ sym (len_is us j some in_list)) in
      let q : ℕ = fold_at fold_number p xs j i in
      let past : q - pages_in p (extent_at xs j).len ≡ k = omega arith in
      let page : stored_bytes s j q ≡ page_in s j i =
      ap (λ (t : Stored). t.bytes) (get_or-append_right row.pages.pages row.folds (pages_in p (extent_at xs j).len) q no_stored own (omega arith) ∙ ap (λ n. get_or row.folds n no_stored) past)
      ∙ sym (get_or-map (λ (t : Stored). t.bytes) row.folds k no_stored [] (omega (arith, many, place.0)))
      ∙ ap (λ (l : List (List ℕ)). get_or l k []) told
      ∙ get_or-map (λ n. page_bytes p us j n) (folds_of p xs j) k 0 [] place.0
      ∙ ap (λ n. page_bytes p us j n) place.1 in
      record {
        inside = omega (arith, next);
        valid = omega (arith, whole);
        one = record {
          number = omega (arith, own, all, many, place.0);
          fits = omega (arith, ap length page, whole);
          same = λ y lt. ap (λ (l : List ℕ). get_or l (0 + y) 0) page;
        };
        two = λ more. absurd (omega (arith, more));
        has_one = inl (omega arith, refl);
        has_two = λ more. absurd (omega (arith, more));
        rest = λ z out valid. absurd (elim out [ inl below ↦ omega (arith, below) | inr above ↦ omega (arith, above, valid, whole) ]);
      }

pub leaf_of_version : LeavesFill → LeavesFit → PiecesFit → FoldsAre → PageBytesStay → ExtentsStand → (s : Version) → IsVersion s → (j i : ℕ) → HasNodeFor s j (page_range s.page_size i) → LeafOf s j i
leaf_of_version fill fit pieces folds stay stand s is j i has =
    let b = in_rows s j (page_range s.page_size i) has in
    let p : ℕ = s.page_size in
    let pos : 1 ≤ p = page_pos p is.page_size in
    record {
      bounds = b;
      tells = leaf_cases (λ n. Tells s j i n) p j i (falls s)
          (λ anew. fold_leaf s is j b.0 b.1 folds stand i has anew)
          (λ kept. own_leaf s is j b.0 b.1 pieces i (back_of p (falls s) j i) (depth_of p (log_of s) j i)
          (leaf_is fill fit stay stand p j i (updates_of s) pos is.replayable has (omega (arith, b.1, length-updates s)) kept) kept);
    }
