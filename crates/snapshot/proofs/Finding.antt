-- The nodes of a row that is that of its update.
use Rattle.std.proofs.Common.{◌≡◌, ℕ, zero, suc, ◌+◌, ◌<◌, ◌≤◌, List, [], ◌∷◌, length, map, arith, refl, ap, sym, ◌∙◌, subst, get_or}
use Rattle.std.specs.Prelude.{Option, Some, None, MatchOption, IfSome, IfNone, slice_get}
use Rattle.std.specs.List.{Contains}
use Rattle.std.proofs.lemmas.List.{length-map, get_or-map}
use Rattle.std.proofs.lemmas.Option.{slice_get-get_or}
use Rattle.blob_model.specs.Content.{Update, size_of}
use Rattle.tree_geom.specs.declared.range.Range.{Range}
use Rattle.tree_geom.specs.declared.touch.Touch.{Touch}
use Rattle.tree_geom.specs.declared.node.Node.{Node}
use Rattle.tree_geom.specs.Geometry.{height_of}
use Rattle.range_log.specs.Log.{HasNode, size_at}
use Rattle.range_log.specs.Extents.{Extent, InBounds, touches}
use Rattle.range_log.specs.Updates.{extents, Replayable}
use Rattle.range_log.specs.Rows.{node_of, row_of, row_keys_of, levels_of}
use Rattle.range_log.specs.Laws.{RowKeysExact, ExtentsStand}
use Rattle.boxcar.specs.Table.{Shelves}
use Rattle.node_store.specs.House.{IsIn}
use Rattle.node_store.specs.Placed.{PlacedNode}
use Rattle.node_store.specs.UpdateRows.{UpdateRow, IsNodeFor, HasNoNodeFor, HasRangesOf}
use Rattle.range_log.proofs.Grown.{touch-touches, length-touches}
use Rattle.range_log.proofs.Bytes.{length-extents}
use Rattle.range_log.proofs.Levels.{row_keys_are}
use Rattle.snapshot.specs.Versions.{Version, row_at, updates_of, IsRowOf, IsVersion, IsFound, HasNodeFor, NodesLieIn, no_row, falls}
use Rattle.snapshot.proofs.Lists.{length-updates}
use Rattle.tree_geom.proofs.Spans.{page_pos}

-- ---- what a function makes of the elements of a list
contains_made : {X Y : Type 0} (f : X → Y) (xs : List X) (x : X) → Contains xs x → Contains (map f xs) (f x)
contains_made f xs x (k, lt, e) = (k, omega (arith, length-map xs f), get_or-map f xs k x (f x) lt ∙ ap f e)

made_from : {X Y : Type 0} (f : X → Y) (xs : List X) (d : X) (y : Y) → Contains (map f xs) y → (k : ℕ) × (k < length xs) × (f (get_or xs k d) ≡ y)
made_from f xs d y (k, lt, e) =
    let within : k < length xs = omega (arith, length-map xs f) in
    (k, within, sym (get_or-map f xs k d y within) ∙ e)

-- ---- a row's pairs
node_with : ℕ → List Extent → ℕ → Range → Range × Node
node_with p xs j r = (r, node_of p xs j r)

-- a node of the row stands in the row of the update
in_row : (p j : ℕ) (xs : List Extent) (row : UpdateRow) (range : Range) (node : Node) → row.nodes ≡ row_of p xs j → Contains row.nodes (range, node)
    → Contains (row_keys_of p (touches p xs) j) range × (node ≡ node_of p xs j range)
unfolding node_with
in_row p j xs row range node is among =
    let C : List (Range × Node) → Type 0 = λ l. Contains l (range, node) in
    let here : Contains (row_of p xs j) (range, node) = subst C is among in
    let keys : List Range = row_keys_of p (touches p xs) j in
    let from : (k : ℕ) × (k < length keys) × (node_with p xs j (get_or keys k range) ≡ (range, node)) = made_from (node_with p xs j) keys range (range, node) here in
    let same : get_or keys from.0 range ≡ range = ap (λ (e : Range × Node). e.0) from.2 in
    ((from.0, from.1, same), sym (ap (λ (e : Range × Node). e.1) from.2) ∙ ap (node_of p xs j) same)

-- a range of the row of the update has a node in the row
of_row : (p j : ℕ) (xs : List Extent) (row : UpdateRow) (range : Range) → row.nodes ≡ row_of p xs j → Contains (row_keys_of p (touches p xs) j) range
    → (k : ℕ) × (n : Range × Node) × (slice_get row.nodes k ≡ Some n) × (n.0 ≡ range)
unfolding node_with
of_row p j xs row range is among =
    let keys : List Range = row_keys_of p (touches p xs) j in
    let C : List (Range × Node) → Type 0 = λ l. Contains l (node_with p xs j range) in
    let pair : Range × Node = node_with p xs j range in
    let from : Contains row.nodes pair = subst C (sym is) (contains_made (node_with p xs j) keys range among) in
    (from.0, get_or row.nodes from.0 pair, slice_get-get_or row.nodes from.0 pair from.1, ap (λ (e : Range × Node). e.0) from.2)

-- ---- what a search in the row finds
pub found_node : RowKeysExact → (p j : ℕ) (xs : List Extent) (row : UpdateRow) (range : Range) (placed : PlacedNode) → 1 ≤ p → InBounds xs → 1 ≤ j → j ≤ length xs
    → row.nodes ≡ row_of p xs j → IsNodeFor row range placed → HasNode p (touches p xs) j range × (placed.node ≡ node_of p xs j range)
found_node exact p j xs row range placed pos bounds some le is found =
    let in' = in_row p j xs row range placed.node is found.among in
    ((exact p j xs range pos bounds some le).0 in'.0, in'.1)

pub found_none : RowKeysExact → (p j : ℕ) (xs : List Extent) (row : UpdateRow) (range : Range) → 1 ≤ p → InBounds xs → 1 ≤ j → j ≤ length xs
    → row.nodes ≡ row_of p xs j → HasNoNodeFor row range → HasNode p (touches p xs) j range → ⊥
found_none exact p j xs row range pos bounds some le is none has =
    let at = of_row p j xs row range is ((exact p j xs range pos bounds some le).1 has) in
    none at.0 at.1 at.2 at.3

-- ---- the ranges of a row
-- what stands first in what a function pairs with each element
firsts_made : {X Y : Type 0} (f : X → Y) (xs : List X) → map (λ (e : X × Y). e.0) (map (λ x. (x, f x)) xs) ≡ xs
firsts_made f [] = refl
firsts_made f (x ∷ xs) = ap (λ l. x ∷ l) (firsts_made f xs)

-- the nodes of a row of a version are those of the ranges of a tree over its pages
pub has_ranges : (s : Version) (j : ℕ) (row : UpdateRow) → IsVersion s → row ≡ row_at s.rows j → 1 ≤ j → j ≤ length s.rows → HasRangesOf s.page_size row
has_ranges s j row is same some le =
    let p : ℕ = s.page_size in
    let xs : List Extent = extents (updates_of s) in
    let h : ℕ = height_of p (size_at (touches p xs) j) in
    let own : IsRowOf p (updates_of s) j (row_at s.rows j) = is.rows j some le in
    let R : UpdateRow → Type 0 = λ r. HasRangesOf p r in
    subst R (sym same) (
      h + 1,
      ap (map (λ (e : Range × Node). e.0)) own.nodes
          ∙ firsts_made (node_of p xs j) (row_keys_of p (touches p xs) j)
          ∙ row_keys_are p (touches p xs) j h refl
          ∙ ap (λ (t : Touch). levels_of p t (h + 1)) (sym own.touch),
    )

-- ---- sizes
pub touch_size : ExtentsStand → (p k : ℕ) (us : List Update) (row : UpdateRow) → Replayable us → 1 ≤ k → k ≤ length us → IsRowOf p us k row → row.touch.size ≡ size_of us k
touch_size stand p zero us row ok some le is = absurd (omega arith)
touch_size stand p (suc k) us row ok some le is =
    ap (λ (t : Touch). t.size) (is.touch ∙ touch-touches p (extents us) k (omega (arith, length-extents us))) ∙ (stand us ok).2 (suc k) le

-- ---- what a snapshot finds
pub version_finds : RowKeysExact → ExtentsStand → (s : Version) (j : ℕ) (range : Range) (row : UpdateRow) (placed : PlacedNode) → IsVersion s → row ≡ row_at s.rows j
    → 1 ≤ j → j ≤ length s.rows → IsNodeFor row range placed → IsFound s j range placed
version_finds exact stand s j range row placed is same some le found =
    let us : List Update = updates_of s in
    let own : IsRowOf s.page_size us j (row_at s.rows j) = is.rows j some le in
    let P : UpdateRow → Type 0 = λ r. IsNodeFor r range placed in
    let in_list : j ≤ length (extents us) = omega (arith, length-extents us, length-updates s.rows) in
    let at = found_node exact s.page_size j (extents us) (row_at s.rows j) range placed (page_pos s.page_size is.page_size) (stand us is.replayable).0 some in_list own.nodes (subst P same found) in
    record { has = at.0; is = at.1; there = found.there ∙ ap (λ (r : UpdateRow). r.spot) same }

pub version_finds_none : RowKeysExact → ExtentsStand → (s : Version) (j : ℕ) (range : Range) (row : UpdateRow) → IsVersion s → row ≡ row_at s.rows j
    → 1 ≤ j → j ≤ length s.rows → HasNoNodeFor row range → HasNodeFor s j range → ⊥
version_finds_none exact stand s j range row is same some le none has =
    let us : List Update = updates_of s in
    let own : IsRowOf s.page_size us j (row_at s.rows j) = is.rows j some le in
    let P : UpdateRow → Type 0 = λ r. HasNoNodeFor r range in
    let in_list : j ≤ length (extents us) = omega (arith, length-extents us, length-updates s.rows) in
    found_none exact s.page_size j (extents us) (row_at s.rows j) range (page_pos s.page_size is.page_size) (stand us is.replayable).0 some in_list own.nodes (subst P same none) has

pub none_then : {A : Type 0} (o : Option A) (P R : Type 0) (Q : A → Type 0) → (P → R) → MatchOption o P Q → IfNone o R
none_then None P R Q f h = f h
none_then (Some x) P R Q f h = tt

pub some_then : {A : Type 0} (o : Option A) (P : Type 0) (Q S : A → Type 0) → ((x : A) → Q x → S x) → MatchOption o P Q → IfSome o S
some_then None P Q S f h = tt
some_then (Some x) P Q S f h = f x h

-- ---- where nodes lie
-- an update whose row has a node is one of the version's
pub in_rows : (s : Version) (j : ℕ) (range : Range) → HasNodeFor s j range → (1 ≤ j) × (j ≤ length s.rows)
in_rows s j range has =
    (has.version.0, omega (arith, has.version.1, length-touches s.page_size (falls s), length-extents (updates_of s), length-updates s.rows))

pub placed_here : (nodes : List Shelves) (s : Version) (j : ℕ) (range : Range) (placed : PlacedNode) → NodesLieIn nodes s → 1 ≤ j → j ≤ length s.rows
    → IsFound s j range placed → IsIn nodes placed.spot
placed_here nodes s zero range placed here some le found = absurd (omega arith)
placed_here nodes s (suc k) range placed here some le found = subst (IsIn nodes) (sym found.there) (here k no_row le)
