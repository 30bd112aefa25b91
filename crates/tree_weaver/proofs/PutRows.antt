-- How many nodes a row has, and how they are put, height by height.
use Rattle.std.proofs.Common.{◌≡◌, ℕ, zero, suc, ◌+◌, ◌-◌, ◌*◌, ◌/◌, ◌^◌, ◌<◌, ◌≤◌, List, [], ◌∷◌, ◌++◌, length, map, arith, refl, ap, sym, subst, ◌∙◌, append-nil, length-append}
use Rattle.std.specs.List.{range_with_len}
use Rattle.std.proofs.lemmas.Nat.{pow_pos}
use Rattle.std.proofs.lemmas.List.{length-map, map-append}
use Rattle.std.proofs.lemmas.List.FromFn.{length-map-range_with_len}
use Rattle.std.proofs.lemmas.Simd.{map-map}
use Rattle.tree_geom.specs.declared.range.Range.{Range}
use Rattle.tree_geom.specs.declared.touch.Touch.{Touch}
use Rattle.tree_geom.specs.declared.node.Node.{Node}
use Rattle.tree_geom.specs.Geometry.{tree_range, height_of}
use Rattle.range_log.specs.Rows.{level_of, levels_of}
use Rattle.range_log.proofs.Counts.{levels_are_few}
use Rattle.range_log.proofs.Positions.{count-suc, count-none}
use Rattle.node_store.specs.Placed.{PlacedNodes}
use Rattle.border_hints.specs.Numbered.{NumberedUpdate, own_touch, IsValidTicket}
use Rattle.tree_weaver.specs.Planned.{own_node, own_nodes, own_ranges, nodes_of}
use Rattle.tree_weaver.proofs.Plans.{quotients_rise, level_more, level_numbers, level_ended, level_added_to, levels_next, levels_none, own_joins, own_levels}

-- ---- how many they are
-- one at each height, where one page is touched
alone : (p : ℕ) (u : Touch) (h : ℕ) → u.first ≡ u.last → length (levels_of p u h) ≡ h
alone p u zero one = count-none p u
alone p u (suc h) one =
    let same : u.first / 2 ^ h ≡ u.last / 2 ^ h = ap (λ n. n / 2 ^ h) one in
    let below : length (levels_of p u h) ≡ h = alone p u h one in
    omega (arith, count-suc p u h)

pub counted_alone : (p : ℕ) (u : Touch) (height : ℕ) → u.first ≡ u.last → height + 1 ≡ length (levels_of p u (height + 1))
counted_alone p u height one = sym (alone p u (height + 1) one)

pub counted_none : (p : ℕ) (u : Touch) (level : ℕ) → level ≡ 0 → 0 ≡ length (levels_of p u level)
counted_none p u level none = sym (ap (λ n. length (levels_of p u n)) none ∙ count-none p u)

-- one more height
pub counted_more : (p : ℕ) (u : Touch) (level count : ℕ) → u.first ≤ u.last → count ≡ length (levels_of p u level)
    → count + (u.last / 2 ^ level - u.first / 2 ^ level + 1) ≡ length (levels_of p u (level + 1))
counted_more p u level count ordered is =
    let rises : u.first / 2 ^ level ≤ u.last / 2 ^ level = quotients_rise u.first u.last (2 ^ level) (pow_pos level) ordered in
    let e : suc level ≡ level + 1 = omega arith in
    let next : length (levels_of p u (suc level)) ≡ u.last / 2 ^ level + 1 - u.first / 2 ^ level + length (levels_of p u level) = count-suc p u level in
    let more : count + (u.last / 2 ^ level - u.first / 2 ^ level + 1) ≡ length (levels_of p u (suc level)) = omega arith in
    more ∙ ap (λ n. length (levels_of p u n)) e

-- and the number fits
pub counted_fits : (u : Touch) (level count : ℕ) → u.first ≤ u.last → u.last ≤ 2 ^ 40 → level ≤ 38 → ((p : ℕ) → count ≡ length (levels_of p u level))
    → (u.first / 2 ^ level ≤ u.last / 2 ^ level) × (count + (u.last / 2 ^ level - u.first / 2 ^ level + 1) ≤ 2 ^ 43)
counted_fits u level count ordered small low is =
    let rises : u.first / 2 ^ level ≤ u.last / 2 ^ level = quotients_rise u.first u.last (2 ^ level) (pow_pos level) ordered in
    let next : length (levels_of 1 u (suc level)) ≡ u.last / 2 ^ level + 1 - u.first / 2 ^ level + length (levels_of 1 u level) = count-suc 1 u level in
    let few : length (levels_of 1 u (suc level)) ≤ 2 * (u.last + 1 - u.first) + 2 * level = levels_are_few 1 level u ordered in
    let here : count ≡ length (levels_of 1 u level) = is 1 in
    (rises, omega arith)

-- ---- a level
-- the node for range number q of a height
abbrev pub node_at : NumberedUpdate → ℕ → ℕ → Node
node_at t h q = own_node t (tree_range t.snapshot.page_size h q)

level_nodes : (t : NumberedUpdate) (u : Touch) (h : ℕ)
    → nodes_of (own_nodes t (level_of t.snapshot.page_size u h)) ≡ map (node_at t h) (range_with_len (u.first / 2 ^ h) (u.last / 2 ^ h + 1 - u.first / 2 ^ h))
level_nodes t u h =
    let numbers : List ℕ = range_with_len (u.first / 2 ^ h) (u.last / 2 ^ h + 1 - u.first / 2 ^ h) in
    let pair : ℕ → Range × Node = λ q. (tree_range t.snapshot.page_size h q, own_node t (tree_range t.snapshot.page_size h q)) in
    ap nodes_of (level_numbers t u h) ∙ map-map (λ (x : Range × Node). x.1) pair numbers

-- a row to which some nodes were added
abbrev pub added : PlacedNodes → List Node → PlacedNodes
added row nodes = record row { nodes = row.nodes ++ nodes }

-- the nodes from number a to the one before q were put, and one more
pub put_begun : (f : ℕ → Node) (row : PlacedNodes) (a q : ℕ) → q ≡ a → row ≡ added row (map f (range_with_len a (q - a)))
put_begun f row a q e =
    let none : q - a ≡ 0 = omega arith in
    sym (ap (λ n. added row (map f (range_with_len a n))) none ∙ ap (λ (l : List Node). record row { nodes = l }) (append-nil row.nodes))

pub put_more : (f : ℕ → Node) (first old now : PlacedNodes) (a q : ℕ) (x : Node) → a ≤ q → old ≡ added first (map f (range_with_len a (q - a)))
    → now ≡ added old (x ∷ []) → x ≡ f q → now ≡ added first (map f (range_with_len a (q + 1 - a)))
put_more f first old now a q x le so_far more is =
    let before : List Node = first.nodes ++ map f (range_with_len a (q - a)) in
    more
    ∙ ap (λ (r : PlacedNodes). added r (x ∷ [])) so_far
    ∙ ap (λ (l : List Node). record first { nodes = l }) (level_more f first.nodes before (before ++ x ∷ []) a q x le refl refl is)

pub room_left : (f : ℕ → Node) (p : ℕ) (u v : Touch) (first row : PlacedNodes) (h q : ℕ) → v ≡ u → row ≡ added first (map f (range_with_len (u.first / 2 ^ h) (q - u.first / 2 ^ h)))
    → v.first / 2 ^ h ≤ q → q < v.last / 2 ^ h + 1 → length first.nodes + length (level_of p u h) ≤ first.room → length row.nodes < row.room
unfolding level_of
room_left f p u v first row h q same is from to enough =
    let a : ℕ = u.first / 2 ^ h in
    let P : Touch → Type 0 = λ w. (w.first / 2 ^ h ≤ q) × (q < w.last / 2 ^ h + 1) in
    let within : P u = subst P same (from, to) in
    let level : length (level_of p u h) ≡ u.last / 2 ^ h + 1 - a = length-map-range_with_len (λ n. tree_range p h n) a (u.last / 2 ^ h + 1 - a) in
    let nodes : length row.nodes ≡ length first.nodes + (q - a) =
    ap (λ (r : PlacedNodes). length r.nodes) is
    ∙ length-append first.nodes (map f (range_with_len a (q - a)))
    ∙ ap (λ n. length first.nodes + n) (length-map-range_with_len f a (q - a)) in
    let room : row.room ≡ first.room = ap (λ (r : PlacedNodes). r.room) is in
    omega (arith, within.0, within.1)

pub put_finished : (t : NumberedUpdate) (v : Touch) (h q : ℕ) (first row : PlacedNodes) → IsValidTicket t → v ≡ own_touch t → v.last / 2 ^ h + 1 ≤ q
    → (v.first / 2 ^ h ≤ v.last / 2 ^ h + 1 → q ≤ v.last / 2 ^ h + 1)
    → row ≡ added first (map (node_at t h) (range_with_len ((own_touch t).first / 2 ^ h) (q - (own_touch t).first / 2 ^ h)))
    → row ≡ added first (nodes_of (own_nodes t (level_of t.snapshot.page_size (own_touch t) h)))
put_finished t v h q first row is e past before so_far =
    so_far
    ∙ ap (added first) (ap (λ n. map (node_at t h) (range_with_len ((own_touch t).first / 2 ^ h) n)) (level_ended t v h q is e past before) ∙ sym (level_nodes t (own_touch t) h))

-- ---- all levels
count_nodes : (t : NumberedUpdate) (ranges : List Range) → length (nodes_of (own_nodes t ranges)) ≡ length ranges
count_nodes t ranges = length-map (own_nodes t ranges) (λ (x : Range × Node). x.1) ∙ length-map ranges (λ r. (r, own_node t r))

-- the nodes of the levels below one
abbrev pub nodes_below : NumberedUpdate → ℕ → List Node
nodes_below t level = nodes_of (own_nodes t (levels_of t.snapshot.page_size (own_touch t) level))

joined : (t : NumberedUpdate) (a b : List Range) → nodes_of (own_nodes t (a ++ b)) ≡ nodes_of (own_nodes t a) ++ nodes_of (own_nodes t b)
joined t a b = ap nodes_of (own_joins t a b) ∙ map-append (λ (x : Range × Node). x.1) (own_nodes t a) (own_nodes t b)

-- what the code has as the height is the tree's
all_below : (t : NumberedUpdate) (height : ℕ) → height ≡ height_of t.snapshot.page_size t.size → nodes_below t (height + 1) ≡ nodes_of (own_nodes t (own_ranges t))
all_below t height is = ap (λ l. nodes_of (own_nodes t l)) (own_levels t (own_touch t) t.snapshot.page_size height refl refl is)

pub rows_begun : (t : NumberedUpdate) (nodes : List Node) (level height : ℕ) → height ≡ height_of t.snapshot.page_size t.size → level ≡ height + 1 → nodes ≡ []
    → nodes ++ nodes_below t level ≡ nodes_of (own_nodes t (own_ranges t))
rows_begun t nodes level height is top none = ap (λ l. l ++ nodes_below t level) none ∙ ap (nodes_below t) top ∙ all_below t height is

pub room_told : (t : NumberedUpdate) (u : Touch) (count height : ℕ) → u ≡ own_touch t → height ≡ height_of t.snapshot.page_size t.size → ((p : ℕ) → count ≡ length (levels_of p u (height + 1)))
    → count ≡ length (own_ranges t)
room_told t u count height same is counted =
    counted t.snapshot.page_size ∙ ap (λ v. length (levels_of t.snapshot.page_size v (height + 1))) same ∙ ap length (own_levels t (own_touch t) t.snapshot.page_size height refl refl is)

pub room_enough : (t : NumberedUpdate) (level room : ℕ) (nodes : List Node) → 1 ≤ level → room ≡ length (own_ranges t) → nodes ++ nodes_below t level ≡ nodes_of (own_nodes t (own_ranges t))
    → length nodes + length (level_of t.snapshot.page_size (own_touch t) (level - 1)) ≤ room
room_enough t level room nodes some is so_far =
    let p : ℕ = t.snapshot.page_size in
    let u : Touch = own_touch t in
    let h : ℕ = level - 1 in
    let e : suc h ≡ level = omega arith in
    let all : length nodes + length (levels_of p u level) ≡ length (own_ranges t) =
    ap (λ n. length nodes + n) (sym (count_nodes t (levels_of p u level))) ∙ sym (length-append nodes (nodes_below t level)) ∙ ap length so_far ∙ count_nodes t (own_ranges t) in
    let next : length (levels_of p u level) ≡ length (level_of p u h) + length (levels_of p u h) =
    ap (λ l. length (levels_of p u l)) (sym e) ∙ ap length (levels_next p u h) ∙ length-append (level_of p u h) (levels_of p u h) in
    omega arith

pub rows_more : (t : NumberedUpdate) (level : ℕ) (all : List Node) (old now : PlacedNodes) → 1 ≤ level → old.nodes ++ nodes_below t level ≡ all
    → now ≡ added old (nodes_of (own_nodes t (level_of t.snapshot.page_size (own_touch t) (level - 1)))) → now.nodes ++ nodes_below t (level - 1) ≡ all
rows_more t level all old now some so_far more =
    level_added_to (λ l. nodes_of (own_nodes t l)) (joined t) t.snapshot.page_size (own_touch t) level all old.nodes now.nodes some so_far (ap (λ (r : PlacedNodes). r.nodes) more)

pub rows_done : (t : NumberedUpdate) (level : ℕ) (nodes all : List Node) → level ≡ 0 → nodes ++ nodes_below t level ≡ all → nodes ≡ all
rows_done t level nodes all none so_far =
    let p : ℕ = t.snapshot.page_size in
    let empty : nodes_below t level ≡ [] = ap (λ l. nodes_of (own_nodes t l)) (ap (levels_of p (own_touch t)) none ∙ levels_none p (own_touch t)) in
    sym (ap (λ l. nodes ++ l) empty ∙ append-nil nodes) ∙ so_far
