-- A list packed into a tree of four levels, whose nodes have up to 32 children each.
use Rattle.std.specs.Prelude.{◌≡◌, ℕ, ◌+◌, ◌*◌, ◌/◌, ◌≤◌, List, length, take, drop, map}
use Rattle.std.specs.List.{flat_map, range_with_len}

-- group k of a list in groups of 32, the first of them group 0
abbrev pub group : {X : Type 0} → List X → ℕ → List X
group xs k = take 32 (drop (32 * k) xs)

-- the list in groups of 32 from the front: all are full but the last, and none is empty
unfoldable pub groups : {X : Type 0} → List X → List (List X)
groups xs = map (group xs) (range_with_len 0 ((length xs + 31) / 32))

-- the groups one after another
abbrev pub together : {X : Type 0} → List (List X) → List X
together gs = flat_map (λ g. g) gs

-- the tree of a list, seen as the children of its root: the list's groups, in groups, in groups
abbrev pub tree_of : {T : Type 0} → List T → List (List (List (List T)))
tree_of xs = groups (groups (groups xs))

-- the items of a tree in their order
abbrev pub items_of : {T : Type 0} → List (List (List (List T))) → List T
items_of root = together (together (together root))

-- a tree whose nodes are full but on the way to its last item, of len items and no more than it has room for
pub record IsPacked {T : Type 0} (root : List (List (List (List T)))) (len : ℕ) : Type 0 where
  pub grouped : root ≡ tree_of (items_of root)
  pub count : len ≡ length (items_of root)
  pub few : len ≤ 1048576
