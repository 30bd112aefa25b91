-- The tree of a list: what a walk down by the digits of an index reads, and the tree of a front with one item more.
use Rattle.std.proofs.Common.{◌≡◌, ℕ, ◌+◌, ◌/◌, ◌%◌, ◌≤◌, List, [], ◌∷◌, ◌++◌, length, take, Option, Some, None, refl, sym, ap, ◌∙◌, arith}
use Rattle.std.specs.Prelude.{slice_get, unwrap_or}
use Rattle.std.specs.Option.{option_and_then}
use Rattle.std.proofs.lemmas.List.{length-append, length-take-le}
use Rattle.radix_list.specs.Packing.{groups, tree_of, items_of, IsPacked}
use Rattle.radix_list.proofs.Grouping.{length-groups, groups-nil, slice_get_grouped, items_of-tree_of, groups-ending}

-- where the group of item i isn't there, item i isn't either
pub grouped_none : {X : Type 0} (xs : List X) (i : ℕ) → slice_get (groups xs) (i / 32) ≡ None → slice_get xs i ≡ None
grouped_none {X} xs i none = slice_get_grouped xs i ∙ ap (option_and_then (λ (g : List X). slice_get g (i % 32))) none

-- item i by its group
pub grouped_some : {X : Type 0} (xs : List X) (i : ℕ) (g : List X) → slice_get (groups xs) (i / 32) ≡ Some g → slice_get xs i ≡ slice_get g (i % 32)
grouped_some {X} xs i g some = slice_get_grouped xs i ∙ ap (option_and_then (λ (l : List X). slice_get l (i % 32))) some

-- a packed tree of items is the tree of those items
pub tree_is : {T : Type 0} (root : List (List (List (List T)))) (len : ℕ) (xs : List T) → IsPacked root len → items_of root ≡ xs → root ≡ tree_of xs
tree_is root len xs packed is = packed.grouped ∙ ap tree_of is

-- the tree of a list is packed, and its items are the list
pub record IsTreeOf {T : Type 0} (root : List (List (List (List T)))) (xs : List T) (len : ℕ) : Type 0 where
  pub packed : IsPacked root len
  pub items : items_of root ≡ xs

pub packed_from : {T : Type 0} (root : List (List (List (List T)))) (xs : List T) (len : ℕ) → root ≡ tree_of xs → len ≡ length xs → len ≤ 1048576 → IsTreeOf root xs len
packed_from root xs len is count few =
    let items : items_of root ≡ xs = ap items_of is ∙ items_of-tree_of xs in
    record { packed = record { grouped = is ∙ sym (ap tree_of items); count = count ∙ sym (ap length items); few = few }; items = items }

-- new nodes on the path to new items after the first q: each keeps the children of the old node that stand before the path
pub record IsPath {T : Type 0} (xs : List T) (q : ℕ) (ws : List T) (old_root root : List (List (List (List T)))) (old_limb : Option (List (List (List T)))) (limb : List (List (List T))) (old_twig : Option (List (List T))) (twig : List (List T)) (old_leaf : Option (List T)) (leaf : List T) : Type 0 where
  pub had_root : old_root ≡ tree_of xs
  pub had_limb : old_limb ≡ slice_get (tree_of xs) (q / 32 / 32 / 32)
  pub had_twig : old_twig ≡ slice_get (groups (groups xs)) (q / 32 / 32)
  pub had_leaf : old_leaf ≡ slice_get (groups xs) (q / 32)
  pub root_is : root ≡ take (q / 32 / 32 / 32) old_root ++ limb ∷ []
  pub limb_is : limb ≡ take (q / 32 / 32 % 32) (unwrap_or old_limb []) ++ twig ∷ []
  pub twig_is : twig ≡ take (q / 32 % 32) (unwrap_or old_twig []) ++ leaf ∷ []
  pub leaf_is : leaf ≡ take (q % 32) (unwrap_or old_leaf []) ++ ws

pub tree_ending : {T : Type 0} {xs : List T} {q : ℕ} {ws : List T} {old_root root : List (List (List (List T)))} {old_limb : Option (List (List (List T)))} {limb : List (List (List T))} {old_twig : Option (List (List T))} {twig : List (List T)} {old_leaf : Option (List T)} {leaf : List T}
    → IsPath xs q ws old_root root old_limb limb old_twig twig old_leaf leaf → q ≤ length xs → 1 ≤ length ws → q % 32 + length ws ≤ 32 → q + length ws ≤ 1048576
    → IsTreeOf root (take q xs ++ ws) (q + length ws)
tree_ending {T} {xs} {q} {ws} {old_root} {root} {old_limb} {limb} {old_twig} {twig} {old_leaf} {leaf} path within some fit room =
    let leaves : groups (take q xs ++ ws) ≡ take (q / 32) (groups xs) ++ leaf ∷ [] =
    groups-ending xs q ws within some fit
    ∙ ap (λ (l : List T). take (q / 32) (groups xs) ++ l ∷ []) (ap (λ (o : Option (List T)). take (q % 32) (unwrap_or o []) ++ ws) (sym path.had_leaf) ∙ sym path.leaf_is) in
    let twigs : groups (take (q / 32) (groups xs) ++ leaf ∷ []) ≡ take (q / 32 / 32) (groups (groups xs)) ++ twig ∷ [] =
    groups-ending (groups xs) (q / 32) (leaf ∷ []) (omega (arith, length-groups xs)) (omega arith) (omega arith)
    ∙ ap (λ (l : List (List T)). take (q / 32 / 32) (groups (groups xs)) ++ l ∷ [])
    (ap (λ (o : Option (List (List T))). take (q / 32 % 32) (unwrap_or o []) ++ leaf ∷ []) (sym path.had_twig) ∙ sym path.twig_is) in
    let limbs : groups (take (q / 32 / 32) (groups (groups xs)) ++ twig ∷ []) ≡ take (q / 32 / 32 / 32) (tree_of xs) ++ limb ∷ [] =
    groups-ending (groups (groups xs)) (q / 32 / 32) (twig ∷ []) (omega (arith, length-groups xs, length-groups (groups xs))) (omega arith) (omega arith)
    ∙ ap (λ (l : List (List (List T))). take (q / 32 / 32 / 32) (tree_of xs) ++ l ∷ [])
    (ap (λ (o : Option (List (List (List T)))). take (q / 32 / 32 % 32) (unwrap_or o []) ++ twig ∷ []) (sym path.had_limb) ∙ sym path.limb_is) in
    let tree : root ≡ tree_of (take q xs ++ ws) =
    path.root_is ∙ (ap (λ r. take (q / 32 / 32 / 32) r ++ limb ∷ []) path.had_root ∙ sym (ap (λ l. groups (groups l)) leaves ∙ (ap groups twigs ∙ limbs))) in
    packed_from root (take q xs ++ ws) (q + length ws) tree (sym (length-append (take q xs) ws ∙ ap (λ n. n + length ws) (length-take-le q xs within))) (omega arith)

-- the tree of no items is a root without children
pub packed_none : {T : Type 0} (root : List (List (List (List T)))) → root ≡ [] → IsPacked root 0
packed_none {T} root is =
    let tree : tree_of {T = T} [] ≡ [] = ap (λ l. groups (groups l)) groups-nil ∙ (ap groups groups-nil ∙ groups-nil) in
    (packed_from root [] 0 (is ∙ sym tree) refl (omega arith)).packed
