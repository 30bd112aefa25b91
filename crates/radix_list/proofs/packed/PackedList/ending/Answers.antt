use Rattle.std.proofs.Common.{◌≡◌, ◌+◌, ◌/◌, List, refl, ap, ◌∙◌, take, ◌++◌, ◌∷◌, [], length, map, sym, subst, arith}
use Rattle.std.specs.Prelude.{slice_get, unwrap_or}
use Rattle.std.specs.Arc.{arc_value}
use Rattle.std.specs.Option.{option_map}
use Rattle.std.proofs.lemmas.List.{length-map}
use Rattle.radix_list.specs.Packing.{groups, IsPacked}
use Rattle.radix_list.proofs.Tree.{tree_is, tree_ending, IsTreeOf}
use Rattle.radix_list.proofs.packed.PackedList.ending.Given.{Over}
use Rattle.radix_list.proofs.packed.PackedList.ending.Goals as goal

-- the new root is the tree of the kept items and the new ones
tree : (g : Over) (c : goal.In_ok-root-2 g) → IsTreeOf (arc_value c.in_ok-root-2.root) (take c.args.keep c.args.self.now ++ map arc_value c.args.more.items) (c.args.keep + length (map arc_value c.args.more.items))
tree g c =
    let xs = c.args.self.now in
    let q = c.args.keep in
    let ws : List g.row.T.Denot = map arc_value c.args.more.items in
    let count : length ws ≡ length c.args.more.items = length-map c.args.more.items arc_value in
    tree_ending {old_leaf = slice_get (groups xs) (q / 32)} (record {
      had_root = tree_is (unwrap_or (option_map arc_value c.self.inside.root) []) c.self.inside.len xs c.self.invariant c.self.view_is;
      had_limb = c.limb.ensures;
      had_twig = c.twig.ensures;
      had_leaf = refl;
      root_is = c.in_ok-root-2.ensures.ok ∙ (c.in_ok-root.ensures ∙ ap (λ o. take (q / 32 / 32 / 32) (unwrap_or o []) ++ arc_value c.in_ok-limb-2.limb ∷ []) c.node_of.ensures);
      limb_is = c.in_ok-limb-2.ensures.ok ∙ c.in_ok-limb.ensures;
      twig_is = c.in_ok-twig-2.ensures.ok ∙ c.in_ok-twig.ensures;
      leaf_is = c.in_ok-leaf.ensures.ok ∙ (c.of.ensures ∙ sym (ap (λ n. take n (unwrap_or (slice_get (groups xs) (q / 32)) []) ++ ws) c.requires.aligned));
    }) c.requires.within (omega (arith, c.requires.some)) (omega (arith, c.requires.aligned, c.requires.one_leaf)) (omega (arith, c.requires.room))

pub invariant_of-result : goal.invariant_of-result
invariant_of-result g c =
    subst (λ n. IsPacked (arc_value c.in_ok-root-2.root) (c.args.keep + n)) (length-map c.args.more.items arc_value ∙ omega (arith, c.len.ensures)) (tree g c).packed

pub returns : goal.returns
returns g c = (tree g c).items
