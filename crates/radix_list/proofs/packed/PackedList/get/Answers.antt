use Rattle.std.proofs.Common.{◌≡◌, ℕ, ◌/◌, List, Option, [], None, Some, sym, ap, ◌∙◌}
use Rattle.std.specs.Prelude.{slice_get, unwrap_or}
use Rattle.std.specs.Arc.{arc_value}
use Rattle.std.specs.Option.{option_copied, option_map}
use Rattle.radix_list.specs.Packing.{groups, tree_of, items_of, IsPacked}
use Rattle.radix_list.proofs.Tree.{tree_is, grouped_none, grouped_some}
use Rattle.radix_list.proofs.packed.PackedList.get.Goals as goal

-- the child of the root on the way to item i
root_read : {T : Type 0} (node : Option (List (List (List (List T))))) (len : ℕ) (xs : List T) (i : ℕ) (root : List (List (List (List T)))) → IsPacked (unwrap_or node []) len → items_of (unwrap_or node []) ≡ xs → node ≡ Some root
    → slice_get (tree_of xs) (i / 32 / 32 / 32) ≡ slice_get root (i / 32 / 32 / 32)
root_read {T} node len xs i root packed items is =
    ap (λ (r : List (List (List (List T)))). slice_get r (i / 32 / 32 / 32)) (sym (tree_is (unwrap_or node []) len xs packed items) ∙ ap (λ o. unwrap_or o []) is)

pub returns-in_err-limb-clause-item : goal.returns-in_err-limb-clause-item
returns-in_err-limb-clause-item g c =
    let xs = c.args.self.now in
    let i = c.args.i in
    let limb : slice_get (tree_of xs) (i / 32 / 32 / 32) ≡ None = root_read (option_map arc_value c.self.inside.root) c.self.inside.len xs i c.in_ok-node_of.field-0.now c.self.invariant c.self.view_is (sym c.node_of.ensures ∙ ap option_copied c.in_ok-node_of.was) ∙ (sym c.visit.ensures.child ∙ ap option_copied c.in_err-limb.was) in
    let twig : slice_get (groups (groups xs)) (i / 32 / 32) ≡ None = grouped_none (groups (groups xs)) (i / 32 / 32) limb in
    ap option_copied c.from_residual-in_err-limb.ensures ∙ sym (grouped_none xs i (grouped_none (groups xs) (i / 32) twig))

pub returns-in_err-twig-clause-item : goal.returns-in_err-twig-clause-item
returns-in_err-twig-clause-item g c =
    let xs = c.args.self.now in
    let i = c.args.i in
    let limb : slice_get (tree_of xs) (i / 32 / 32 / 32) ≡ Some c.in_ok-limb.limb.now = root_read (option_map arc_value c.self.inside.root) c.self.inside.len xs i c.in_ok-node_of.field-0.now c.self.invariant c.self.view_is (sym c.node_of.ensures ∙ ap option_copied c.in_ok-node_of.was) ∙ (sym c.visit.ensures.child ∙ ap option_copied c.in_ok-limb.was) in
    let twig : slice_get (groups (groups xs)) (i / 32 / 32) ≡ None = grouped_some (groups (groups xs)) (i / 32 / 32) c.in_ok-limb.limb.now limb ∙ (sym c.visit-2.ensures.child ∙ ap option_copied c.in_err-twig.was) in
    ap option_copied c.from_residual-in_err-twig.ensures ∙ sym (grouped_none xs i (grouped_none (groups xs) (i / 32) twig))

pub returns-in_err-leaf-clause-item : goal.returns-in_err-leaf-clause-item
returns-in_err-leaf-clause-item g c =
    let xs = c.args.self.now in
    let i = c.args.i in
    let limb : slice_get (tree_of xs) (i / 32 / 32 / 32) ≡ Some c.in_ok-limb.limb.now = root_read (option_map arc_value c.self.inside.root) c.self.inside.len xs i c.in_ok-node_of.field-0.now c.self.invariant c.self.view_is (sym c.node_of.ensures ∙ ap option_copied c.in_ok-node_of.was) ∙ (sym c.visit.ensures.child ∙ ap option_copied c.in_ok-limb.was) in
    let twig : slice_get (groups (groups xs)) (i / 32 / 32) ≡ Some c.in_ok-twig.twig.now = grouped_some (groups (groups xs)) (i / 32 / 32) c.in_ok-limb.limb.now limb ∙ (sym c.visit-2.ensures.child ∙ ap option_copied c.in_ok-twig.was) in
    let leaf : slice_get (groups xs) (i / 32) ≡ None = grouped_some (groups xs) (i / 32) c.in_ok-twig.twig.now twig ∙ (sym c.visit-3.ensures.child ∙ ap option_copied c.in_err-leaf.was) in
    ap option_copied c.from_residual-in_err-leaf.ensures ∙ sym (grouped_none xs i leaf)

pub returns-clause-item : goal.returns-clause-item
returns-clause-item g c =
    let xs = c.args.self.now in
    let i = c.args.i in
    let limb : slice_get (tree_of xs) (i / 32 / 32 / 32) ≡ Some c.in_ok-limb.limb.now = root_read (option_map arc_value c.self.inside.root) c.self.inside.len xs i c.in_ok-node_of.field-0.now c.self.invariant c.self.view_is (sym c.node_of.ensures ∙ ap option_copied c.in_ok-node_of.was) ∙ (sym c.visit.ensures.child ∙ ap option_copied c.in_ok-limb.was) in
    let twig : slice_get (groups (groups xs)) (i / 32 / 32) ≡ Some c.in_ok-twig.twig.now = grouped_some (groups (groups xs)) (i / 32 / 32) c.in_ok-limb.limb.now limb ∙ (sym c.visit-2.ensures.child ∙ ap option_copied c.in_ok-twig.was) in
    let leaf : slice_get (groups xs) (i / 32) ≡ Some c.in_ok-leaf.leaf.now = grouped_some (groups xs) (i / 32) c.in_ok-twig.twig.now twig ∙ (sym c.visit-3.ensures.child ∙ ap option_copied c.in_ok-leaf.was) in
    c.visit-4.ensures.child ∙ sym (grouped_some xs i c.in_ok-leaf.leaf.now leaf)
