use Rattle.std.proofs.Common.{◌≡◌, ℕ, ◌+◌, ◌-◌, ◌*◌, ◌^◌, ◌<◌, ◌≤◌, List, ◌++◌, arith, inl, inr, ap, sym, subst, ◌∙◌}
use Rattle.std.proofs.Math.Nat.{mul-le-mul_right, pow-le-pow_right}
use Rattle.tree_geom.specs.declared.node.Node.{Node}
use Rattle.tree_geom.specs.Geometry.{tree_range}
use Rattle.tree_geom.specs.Nodes.{left_link, right_link}
use Rattle.blob_core.specs.World.{World, node_in}
use Rattle.blob_core.specs.Walk.{tree_walk_from}
use Rattle.blob_core.proofs.Walking.{ok_on, tree_apart, tree_leaf, tree_gone, tree_on, child_fits}
use Rattle.blob_core.proofs.state.State.+add_tree.Goals as goal
use Rattle.blob_core.proofs.state.State.+add_tree.Goals.{Else-number-pages, After-bytes, then-last-number-via-then-last-number, then-last-number-via-else-last-number+then-number-pages}

-- there are no more ranges of a height than pages
range_few : (q h : ℕ) → (q + 1) * 2 ^ h ≤ 2 ^ 38 → q + 1 ≤ 2 ^ 38
range_few q h fits =
    let two : 0 < 2 = omega arith in
    let least : 0 ≤ h = omega arith in
    let one : 1 ≤ 2 ^ h = pow-le-pow_right two least in
    omega (arith, fits, mul-le-mul_right (q + 1) one)

-- the node's range meets the pages
meets : {t : ℕ} (c : Else-number-pages t) → (c.args.tree.number * 2 ^ c.args.tree.height ≤ c.args.last) × (c.args.first < (c.args.tree.number + 1) * 2 ^ c.args.tree.height)
meets c =
    let Begins : ℕ → Type 0 = λ n. c.args.tree.number * n ≤ c.args.last in
    let Ends : ℕ → Type 0 = λ n. c.args.first < (c.args.tree.number + 1) * n in
    (subst Begins c.pow-pages.ensures c.if-last-number.false, subst Ends c.pow-pages.ensures c.if-number-pages.false)

node_here : {t : ℕ} (c : After-bytes t) → node_in c.args.self.now c.args.tree.blob c.args.tree.version (tree_range c.args.p c.args.tree.height c.args.tree.number)
    ≡ node_in c.args.self.now c.args.tree.blob c.args.tree.version (record { offset = c.args.tree.number * (c.bytes.result * c.pow-pages.result); size = c.bytes.result * c.pow-pages.result })
node_here c =
    let size : c.bytes.result * c.pow-pages.result ≡ c.args.p * 2 ^ c.args.tree.height =
    ap (λ (n : ℕ). n * c.pow-pages.result) c.bytes.ensures.is ∙ ap (λ (n : ℕ). c.args.p * n) c.pow-pages.ensures in
    ap (λ (n : ℕ). node_in c.args.self.now c.args.tree.blob c.args.tree.version (record { offset = c.args.tree.number * n; size = n })) (sym size)

pub overflow_mul-number : goal.overflow_mul-number
overflow_mul-number t c =
    let at : c.args.tree.number * c.pow-pages.result ≡ c.args.tree.number * 2 ^ c.args.tree.height = ap (λ (n : ℕ). c.args.tree.number * n) c.pow-pages.ensures in
    omega (arith, at, c.requires.fits)

pub overflow_add-number : goal.overflow_add-number
overflow_add-number t c = omega (arith, range_few c.args.tree.number c.args.tree.height c.requires.fits)

pub overflow_mul-number-else-last-number : goal.overflow_mul-number-else-last-number
overflow_mul-number-else-last-number t c = omega (arith, c.requires.fits, ap (λ (n : ℕ). (c.args.tree.number + 1) * n) c.pow-pages.ensures)

pub returns-then-last-number : goal.returns-then-last-number
returns-then-last-number t c =
    elim c.then-last-number.branch [
      | then-last-number-via-then-last-number x ↦
          (let P : ℕ → Type 0 = λ n. c.args.last < c.args.tree.number * n in
          tree_apart c.args.tree.height c.args.p c.args.self.now c.args.tree.blob c.args.tree.version c.args.tree.number c.args.first c.args.last
          c.args.bytes.now.items (inl (subst P c.pow-pages.ensures x.if-last-number.true)))
      | then-last-number-via-else-last-number+then-number-pages x ↦
          (let P : ℕ → Type 0 = λ n. (c.args.tree.number + 1) * n ≤ c.args.first in
          tree_apart c.args.tree.height c.args.p c.args.self.now c.args.tree.blob c.args.tree.version c.args.tree.number c.args.first c.args.last
          c.args.bytes.now.items (inr (subst P c.pow-pages.ensures x.if-number-pages.true)))
    ]

pub returns-then-tree-eq0 : goal.returns-then-tree-eq0
returns-then-tree-eq0 t c =
    let met = meets (goal.at.returns-then-tree-eq0 t c).Else-number-pages in
    c.in_ok-extend_from_slice.ensures.items
    ∙ ap (λ (l : List ℕ). c.args.bytes.now.items ++ l) (c.as_slice.ensures.value ∙ c.in_ok-leaf.ensures
    ∙ sym (tree_leaf c.args.tree.height c.args.p c.args.self.now c.args.tree.blob c.args.tree.version c.args.tree.number c.args.first c.args.last c.if-tree-eq0.true met.0 met.1))

pub overflow_mul-size : goal.overflow_mul-size
overflow_mul-size t c =
    let at : c.args.tree.number * c.pow-pages.result ≡ c.args.tree.number * 2 ^ c.args.tree.height = ap (λ (n : ℕ). c.args.tree.number * n) c.pow-pages.ensures in
    omega (arith, at, c.requires.fits, c.pow-pages.ensures, mul-le-mul_right c.pow-pages.result c.bytes.ensures.bounds.1)

pub overflow_mul-range : goal.overflow_mul-range
overflow_mul-range t c =
    let at : c.args.tree.number * c.pow-pages.result ≡ c.args.tree.number * 2 ^ c.args.tree.height = ap (λ (n : ℕ). c.args.tree.number * n) c.pow-pages.ensures in
    omega (arith, at, c.requires.fits, mul-le-mul_right (c.args.tree.number * c.pow-pages.result) c.bytes.ensures.bounds.1)

pub returns-in_default : goal.returns-in_default
returns-in_default t c =
    let here = goal.at.returns-in_default t c in
    let met = meets here.Else-number-pages in
    let at = node_here here.After-bytes in
    tree_gone c.args.tree.height c.args.p c.args.self.now c.args.tree.blob c.args.tree.version c.args.tree.number c.args.first c.args.last
    c.args.bytes.now.items (omega arith) met.0 met.1 (at ∙ sym c.in_default.ensures)

pub overflow_mul-low : goal.overflow_mul-low
overflow_mul-low t c = omega (arith, range_few c.args.tree.number c.args.tree.height c.requires.fits)

pub add_tree-requires : goal.add_tree-requires
add_tree-requires t c = let f = child_fits c.args.tree.number c.args.tree.height (2 ^ 38) (omega arith) c.requires.fits in (omega arith, (omega arith, f.0))

pub overflow_mul-high : goal.overflow_mul-high
overflow_mul-high t c = omega (arith, range_few c.args.tree.number c.args.tree.height c.requires.fits)

pub overflow_add-high : goal.overflow_add-high
overflow_add-high t c = omega (arith, range_few c.args.tree.number c.args.tree.height c.requires.fits)

pub add_tree-requires-2 : goal.add_tree-requires-2
add_tree-requires-2 t c = let f = child_fits c.args.tree.number c.args.tree.height (2 ^ 38) (omega arith) c.requires.fits in (omega arith, (omega arith, f.1))

pub returns : goal.returns
returns t c =
    let here = goal.at.returns t c in
    let met = meets here.Else-number-pages in
    let at = node_here here.After-bytes in
    let w : World = c.args.self.now in
    let n : Node = c.in-Some.node in
    let low : List ℕ = (tree_walk_from (c.args.tree.height - 1) c.args.p w c.args.tree.blob (left_link n) (2 * c.args.tree.number) c.args.first c.args.last).bytes in
    let high : List ℕ = (tree_walk_from (c.args.tree.height - 1) c.args.p w c.args.tree.blob (right_link n) (2 * c.args.tree.number + 1) c.args.first c.args.last).bytes in
    let left : c.add_tree.new.bytes.items ≡ c.args.bytes.now.items ++ low =
    c.in_ok-add_tree.ensures
    ∙ ap (λ (j : ℕ). c.args.bytes.now.items ++ (tree_walk_from (c.args.tree.height - 1) c.args.p w c.args.tree.blob j (2 * c.args.tree.number) c.args.first c.args.last).bytes)
    c.links-left.ensures.left in
    ok_on c.add_tree-2.result _ _
    (λ right. tree_on c.args.tree.height c.args.p c.args.self.now c.args.tree.blob c.args.tree.version c.args.tree.number c.args.first c.args.last n
    c.args.bytes.now.items c.add_tree.new.bytes.items c.add_tree-2.new.bytes.items (omega arith) met.0 met.1 (at ∙ sym c.in-Some.ensures) left
    (right ∙ ap (λ (j : ℕ). c.add_tree.new.bytes.items ++ (tree_walk_from (c.args.tree.height - 1) c.args.p w c.args.tree.blob j (2 * c.args.tree.number + 1) c.args.first c.args.last).bytes)
    c.links-left.ensures.right))
    c.add_tree-2.ensures
