use Rattle.std.proofs.Common.{◌≡◌, ℕ, ◌+◌, List, length, refl, ap, subst, sym, ◌∙◌}
use Rattle.std.specs.Prelude.{Some, slice_get}
use Rattle.std.specs.List.{Contains}
use Rattle.tree_geom.specs.declared.range.Range.{Range}
use Rattle.tree_geom.specs.Geometry.{tree_range}
use Rattle.tree_geom.proofs.Spans.{page_pos}
use Rattle.range_log.specs.Rows.{levels_of}
use Rattle.node_store.specs.UpdateRows.{IsNodeFor, HasNoNodeFor}
use Rattle.node_store.proofs.Zipped.{contains_pair, contains_left}
use Rattle.node_store.proofs.Ranges.{same_levels, as_many, own_size}
use Rattle.node_store.proofs.row.Row.at_height.Goals as goal

pub index_at_height-requires-clause-count : goal.index_at_height-requires-clause-count
index_at_height-requires-clause-count g c p =
    let shape = c.self.inside.shape in
    c.count-count.ensures ∙ c.self.invariant.whole ∙ as_many shape.page_size p shape.touch (shape.height + 1)
    ∙ ap length (sym (same_levels p p c.touch-touch.result shape.touch c.height-top.result shape.height refl c.touch-touch.ensures c.height-top.ensures))

pub returns-in-Some-clause-node : goal.returns-in-Some-clause-node
returns-in-Some-clause-node g c p has =
    let row = c.self.inside in
    let own : ℕ = row.shape.page_size in
    let kept : List Range = levels_of own row.shape.touch (row.shape.height + 1) in
    let told = rw (← c.self.view_is) at has in
    let size : p ≡ own = own_size p own row.shape.touch told.0 row.shape.height row.nodes.nodes c.self.invariant.ordered c.self.invariant.whole told.1 in
    let same = same_levels own own c.touch-touch.result row.shape.touch c.height-top.result row.shape.height refl c.touch-touch.ensures c.height-top.ensures in
    let range : Range = tree_range own c.args.height c.args.number in
    let S : List Range → Type 0 = λ ranges. slice_get ranges c.in-Some.place ≡ Some range in
    let there : S kept = subst S same (c.in-Some.ensures.place own (page_pos own c.stands.ensures)) in
    let N : ℕ → Type 0 = λ n. IsNodeFor c.args.self.now (tree_range n c.args.height c.args.number) c.node.result in
    let node : N own = rw (← c.self.view_is) (record {
      among = contains_pair kept row.nodes.nodes c.in-Some.place range c.node.result.node there c.node.ensures.node;
      there = c.node.ensures.spot;
    }) in
    subst N (sym size) node

pub returns-in-None-clause-node : goal.returns-in-None-clause-node
returns-in-None-clause-node g c p has =
    let row = c.self.inside in
    let own : ℕ = row.shape.page_size in
    let kept : List Range = levels_of own row.shape.touch (row.shape.height + 1) in
    let told = rw (← c.self.view_is) at has in
    let size : p ≡ own = own_size p own row.shape.touch told.0 row.shape.height row.nodes.nodes c.self.invariant.ordered c.self.invariant.whole told.1 in
    let same = same_levels own own c.touch-touch.result row.shape.touch c.height-top.result row.shape.height refl c.touch-touch.ensures c.height-top.ensures in
    let N : ℕ → Type 0 = λ n. HasNoNodeFor c.args.self.now (tree_range n c.args.height c.args.number) in
    let none : N own = rw (← c.self.view_is) (λ i pair is found.
    let C : Range → Type 0 = λ r. Contains kept r in
    let L : List Range → Type 0 = λ ranges. Contains ranges (tree_range own c.args.height c.args.number) in
    c.in-None.ensures.place own (page_pos own c.stands.ensures) (subst L (sym same) (subst C found (contains_left kept row.nodes.nodes i pair is)))) in
    subst N (sym size) none
