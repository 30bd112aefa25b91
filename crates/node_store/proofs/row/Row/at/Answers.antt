use Rattle.std.proofs.Common.{◌≡◌, ◌+◌, List, subst, sym}
use Rattle.std.specs.Prelude.{Some, slice_get}
use Rattle.std.specs.List.{Contains}
use Rattle.tree_geom.specs.declared.range.Range.{Range}
use Rattle.range_log.specs.Rows.{levels_of}
use Rattle.node_store.proofs.Zipped.{contains_pair, contains_left}
use Rattle.node_store.proofs.Ranges.{same_levels}
use Rattle.node_store.proofs.row.Row.at.Goals as goal

pub index_in_row-requires-clause-fits : goal.index_in_row-requires-clause-fits
index_in_row-requires-clause-fits g c = rw (c.page_size-p.ensures.is, c.touch-touch.ensures) c.self.invariant.fits

pub returns-in-Some-clause-node : goal.returns-in-Some-clause-node
returns-in-Some-clause-node g c =
    let row = c.self.inside in
    let kept : List Range = levels_of row.shape.page_size row.shape.touch (row.shape.height + 1) in
    let same = same_levels _ _ _ _ _ _ c.page_size-p.ensures.is c.touch-touch.ensures c.height-height.ensures in
    let S : List Range → Type 0 = λ ranges. slice_get ranges c.in-Some.index ≡ Some c.args.range in
    rw (← c.self.view_is) (record {
      among = contains_pair kept row.nodes.nodes c.in-Some.index c.args.range c.node.result.node (subst S same c.in-Some.ensures) c.node.ensures.node;
      there = c.node.ensures.spot;
    })

pub returns-in-None-clause-node : goal.returns-in-None-clause-node
returns-in-None-clause-node g c =
    let row = c.self.inside in
    let kept : List Range = levels_of row.shape.page_size row.shape.touch (row.shape.height + 1) in
    let same = same_levels _ _ _ _ _ _ c.page_size-p.ensures.is c.touch-touch.ensures c.height-height.ensures in
    rw (← c.self.view_is) (λ i pair is found.
    let C : Range → Type 0 = λ r. Contains kept r in
    let L : List Range → Type 0 = λ ranges. Contains ranges c.args.range in
    c.in-None.ensures (subst L (sym same) (subst C found (contains_left kept row.nodes.nodes i pair is))))
