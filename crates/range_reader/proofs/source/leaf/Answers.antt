use Rattle.std.proofs.Common.{ap, sym, ◌∙◌, subst}
use Rattle.tree_geom.specs.declared.range.Range.{Range}
use Rattle.tree_geom.specs.Geometry.{tree_range, page_range}
use Rattle.tree_geom.proofs.Spans.{page_pos}
use Rattle.range_log.specs.Rows.{node_of}
use Rattle.node_store.specs.Parts.{IsPartsOf}
use Rattle.snapshot.specs.Versions.{RowIn, HasNodeFor, NodesLieIn}
use Rattle.snapshot.proofs.Finding.{in_rows}
use Rattle.range_reader.specs.Reading.{falls}
use Rattle.range_reader.proofs.NodeParts.{leaf_parts}
use Rattle.range_reader.proofs.source.leaf.Goals as goal

pub row_of-row-requires : goal.row_of-row-requires
row_of-row-requires g c =
    let s = c.args.snapshot.now in
    (in_rows s c.args.j (page_range s.page_size c.args.page) c.requires.has).1

pub leaf-requires-clause-here : goal.leaf-requires-clause-here
leaf-requires-clause-here g c = let P : RowIn → Type 0 = λ r. NodesLieIn c.args.nodes.now r.version in subst P (sym c.row_of-row.ensures) c.requires.here

pub leaf-requires-clause-has : goal.leaf-requires-clause-has
leaf-requires-clause-has g c =
    let s = c.args.snapshot.now in
    let H : Range → Type 0 = λ r. HasNodeFor s c.args.j r in
    let P : RowIn → Type 0 = λ r. HasNodeFor r.version r.update (tree_range r.version.page_size 0 c.args.page) in
    subst P (sym c.row_of-row.ensures) (subst H (c.ranges_align.ensures.pages s.page_size c.args.page) c.requires.has)

pub returns-clause-leaf : goal.returns-clause-leaf
returns-clause-leaf g c =
    let s = c.args.snapshot.now in
    let P : RowIn → Type 0 = λ r. IsPartsOf (node_of r.version.page_size (falls r.version) r.update (tree_range r.version.page_size 0 c.args.page)) c.leaf.result in
    let told = subst P c.row_of-row.ensures c.leaf.ensures.parts in
    let are = leaf_parts s.page_size c.args.j c.args.page (falls s) _ (page_pos s.page_size c.stands.ensures.page_size)
    (ap (node_of s.page_size (falls s) c.args.j) (sym (c.ranges_align.ensures.pages s.page_size c.args.page))) in
    record {
      start = sym told.start ∙ are.starts;
      first = sym told.first ∙ are.one;
      second = sym told.second ∙ are.two;
      back = sym told.back ∙ are.leads;
      depth = sym told.depth ∙ are.deep;
    }
