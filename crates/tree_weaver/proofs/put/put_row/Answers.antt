use Rattle.std.proofs.Common.{◌≤◌, ◌-◌, ◌+◌, ◌*◌, ◌/◌, ◌^◌, length, arith, ap, sym, ◌∙◌}
use Rattle.std.proofs.lemmas.List.{length-map}
use Rattle.node_store.specs.UpdateRows.{UpdateRow}
use Rattle.border_hints.specs.Numbered.{own_touch}
use Rattle.tree_weaver.proofs.Shapes.{page_high}
use Rattle.tree_weaver.proofs.Plans.{own_height, own_levels, touch_ordered}
use Rattle.tree_weaver.proofs.Storing.{nodes_beside}
use Rattle.tree_weaver.proofs.put.put_row.Goals as goal

pub overflow_cast-version : goal.overflow_cast-version
overflow_cast-version g c =
    let is = c.stands.ensures in
    omega (arith, is.published.counted, is.version, ap length c.hints.ensures.waiting, c.stands-2.ensures.few, c.version-version.ensures.version)

pub of-requires-clause-ordered : goal.of-requires-clause-ordered
of-requires-clause-ordered g c = rw c.touch-touch.ensures (touch_ordered c.args.ticket.now c.stands.ensures)

pub of-requires-clause-whole : goal.of-requires-clause-whole
of-requires-clause-whole g c =
    let t = c.args.ticket.now in
    let planned = c.args.planned.now.nodes in
    ap length c.in_ok-placed.ensures.nodes ∙ length-map planned _ ∙ sym (length-map planned _)
    ∙ ap length (c.requires.planned ∙ sym (own_levels t c.touch-touch.result c.page_size-p.result c.height-height.result c.touch-touch.ensures c.page_size-p.ensures
    (own_height t c.page_size-p.result c.size-2.result c.height-height.result c.page_size-p.ensures c.size-2.ensures c.height-height.ensures.is)))

pub of-requires-clause-fits : goal.of-requires-clause-fits
of-requires-clause-fits g c =
    let t = c.args.ticket.now in
    let is = c.stands.ensures in
    let q = t.snapshot.page_size in
    let fits : (own_touch t).last * q ≤ 2 ^ 40 = omega (arith, page_high (t.at + t.len - 1) q ((t.at + t.len - 1) / q) (omega arith), is.size, is.fits) in
    rw (c.touch-touch.ensures, c.page_size-p.ensures) fits

pub returns : goal.returns
returns g c =
    let t = c.args.ticket.now in
    let row = c.in_ok-new.ensures.ok ∙ c.in_ok-row.ensures in
    let placed = c.in_ok-placed.ensures in
    record {
      blob = ap (λ (r : UpdateRow). r.blob) row ∙ c.blob-blob.ensures;
      version = ap (λ (r : UpdateRow). r.version) row ∙ placed.version ∙ c.version-version.ensures.version;
      offset = ap (λ (r : UpdateRow). r.offset) row ∙ c.at-offset.ensures;
      touch = ap (λ (r : UpdateRow). r.touch) row ∙ c.touch-touch.ensures;
      nodes = ap (λ (r : UpdateRow). r.nodes) row
          ∙ nodes_beside t c.args.planned.now.nodes c.in_ok-placed.placed.nodes _ c.requires.planned placed.nodes
          (own_levels t c.touch-touch.result c.page_size-p.result c.height-height.result c.touch-touch.ensures c.page_size-p.ensures
          (own_height t c.page_size-p.result c.size-2.result c.height-height.result c.page_size-p.ensures c.size-2.ensures c.height-height.ensures.is));
      here = rw (ap (λ (r : UpdateRow). r.spot) row) placed.here;
      pages = ap (λ (r : UpdateRow). r.pages) row ∙ grind arith;
      folds = ap (λ (r : UpdateRow). r.folds) row;
    }
