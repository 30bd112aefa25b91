use Rattle.blob_core.proofs.Growing.{Cited}
use Rattle.world_acts.proofs.Growing.{worlds_only_grow}
use Rattle.world_acts.proofs.Commuting.{puts_commute, same_worlds_go_on}
use Rattle.world_acts.proofs.Ordering.{steps_in_order}
use Rattle.world_acts.proofs.laws.worlds_only_grow.Goals as goal

pub returns : goal.returns
returns c =
    let cited : Cited = record {
      name = c.links_name_nodes.ensures.nodes;
      lead = c.links_name_nodes.ensures.links;
      backs_lead = c.links_name_nodes.ensures.backs;
      backs_hold = c.no_holes.ensures.backs;
      bytes = c.page_bytes_stay.ensures.bytes;
      stand = c.page_bytes_stay.ensures.extents;
      fill = c.leaves_fill.ensures.fill;
      fit = c.leaves_fill.ensures.fit;
      join = c.leaves_fill.ensures.join;
      greatest = c.newest_is_greatest.ensures.greatest;
      exact = c.row_keys_exact.ensures.exact;
      backs = c.backs_step.ensures;
      rows = c.older_versions_stay.ensures.rows;
      grow = c.older_versions_stay.ensures.extents;
      roots = c.links_find.ensures.roots;
      find = c.links_find.ensures.find;
      child = c.links_step.ensures.child;
      weave = c.weaver_finds.ensures;
      apart = c.visited_are_few.ensures.none;
      leaf = c.visited_are_few.ensures.leaf;
      inner = c.visited_are_few.ensures.inner;
      bounded = c.visited_are_few.ensures.bounded;
    } in
    record {
      grow = worlds_only_grow cited;
      commute = puts_commute cited c.steps_hold.ensures.hold c.steps_hold.ensures.stays;
      go_on = same_worlds_go_on cited c.steps_hold.ensures.hold c.steps_hold.ensures.stays;
      in_order = steps_in_order cited c.steps_hold.ensures.hold;
    }
