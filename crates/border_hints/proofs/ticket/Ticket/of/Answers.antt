use Rattle.std.proofs.Common.{ap, ◌∙◌}
use Rattle.tree_geom.specs.Geometry.{touched_by}
use Rattle.border_hints.proofs.Tickets.{ticket_stands}
use Rattle.border_hints.proofs.ticket.Ticket.of.Goals as goal

pub invariant_of-result : goal.invariant_of-result
invariant_of-result c =
    record {
      numbered = ticket_stands c.logs_are_grown.ensures.count c.logs_are_grown.ensures.touches c.logs_are_grown.ensures.sizes c.older_versions_stay.ensures.rows
          _ c.stands.ensures c.stands-2.ensures.rises c.requires.waiting c.requires.version c.requires.of_updates
          c.requires.len c.requires.some c.requires.page_size c.requires.at c.requires.size c.requires.fits;
      touch = c.touched-touch.ensures.is ∙ ap (λ p. touched_by p c.args.at c.args.len c.args.size) c.page_size.ensures;
    }
