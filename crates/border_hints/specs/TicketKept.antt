-- What a ticket keeps.
use Rattle.std.specs.Prelude.{◌≡◌}
use Rattle.std.specs.Arc.{arc_value}
use Rattle.border_hints.specs.Numbered.{numbered_update, own_touch, IsValidTicket}
use Rattle.border_hints.specs.declared.ticket.Ticket.TheInside.{Inside}

-- it is a numbered update, and what it touches is kept beside it
pub record KeepsTicket (t : Inside) : Type 0 where
  pub numbered : IsValidTicket (numbered_update t.caller t.blob t.version t.at t.len t.size t.hints.snapshot t.hints.waiting (arc_value t.pages))
  pub touch : t.touch ≡ own_touch (numbered_update t.caller t.blob t.version t.at t.len t.size t.hints.snapshot t.hints.waiting (arc_value t.pages))
