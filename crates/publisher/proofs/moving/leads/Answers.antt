use Rattle.std.proofs.Common.{ap, sym, ◌∙◌, length, is_some}
use Rattle.std.specs.Arc.{arc_value}
use Rattle.std.proofs.lemmas.Bool.{eqb-true}
use Rattle.publisher.specs.declared.slot.Slot.{Slot}
use Rattle.publisher.specs.WindowInvariant.{row_in}
use Rattle.publisher.proofs.Leading.{none_there, first_leads, some_seen}
use Rattle.publisher.proofs.moving.leads.Goals as goal

pub returns-then-is_empty : goal.returns-then-is_empty
returns-then-is_empty g c =
    none_there row_in c.args.above.now (eqb-true (length c.args.above.now) 0 (sym c.is_empty.ensures ∙ c.if-is_empty.true))

pub returns : goal.returns
returns g c =
    let first = c.index-above-0.result in
    first_leads row_in c.args.above.now first c.is_some.result c.index-above-0.is (c.is_some.ensures ∙ ap (λ (s : Slot g.row.U.Denot). is_some s.row) (sym c.index-above-0.is) ∙ sym (some_seen arc_value first.row))
