use Rattle.std.proofs.Common.{List, sym, subst, ◌∙◌}
use Rattle.std.specs.Arc.{arc_value}
use Rattle.boxcar.specs.Table.{Shelves}
use Rattle.node_store.specs.UpdateRows.{IsRowIn}
use Rattle.version_manager.specs.Desks.{updates_in}
use Rattle.version_manager.specs.Stays.{ticket_folds}
use Rattle.desk_tests.proofs.repair.row_of.Goals as goal

pub returns-clause-row : goal.returns-clause-row
returns-clause-row g c =
    let d = c.args.desk.now in
    let t = c.args.ticket.now in
    let of = c.requires.ticket in
    let woven = rw c.in-Ok-Some.field-0-is at c.in-Ok-Some.ensures.woven in
    (woven d.houses c.requires.pages).for d.page_size (updates_in d t.blob) record { page_size = of.page_size; numbered = of.numbered; stands = of.stands; bytes = of.bytes; before = c.requires.before }

pub returns-clause-under : goal.returns-clause-under
returns-clause-under g c = let woven = rw c.in-Ok-Some.field-0-is at c.in-Ok-Some.ensures.woven in (woven c.args.desk.now.houses c.requires.pages).under

pub returns-clause-here : goal.returns-clause-here
returns-clause-here g c =
    let d = c.args.desk.now in
    let woven = rw c.in-Ok-Some.field-0-is at c.in-Ok-Some.ensures.woven in
    subst (λ (nodes : List Shelves). IsRowIn nodes d.houses (arc_value c.in-Ok-Some.row)) (sym c.requires.house) (woven d.houses c.requires.pages).here

pub returns-clause-in_order : goal.returns-clause-in_order
returns-clause-in_order g c =
    let of = c.requires.ticket in
    let none = rw c.in-Ok-Some.field-0-is at c.in-Ok-Some.ensures.none_anew in
    λ some. absurd (some (ticket_folds c.args.desk.now c.args.ticket.now of ∙ none _ of.stands))
