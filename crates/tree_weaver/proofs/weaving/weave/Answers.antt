use Rattle.std.proofs.Common.{◌≡◌, length, sym, arith, ◌∙◌}
use Rattle.std.specs.Arc.{arc_value}
use Rattle.tree_weaver.specs.Anew.{StoresNoneAnew}
use Rattle.tree_weaver.proofs.WovenRows.{woven, none_told, none_of, nothing_of, none_lie}
use Rattle.std.proofs.lemmas.Bool.{false≢true}
use Rattle.tree_weaver.proofs.weaving.weave.Goals as goal
use Rattle.tree_weaver.proofs.weaving.weave.Goals.{then-is_some-via-then-is_some, then-is_some-via-else-is_some+then-is_some-2}

pub returns-then-is_some-clause-anew : goal.returns-then-is_some-clause-anew
returns-then-is_some-clause-anew g c us stands none =
    let two : length c.folded.result ≡ 2 = grind (arith, c.folded.type_inv) in
    let neither = nothing_of c.folded.result two (c.folded.ensures ∙ c.in_ok-planned.ensures.folded us stands ∙ none) in
    elim c.then-is_some.branch [
      | then-is_some-via-then-is_some w ↦ false≢true (sym neither.0 ∙ sym c.is_some.ensures ∙ w.if-is_some.true)
      | then-is_some-via-else-is_some+then-is_some-2 w ↦ false≢true (sym neither.1 ∙ sym w.is_some-else-is_some.ensures ∙ w.if-is_some-2.true)
    ]

pub returns-clause-none_anew : goal.returns-clause-none_anew
returns-clause-none_anew g c = λ us stands.
    let two : length c.folded.result ≡ 2 = grind (arith, c.folded.type_inv) in
    sym (c.in_ok-planned.ensures.folded us stands) ∙ sym c.folded.ensures
    ∙ none_of c.folded.result two (sym c.is_some.ensures ∙ c.if-is_some.false) (sym c.is_some-else-is_some.ensures ∙ c.if-is_some-2.false)

pub returns-clause-woven : goal.returns-clause-woven
returns-clause-woven g c = λ houses here.
    let t = c.args.ticket.now in
    let row = arc_value c.in_ok-row.row in
    let e = c.in_ok-row.ensures in
    let two : length c.folded.result ≡ 2 = grind (arith, c.folded.type_inv) in
    let none : StoresNoneAnew t = λ us stands. sym (c.in_ok-planned.ensures.folded us stands) ∙ sym c.folded.ensures
    ∙ none_of c.folded.result two (sym c.is_some.ensures ∙ c.if-is_some.false) (sym c.is_some-else-is_some.ensures ∙ c.if-is_some-2.false) in
    let folds = e.folds ∙ c.none.ensures in
    woven c.stored_rows_are_rows.ensures c.rows_stay.ensures.more t row c.in_ok-planned.planned.nodes c.stands.ensures e.version e.offset e.touch e.pages c.in_ok-planned.ensures.row e.nodes
    (none_told t row none folds) e.blob c.args.nodes.now e.here houses here (none_lie houses row.folds folds)
