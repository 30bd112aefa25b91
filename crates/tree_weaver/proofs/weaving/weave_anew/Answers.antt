use Rattle.std.proofs.Common.{List, map, ap, sym, subst, ◌∙◌}
use Rattle.std.specs.Arc.{arc_value}
use Rattle.page_store.specs.Stored.{Stored, LieAmong}
use Rattle.tree_weaver.proofs.Lost.{lost_weaker}
use Rattle.tree_weaver.proofs.WovenRows.{woven, anew_told, named_anew}
use Rattle.tree_weaver.proofs.weaving.weave_anew.Goals as goal

pub fold_pages-requires-clause-anew : goal.fold_pages-requires-clause-anew
fold_pages-requires-clause-anew g c = λ _ _. named_anew c.args.ticket.now _ (λ us stands. c.folded.ensures ∙ c.in_ok-planned.ensures.folded us stands)

pub returns-in_ok-put_row-in-Ok-clause-woven : goal.returns-in_ok-put_row-in-Ok-clause-woven
returns-in_ok-put_row-in-Ok-clause-woven g c =
    let t = c.args.ticket.now in
    let houses = c.args.houses.now in
    let row = arc_value c.in_ok-put_row-in-Ok.field-0 in
    let e = c.in_ok-put_row-in-Ok.ensures in
    let bytes = ap (map (λ (s : Stored). s.bytes)) e.folds ∙ c.in-Ok.ensures.bytes in
    let lie : LieAmong houses row.folds = subst (λ (l : List Stored). LieAmong houses l) (sym e.folds) c.in-Ok.ensures.lie in
    woven c.stored_rows_are_rows.ensures c.rows_stay.ensures.more t row c.in_ok-planned.planned.nodes c.stands.ensures e.version e.offset e.touch e.pages c.in_ok-planned.ensures.row e.nodes
    (anew_told c.bytes_anew_stand.ensures t row _ c.stands.ensures c.requires.before (λ us stands. c.folded.ensures ∙ c.in_ok-planned.ensures.folded us stands) bytes) e.blob
    c.args.nodes.now e.here houses c.requires.pages lie

pub returns-in-Err-clause-failed : goal.returns-in-Err-clause-failed
returns-in-Err-clause-failed g c = lost_weaker c.in-Err.fault _ _ (λ i lost. lost.failed) c.in-Err.ensures.lost

pub returns-in-Err-clause-counted : goal.returns-in-Err-clause-counted
returns-in-Err-clause-counted g c = lost_weaker c.in-Err.fault _ _ (λ i lost. lost.counted) c.in-Err.ensures.lost

pub returns-in_ok-put_row-in-Ok-clause-untouched : goal.returns-in_ok-put_row-in-Ok-clause-untouched
returns-in_ok-put_row-in-Ok-clause-untouched g c = λ none.
    let among = c.stands.ensures.stands in
    c.fold_pages.ensures.untouched (c.folded.ensures ∙ c.in_ok-planned.ensures.folded among.0 among.1 ∙ none among.0 among.1)

pub returns-in_err-put_row-in-Ok-clause-untouched : goal.returns-in_err-put_row-in-Ok-clause-untouched
returns-in_err-put_row-in-Ok-clause-untouched g c = λ none.
    let among = c.stands.ensures.stands in
    c.fold_pages.ensures.untouched (c.folded.ensures ∙ c.in_ok-planned.ensures.folded among.0 among.1 ∙ none among.0 among.1)

pub returns-in-Err-clause-untouched : goal.returns-in-Err-clause-untouched
returns-in-Err-clause-untouched g c = λ none.
    let among = c.stands.ensures.stands in
    c.fold_pages.ensures.untouched (c.folded.ensures ∙ c.in_ok-planned.ensures.folded among.0 among.1 ∙ none among.0 among.1)
