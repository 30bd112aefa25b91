use Rattle.std.proofs.Common.{sym, ◌∙◌}
use Rattle.tree_weaver.proofs.Plans.{folds_told}
use Rattle.tree_weaver.proofs.planning.folds_by.Goals as goal

pub returns : goal.returns
returns g c = record {
  folded = λ us st.
      c.folds.ensures ∙ sym (folds_told c.logs_are_grown.ensures.touches c.logs_are_grown.ensures.sizes c.args.ticket.now c.stands.ensures us st);
}

pub folds-requires : goal.folds-requires
folds-requires g c = let e = c.borders-borders.ensures in record { borders = record { page_size = e.page_size; touch = e.touch; newest = e.borders } }
