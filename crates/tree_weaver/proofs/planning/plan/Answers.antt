use Rattle.std.proofs.Common.{length, arith, ap, sym, ◌∙◌}
use Rattle.page_store.specs.Stored.{Cut}
use Rattle.tree_weaver.specs.Planned.{own_ranges}
use Rattle.tree_weaver.proofs.Plans.{row_told, ranges_own, folds_told, own_height}
use Rattle.tree_weaver.proofs.planning.plan.Goals as goal

pub invariant_of-result : goal.invariant_of-result
invariant_of-result g c =
    let e = c.borders-borders.ensures in
    let height = own_height c.args.ticket.now c.page_size.result c.size.result c.height-height.result c.page_size.ensures c.size.ensures c.height-height.ensures.is in
    record {
      nodes = record {
        own = record { page_size = e.page_size; touch = e.touch; newest = e.borders };
        low = omega (arith, height, c.height-height.ensures.bound);
        few = omega (arith, c.count.ensures.count, ap (λ (x : Cut). length x.pages) (c.deref.ensures ∙ c.pages.ensures));
      };
      height_is = height;
    }

pub returns-clause-row : goal.returns-clause-row
returns-clause-row g c us st =
    sym (row_told c.logs_are_grown.ensures.touches c.logs_are_grown.ensures.sizes c.args.ticket.now c.stands.ensures us st)

pub returns-clause-ranges : goal.returns-clause-ranges
returns-clause-ranges g c = ranges_own c.args.ticket.now (own_ranges c.args.ticket.now)

pub returns-clause-folded : goal.returns-clause-folded
returns-clause-folded g c us st =
    c.folds-folded.ensures ∙ sym (folds_told c.logs_are_grown.ensures.touches c.logs_are_grown.ensures.sizes c.args.ticket.now c.stands.ensures us st)

pub folds-folded-requires : goal.folds-folded-requires
folds-folded-requires g c = let e = c.borders-borders.ensures in record { borders = record { page_size = e.page_size; touch = e.touch; newest = e.borders } }

pub returns-clause-one_page : goal.returns-clause-one_page
returns-clause-one_page g c = λ one. c.borders-borders.ensures.one_page one
