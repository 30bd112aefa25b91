use Rattle.range_reader.proofs.Counting.{kept_twice, risen_since}
use Rattle.tree_weaver.specs.Anew.{Untaken}
use Rattle.tree_weaver.proofs.Anew.{knows, changed}
use Rattle.tree_weaver.proofs.Lost.{took_since, can_still}
use Rattle.tree_weaver.proofs.folding.Folding.fold_page.Goals as goal

pub page_anew-requires-clause-changed : goal.page_anew-requires-clause-changed
page_anew-requires-clause-changed g c =
    let t = c.args.self.now.ticket.now in
    let is = c.stands.ensures in
    let laws = c.logs_are_grown.ensures in
    changed laws.touches laws.count laws.sizes c.page_bytes_stay.ensures.extents t c.args.page is c.requires.anew (knows t c.args.page c.requires.can.before is c.requires.anew)

pub returns-in-Err-PageFault-clause-lost : goal.returns-in-Err-PageFault-clause-lost
returns-in-Err-PageFault-clause-lost g c =
    let arm = c.in-Err-PageFault in
    let kept = c.page_anew.ensures.kept in
    record {
      failed = Untaken (took_since _ _ _ _ _ kept.none_fell (rw arm.field-0-is at arm.ensures.failed));
      counted = risen_since _ _ _ kept.total (rw arm.field-0-is at arm.ensures.counted);
    }

pub returns-in-Err-PageFault-clause-kept : goal.returns-in-Err-PageFault-clause-kept
returns-in-Err-PageFault-clause-kept g c =
    kept_twice _ _ _ _ _ _ c.page_anew.ensures.kept (record { none_fell = c.store_page.ensures.none_fell; total = c.store_page.ensures.sum_never_falls })

pub returns-in-Err-PageFault-clause-can : goal.returns-in-Err-PageFault-clause-can
returns-in-Err-PageFault-clause-can g c = can_still _ _ _ _ c.page_anew.ensures.can c.store_page.ensures.count c.store_page.ensures.truth_stays

pub returns-in-Ok-clause-kept : goal.returns-in-Ok-clause-kept
returns-in-Ok-clause-kept g c =
    kept_twice _ _ _ _ _ _ c.page_anew.ensures.kept (record { none_fell = c.store_page.ensures.none_fell; total = c.store_page.ensures.sum_never_falls })

pub returns-in-Ok-clause-can : goal.returns-in-Ok-clause-can
returns-in-Ok-clause-can g c = can_still _ _ _ _ c.page_anew.ensures.can c.store_page.ensures.count c.store_page.ensures.truth_stays

pub returns-clause-kept : goal.returns-clause-kept
returns-clause-kept g c =
    kept_twice _ _ _ _ _ _ c.page_anew.ensures.kept (record { none_fell = c.store_page.ensures.none_fell; total = c.store_page.ensures.sum_never_falls })

pub returns-clause-can : goal.returns-clause-can
returns-clause-can g c = can_still _ _ _ _ c.page_anew.ensures.can c.store_page.ensures.count c.store_page.ensures.truth_stays
