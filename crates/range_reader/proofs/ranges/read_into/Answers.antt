use Rattle.std.proofs.Common.{length, arith, ◌∙◌}
use Rattle.range_reader.proofs.ToldRanges.{bytes_told, steps_told, told_ok, told_past, told_lost}
use Rattle.range_reader.proofs.ranges.read_into.Goals as goal

pub returns-in-Ok-clause-bytes : goal.returns-in-Ok-clause-bytes
returns-in-Ok-clause-bytes g c us tell =
    c.in-Ok.ensures.bytes c.requires.true_doors ∙ bytes_told c.args.source.now.view.now us c.args.offset (length c.args.out.now) tell

pub returns-in-Ok-clause-answers : goal.returns-in-Ok-clause-answers
returns-in-Ok-clause-answers g c = told_ok _ _ _ _ _ _ _ _ _ c.in-Ok.ensures.answers

pub returns-in-Ok-clause-steps : goal.returns-in-Ok-clause-steps
returns-in-Ok-clause-steps g c =
    steps_told c.older_versions_stay.ensures.rows c.page_bytes_stay.ensures.extents c.args.source.now.view.now c.args.offset (length c.args.out.now) _ _
    c.read_version.ensures.steps c.read_version.ensures.no_steps

pub returns-in-Err-RangePastSize-clause-answers : goal.returns-in-Err-RangePastSize-clause-answers
returns-in-Err-RangePastSize-clause-answers g c =
    let arm = c.in-Err-RangePastSize in
    told_past _ _ _ _ _ _ _ arm.end arm.size (rw (arm.field-0-is) at arm.ensures.answers)

pub returns-in-Err-RangePastSize-clause-steps : goal.returns-in-Err-RangePastSize-clause-steps
returns-in-Err-RangePastSize-clause-steps g c =
    steps_told c.older_versions_stay.ensures.rows c.page_bytes_stay.ensures.extents c.args.source.now.view.now c.args.offset (length c.args.out.now) _ _
    c.read_version.ensures.steps c.read_version.ensures.no_steps

pub returns-in-Err-PageFault-clause-answers : goal.returns-in-Err-PageFault-clause-answers
returns-in-Err-PageFault-clause-answers g c =
    let arm = c.in-Err-PageFault in
    told_lost _ _ _ _ _ _ _ arm.page (let bounds = c.stands.ensures.bounds in let size = c.page_size.ensures in omega arith) (rw (arm.field-0-is) at arm.ensures.answers)

pub returns-in-Err-PageFault-clause-steps : goal.returns-in-Err-PageFault-clause-steps
returns-in-Err-PageFault-clause-steps g c =
    steps_told c.older_versions_stay.ensures.rows c.page_bytes_stay.ensures.extents c.args.source.now.view.now c.args.offset (length c.args.out.now) _ _
    c.read_version.ensures.steps c.read_version.ensures.no_steps
