use Rattle.std.proofs.Common.{◌≡◌, ◌∙◌, length}
use Rattle.range_reader.proofs.ToldRanges.{same_ok, same_fault}
use Rattle.range_reader.proofs.ranges.read_range.Goals as goal

pub returns-in-Err-clause-steps : goal.returns-in-Err-clause-steps
returns-in-Err-clause-steps g c =
    let whole : length c.as_mut_slice-buffer.result.now ≡ c.args.count = c.as_mut_slice-buffer.ensures.len ∙ c.in-Ok.ensures.len in
    rw whole at c.read_into.ensures.steps

pub returns-in-Err-clause-answers : goal.returns-in-Err-clause-answers
returns-in-Err-clause-answers g c =
    let whole : length c.as_mut_slice-buffer.result.now ≡ c.args.count = c.as_mut_slice-buffer.ensures.len ∙ c.in-Ok.ensures.len in
    same_fault _ _ _ _ _ _ _ c.in-Err.fault (rw whole at c.in-Err.ensures.answers)

pub returns-in-Ok-read_into-clause-steps : goal.returns-in-Ok-read_into-clause-steps
returns-in-Ok-read_into-clause-steps g c =
    let whole : length c.as_mut_slice-buffer.result.now ≡ c.args.count = c.as_mut_slice-buffer.ensures.len ∙ c.in-Ok.ensures.len in
    rw whole at c.read_into.ensures.steps

pub returns-in-Ok-read_into-clause-answers : goal.returns-in-Ok-read_into-clause-answers
returns-in-Ok-read_into-clause-answers g c =
    let whole : length c.as_mut_slice-buffer.result.now ≡ c.args.count = c.as_mut_slice-buffer.ensures.len ∙ c.in-Ok.ensures.len in
    same_ok _ _ _ _ _ _ _ _ _ (rw whole at c.in-Ok-read_into.ensures.answers)
