use Rattle.std.proofs.Common.{◌≡◌, ◌+◌, ◌≤◌, drop}
use Rattle.request_form.specs.Answers.{ranges_fault}
use Rattle.range_reader.specs.Ranges.{bytes_in}
use Rattle.client_session.proofs.reading.total.Given as goal

abbrev pub invariant-loop-range : goal.invariant-loop-range
invariant-loop-range l = record {
  few : l.sum ≤ 16777216;
  left : l.sum + bytes_in (drop l.range-index l.ranges) ≡ bytes_in l.ranges;
  same : ranges_fault l.sum (drop l.range-index l.ranges) ≡ ranges_fault 0 l.ranges;
}
