use Rattle.std.proofs.Common.{◌<◌, ◌≤◌, ◌-◌, ◌++◌, length, take}
use Rattle.items.specs.Text.{IsWithout, EndsPlain}
use Rattle.items.specs.BegunLine.{begun_text, IsBegun, SaysAs}
use Rattle.items.proofs.begun_line.push_all.Given as goal

abbrev pub invariant-run : goal.invariant-run
invariant-run g l = record {
  within : l.taken ≤ length l.run;
  well : IsBegun g.B.Body.lining.limit g.B.Body.text l.begun l.len;
  says : SaysAs g.B.Body.lining (begun_text g.B.Body.text l.fn.begun ++ take l.taken l.run) (begun_text g.B.Body.text l.begun);
  ends : 0 < l.taken → IsWithout 13 l.run → EndsPlain (begun_text g.B.Body.text l.begun);
}

abbrev pub decreases-run : goal.decreases-run
decreases-run g l = length l.run - l.taken
