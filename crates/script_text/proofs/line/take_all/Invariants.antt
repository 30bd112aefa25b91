use Rattle.std.proofs.Common.{◌≤◌, ◌-◌, length}
use Rattle.script_text.specs.Begun.{begun_text, IsBegun}
use Rattle.script_text.proofs.TakenLemmas.{HasTaken}
use Rattle.script_text.proofs.line.take_all.Given as goal

abbrev pub invariant-piece : goal.invariant-piece
invariant-piece l = record {
  begun : IsBegun l.begun;
  within : l.taken ≤ length l.piece;
  takes : HasTaken (begun_text l.fn.begun) l.piece (begun_text l.begun) l.taken;
}

abbrev pub decreases-piece : goal.decreases-piece
decreases-piece l = length l.piece - l.taken
