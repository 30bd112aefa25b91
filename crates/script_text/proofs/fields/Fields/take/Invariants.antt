use Rattle.std.proofs.Common.{◌≤◌, ◌-◌, length}
use Rattle.script_text.proofs.TakenLemmas.{HasTaken}
use Rattle.script_text.proofs.fields.Fields.take.Given as goal

abbrev pub invariant-piece : goal.invariant-piece
invariant-piece l = record {
  within : l.taken ≤ length l.piece;
  takes : HasTaken l.fn.self l.piece l.self l.taken;
}

abbrev pub decreases-piece : goal.decreases-piece
decreases-piece l = length l.piece - l.taken
