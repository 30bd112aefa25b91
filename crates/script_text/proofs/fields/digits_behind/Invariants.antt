use Rattle.std.proofs.Common.{◌≡◌, ◌≤◌, ◌-◌, ◌++◌, length, take}
use Rattle.std.specs.Fmt.{decimal}
use Rattle.script_text.proofs.fields.digits_behind.Given as goal

abbrev pub invariant-digits : goal.invariant-digits
invariant-digits l = record {
  within : l.count ≤ length l.piece;
  digits : decimal l.fn.first ++ take l.count l.piece ≡ decimal l.number;
}

abbrev pub decreases-digits : goal.decreases-digits
decreases-digits l = length l.piece - l.count
