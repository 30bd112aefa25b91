use Rattle.std.proofs.Common.{◌≡◌, drop}
use Rattle.clap.specs.Matches.{first_value, found_of}
use Rattle.settings.specs.Reading as reading
use Rattle.settings.proofs.said.with_numbers.Given as goal

abbrev pub invariant-loop-key : goal.invariant-loop-key
invariant-loop-key l =
    reading.with_numbers (first_value (found_of l.found)) (drop l.key-index l.keys) l.given ≡ reading.with_numbers (first_value (found_of l.found)) l.keys l.fn.given
