use Rattle.std.proofs.Common.{◌≡◌, map, drop, string_bytes, false}
use Rattle.settings.specs.Words.{names_of}
use Rattle.settings.specs.Spelling.{is_spelled}
use Rattle.settings.proofs.spelling.is_spelled.Given as goal

abbrev pub invariant-loop-word : goal.invariant-loop-word
invariant-loop-word l = is_spelled (names_of l.command) (map string_bytes (drop l.word-index l.words)) l.waits ≡ is_spelled (names_of l.command) (map string_bytes l.words) false
