use Rattle.std.proofs.Common.{◌≡◌, ◌++◌, drop, flat_map, codes}
use Rattle.file_names.specs.Said.{entry_text}
use Rattle.file_names.proofs.reply.entries_line.Given as goal

abbrev pub invariant-loop-entry : goal.invariant-loop-entry
invariant-loop-entry l = l.line.items ++ flat_map entry_text (drop l.entry-index l.entries) ≡ codes "list" ++ flat_map entry_text l.entries
