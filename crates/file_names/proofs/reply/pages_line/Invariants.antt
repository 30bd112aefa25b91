use Rattle.std.proofs.Common.{◌≡◌, ◌++◌, drop, flat_map, codes}
use Rattle.file_names.specs.Said.{page_text}
use Rattle.file_names.proofs.reply.pages_line.Given as goal

abbrev pub invariant-loop-held : goal.invariant-loop-held
invariant-loop-held l = l.line.items ++ flat_map page_text (drop l.held-index l.pages) ≡ codes "where" ++ flat_map page_text l.pages
