use Rattle.std.proofs.Common.{◌≡◌, ◌++◌, map}
use Rattle.file_names.specs.Folders.{listed_of}
use Rattle.file_names.proofs.folders.list_entries.Given as goal

abbrev pub invariant-loop-name : goal.invariant-loop-name
invariant-loop-name l = l.all.items ++ map (λ e. listed_of (e.0.items, e.1)) l.name-iterator ≡ map (λ e. listed_of (e.0.items, e.1)) l.entries.entries
