use Rattle.std.proofs.Common.{◌≡◌}
use Rattle.toml.specs.View.{members_view, table_view}
use Rattle.settings.specs.Values.{nothing}
use Rattle.settings.specs.File.{with_keys}
use Rattle.settings.proofs.file.with_all.Given as goal

abbrev pub invariant-loop-name : goal.invariant-loop-name
invariant-loop-name l =
    (goal.iterator-loop-name).can_next l.name-iterator × (goal.iterator-loop-name).is_finite l.name-iterator
    × (with_keys (members_view l.name-iterator) l.given ≡ with_keys (table_view l.table) nothing)
