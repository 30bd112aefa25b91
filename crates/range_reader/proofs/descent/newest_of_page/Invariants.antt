use Rattle.std.proofs.Common.{◌≡◌, ◌+◌}
use Rattle.range_reader.proofs.Descending.{IsOver}
use Rattle.range_reader.proofs.descent.newest_of_page.Given as goal

-- the row is that of version `at`, which has the newest node of the height over the page
abbrev pub invariant-loop-level : goal.invariant-loop-level
invariant-loop-level g l = record {
  row : l.row ≡ record { version = l.snapshot; update = l.at };
  over : IsOver l.snapshot l.page l.level l.at;
  counted : l.steps + l.level ≡ l.fn.steps + l.fn.levels;
}
