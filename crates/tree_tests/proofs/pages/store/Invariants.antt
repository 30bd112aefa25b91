use Rattle.std.proofs.Common.{◌≡◌, length, ◌+◌}
use Rattle.page_store.specs.Stored.{AllFull}
use Rattle.tree_tests.proofs.pages.store.Given as goal

abbrev pub invariant-loop-i : goal.invariant-loop-i
invariant-loop-i g l = record {
  page_size : l.pages.page_size ≡ l.fn.p;
  room : l.pages.room ≡ l.full + 1;
  count : length l.pages.pages ≡ l.i;
  full : AllFull l.pages.page_size l.pages.pages;
}
