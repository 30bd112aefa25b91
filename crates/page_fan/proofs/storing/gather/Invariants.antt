use Rattle.std.proofs.Common.{◌≡◌, ◌++◌, map, deque_len}
use Rattle.std.specs.Prelude.{Some}
use Rattle.page_store.specs.Stored.{IsCut}
use Rattle.page_fan.proofs.storing.gather.Given as goal

abbrev pub invariant-loop-next : goal.invariant-loop-next
invariant-loop-next l = record {
  all : map Some l.pages.pages ++ l.rest.items ≡ l.fn.answer.items;
  page_size : l.pages.page_size ≡ l.fn.pages.page_size;
  room : l.pages.room ≡ l.fn.pages.room;
  cut : IsCut l.fn.pages.page_size l.pages.pages;
}

abbrev pub decreases-loop-next : goal.decreases-loop-next
decreases-loop-next l = deque_len l.rest
