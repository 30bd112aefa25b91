use Rattle.std.specs.Prelude.{All}
use Rattle.page_store.specs.Page.{IsIn}
use Rattle.page_tests.proofs.house.put_thousand.Given as goal

abbrev pub invariant-loop-i : goal.invariant-loop-i
invariant-loop-i g l = All (λ page. IsIn l.house page.spot) l.pages.items
