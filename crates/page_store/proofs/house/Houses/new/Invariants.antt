use Rattle.std.proofs.Common.{◌≡◌, ◌≤◌, vec_len}
use Rattle.std.specs.Prelude.{vec_capacity}
use Rattle.page_store.specs.House.{AreNumbered}
use Rattle.page_store.proofs.house.Houses.new.Given as goal

abbrev pub invariant-loop-before : goal.invariant-loop-before
invariant-loop-before l = record {
  count : vec_len l.houses ≡ l.before;
  room : l.providers ≤ vec_capacity l.houses;
  numbered : AreNumbered l.houses.items;
}
