-- The book that places is even, and has these numbers.
use Rattle.std.proofs.Common.{ℕ, map, subst}
use Rattle.replica_place.specs.Chosen.{chosen}
use Rattle.provider_manager.specs.Placed.{PlacedInTurn}
use Rattle.provider_manager.proofs.even.EvenBook.place_each.Goals as goal

pub returns-clause-evenly : goal.returns-clause-evenly
returns-clause-evenly c = record {
  loads = c.make_fit.new.self.book.loads;
  count = c.make_fit.ensures.providers;
  even = c.make_fit.new.self.even;
  in_turn =
      let P : ℕ → Type 0 = λ r. PlacedInTurn c.make_fit.new.self.book.loads r (map chosen c.place_each.new.pages) in
      subst P c.make_fit.ensures.replicas c.place_each.ensures.in_turn;
}
