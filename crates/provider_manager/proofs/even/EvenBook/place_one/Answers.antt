-- The book that places is even, and has these numbers.
use Rattle.std.proofs.Common.{ℕ, [], ◌∷◌, subst}
use Rattle.replica_place.specs.Chosen.{chosen}
use Rattle.provider_manager.specs.Placed.{PlacedInTurn}
use Rattle.provider_manager.proofs.Turns.{in_turn-one}
use Rattle.provider_manager.proofs.even.EvenBook.place_one.Goals as goal

pub returns-clause-evenly : goal.returns-clause-evenly
returns-clause-evenly c =
    let fit = c.make_fit.new.self.book in
    let P : ℕ → Type 0 = λ r. PlacedInTurn fit.loads r (chosen c.place_one.result ∷ []) in
    record {
      loads = fit.loads;
      count = c.make_fit.ensures.providers;
      even = c.make_fit.new.self.even;
      in_turn = subst P c.make_fit.ensures.replicas (in_turn-one fit.loads fit.replicas (chosen c.place_one.result) c.place_one.ensures.least);
    }

pub returns-clause-placed : goal.returns-clause-placed
returns-clause-placed c =
    let fit = c.make_fit.new.self.book in
    let P : ℕ → Type 0 = λ r. PlacedInTurn fit.loads r (chosen c.place_one.result ∷ []) in
    record {
      fit = fit;
      made = c.make_fit.ensures.made;
      even = c.make_fit.new.self.even;
      in_turn = subst P c.make_fit.ensures.replicas (in_turn-one fit.loads fit.replicas (chosen c.place_one.result) c.place_one.ensures.least);
      loads = c.place_one.ensures.loads;
    }
