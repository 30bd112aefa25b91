use Rattle.std.proofs.Common.{map, take}
use Rattle.replica_place.specs.Chosen.{chosen}
use Rattle.provider_manager.proofs.Turns.{IsAfter}
use Rattle.provider_manager.proofs.book.LoadBook.place_each.Given as goal

abbrev pub invariant-loop-page : goal.invariant-loop-page
invariant-loop-page l = IsAfter l.initial.self l.self (map chosen (take l.page-index l.pages))
