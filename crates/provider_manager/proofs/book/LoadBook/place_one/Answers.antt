-- The loads after are those before with a replica more at each of the least loaded.
use Rattle.std.proofs.Common.{ap, arith}
use Rattle.replica_place.specs.Chosen.{chosen}
use Rattle.provider_manager.proofs.Evenness.{even-placed}
use Rattle.provider_manager.proofs.book.LoadBook.place_one.Goals as goal

pub returns-clause-even : goal.returns-clause-even
returns-clause-even c =
    even-placed c.args.self.now.loads c.self.inside.loads.items c.as_slice.result.now c.as_mut_slice.result.now c.chosen.result.now (chosen c.choose-placement.result) c.add_replicas.new.loads c.self.inside.loads.len c.self.inside.replicas
    (ap (λ b. b.loads) c.self.view_is) c.as_slice.ensures.value c.choose-placement.ensures.least c.as_mut_slice.ensures.value c.add_replicas.ensures.loads c.chosen.ensures (omega (arith, c.add_replicas.auto.loads, c.as_mut_slice.ensures.len))
