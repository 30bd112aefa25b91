use Rattle.file_layer.proofs.Lying.{lies}
use Rattle.file_layer.proofs.places.place_of.Goals as goal

pub returns-clause-lies : goal.returns-clause-lies
returns-clause-lies g c = λ houses lie.
    lies houses c.in-Some.stored.now.spots c.args.page c.replica_count-few.result c.in_ok-providers-in-Some.providers c.replica_count-few.ensures.count c.replica_count-few.ensures.some c.replica_count-few.ensures.few
    c.in_ok-providers-in-Some.ensures (c.in-Some.ensures.among houses lie)
