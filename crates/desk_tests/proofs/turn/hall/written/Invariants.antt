use Rattle.std.specs.Option.{unwrap_or}
use Rattle.desk_tests.proofs.turn.hall.written.Given as goal

abbrev pub ghosts-write_in : goal.ghosts-write_in
ghosts-write_in g a = record { lock = a.turn; title = unwrap_or a.owner.fixed 0 }
