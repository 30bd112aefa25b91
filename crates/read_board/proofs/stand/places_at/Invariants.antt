use Rattle.std.proofs.Common.{◌≡◌}
use Rattle.std.specs.List.{All}
use Rattle.left_right.specs.Sides.{view}
use Rattle.read_board.proofs.stand.places_at.Given as goal

abbrev pub invariant-loop : goal.invariant-loop
invariant-loop l = (l.writer.desk.shown ≡ l.fn.writer.desk.shown) × (view l.writer.desk.place ≡ view l.fn.writer.desk.place) × All (λ p. view p.place ≡ view l.fn.writer.desk.place) l.all.items
