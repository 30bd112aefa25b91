use Rattle.std.proofs.Common.{◌≡◌, ◌+◌, ◌≤◌, [], ◌∷◌}
use Rattle.client_session.specs.Sessions.{IsOwnerOf}
use Rattle.standing_tests.proofs.crowd.analysts_of.Given as goal

abbrev pub invariant-loop-number : goal.invariant-loop-number
invariant-loop-number g l = IsOwnerOf l.shared l.owner × (l.stand.board.store ≡ l.shared ∷ []) × (16 ≤ l.stand.left + l.number)
