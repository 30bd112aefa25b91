use Rattle.read_board.proofs.Boards.{admits, forks, merges}
use Rattle.read_board.proofs.stand.place_at.Goals as goal

pub reader-made-requires : goal.reader-made-requires
reader-made-requires c = admits

pub tell-requires : goal.tell-requires
tell-requires c = forks _ _

pub learn-requires-clause-rule : goal.learn-requires-clause-rule
learn-requires-clause-rule c = merges _ _ _ _
