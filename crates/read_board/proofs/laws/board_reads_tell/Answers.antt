use Rattle.read_board.proofs.Telling.{board_reads_tell, board_reads_agree}
use Rattle.read_board.proofs.laws.board_reads_tell.Goals as goal

pub returns-clause-tell : goal.returns-clause-tell
returns-clause-tell c = board_reads_tell c.old_versions_stay.ensures c.published_are_numbered.ensures

pub returns-clause-agree : goal.returns-clause-agree
returns-clause-agree c = board_reads_agree c.old_versions_stay.ensures c.published_are_numbered.ensures
