use Rattle.read_board.proofs.Agreeing.{reads_agree}
use Rattle.read_board.proofs.laws.reads_agree.Goals as goal

pub returns : goal.returns
returns c = reads_agree
