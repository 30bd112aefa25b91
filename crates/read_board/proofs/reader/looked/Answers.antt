use Rattle.std.proofs.Common.{refl}
use Rattle.read_board.proofs.Boards.{turns}
use Rattle.read_board.proofs.reader.looked.Goals as goal

pub enter_as-requires : goal.enter_as-requires
enter_as-requires c x = turns _ _ x x refl
