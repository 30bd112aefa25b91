use Rattle.std.proofs.Common.{◌∙◌, sym, rules}
use Rattle.read_board.proofs.Latest.{put_at, put_pushed}
use Rattle.read_board.proofs.keeper.lay.Goals as goal

pub returns-then-at-len-clause-placed : goal.returns-then-at-len-clause-placed
returns-then-at-len-clause-placed c = put_at c.args.on.now.items c.args.refresh c.args.at c.requires.place (search rules)

pub returns-else-at-len-clause-placed : goal.returns-else-at-len-clause-placed
returns-else-at-len-clause-placed c =
    put_pushed c.args.on.now.items c.args.refresh c.args.at c.push-pushed.new.self.items _ c.requires.place (search rules) (sym c.is_ok-done.ensures.value ∙ c.if-prove.false) c.push-pushed.ensures.items
