use Rattle.items.proofs.FrameBegun.{goes_wrong}
use Rattle.items.proofs.begun_frame.asked.Goals as goal

pub returns-in-None-clause-bytes : goal.returns-in-None-clause-bytes
returns-in-None-clause-bytes g c = goes_wrong g.B.Body.framing g.met.B.Body.is_framing c.args.length c.args.first c.requires.some c.requires.few c.in-None.ensures
