use Rattle.world_tests.proofs.Logs.{three_log}
use Rattle.world_tests.proofs.links.three_appends_link_to_the_second.Goals as goal

pub row_keys-requires-clause-of_updates : goal.row_keys-requires-clause-of_updates
row_keys-requires-clause-of_updates g c = three_log c.expect-p.result c.touched.result c.touched-2.result c.touched-3.result c.touched.ensures.is c.touched-2.ensures.is c.touched-3.ensures.is
