use Rattle.world_tests.proofs.Logs.{one_log}
use Rattle.world_tests.proofs.links.a_whole_mebibyte_may_visit_528_nodes.Goals as goal

pub row_keys-requires-clause-of_updates : goal.row_keys-requires-clause-of_updates
row_keys-requires-clause-of_updates g c = one_log c.expect-p.result c.touched-touch.result c.touched-touch.ensures.is
