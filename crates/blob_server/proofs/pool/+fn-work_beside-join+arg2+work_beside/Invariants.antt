use Rattle.std.proofs.Common.{◌+◌, ◌*◌, vec_len}
use Rattle.blob_server.proofs.pool.+fn-work_beside-join+arg2+work_beside.Given as goal

abbrev pub decreases-join+arg2 : goal.decreases-join+arg2
decreases-join+arg2 g l = 2 * vec_len l.services + 1

abbrev pub decreases-work_beside : goal.decreases-work_beside
decreases-work_beside g l = 2 * vec_len l.services
