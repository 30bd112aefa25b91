use Rattle.range_log.proofs.Bytes.{page_bytes_stay, extents_stand}
use Rattle.range_log.proofs.laws.page_bytes_stay.Goals as goal

pub returns-clause-bytes : goal.returns-clause-bytes
returns-clause-bytes c = page_bytes_stay

pub returns-clause-extents : goal.returns-clause-extents
returns-clause-extents c = extents_stand
