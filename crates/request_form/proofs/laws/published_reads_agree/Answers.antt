use Rattle.request_form.proofs.PublishedReads.{reads_agree}
use Rattle.request_form.proofs.laws.published_reads_agree.Goals as goal

pub returns : goal.returns
returns c = reads_agree c.old_versions_stay.ensures c.published_are_numbered.ensures
