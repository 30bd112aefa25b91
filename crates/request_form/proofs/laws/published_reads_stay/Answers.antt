use Rattle.request_form.proofs.PublishedReads.{reads_stay}
use Rattle.request_form.proofs.laws.published_reads_stay.Goals as goal

pub returns : goal.returns
returns c = reads_stay c.old_versions_stay.ensures c.published_are_numbered.ensures
