use Rattle.blob_model.proofs.Marks.{published_within}
use Rattle.world_acts.proofs.Reading.{reading, walking}
use Rattle.world_acts.proofs.laws.reads_are_steps.Goals as goal

pub returns-clause-reads : goal.returns-clause-reads
returns-clause-reads c = reading c.worlds_agree.ensures.stores

pub returns-clause-walks : goal.returns-clause-walks
returns-clause-walks c = walking c.old_versions_stay.ensures published_within c.worlds_agree.ensures.stores c.steps_hold.ensures.stays
