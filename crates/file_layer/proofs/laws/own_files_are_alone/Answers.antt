use Rattle.file_layer.proofs.Alone.{rounds_alone}
use Rattle.file_layer.proofs.laws.own_files_are_alone.Goals as goal

pub returns : goal.returns
returns c = rounds_alone c.transcripts_hold.ensures.alone c.own_events_are_made.ensures
