use Rattle.version_manager.proofs.Gaps.{entries_events}
use Rattle.version_manager.proofs.laws.entries_are_events.Goals as goal

pub returns : goal.returns
returns c = entries_events
