use Rattle.blobseer_run.specs.Script.{script, IsCalm}
use Rattle.blobseer_run.proofs.Known.{answered}
use Rattle.blobseer_run.proofs.laws.scripts_are_told.Goals as goal

pub returns : goal.returns
returns g c = λ fixed old new status gave wrote did known. answered (script fixed (IsCalm g.D.Door.faults) old.doors new.doors) old new status gave wrote did.served known
