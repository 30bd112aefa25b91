use Rattle.std.proofs.Common.{refl, subst, arith}
use Rattle.settings.specs.Values.{SettingsValues}
use Rattle.blobseer_run.specs.Script.{fixed_of, IsCalm}
use Rattle.blobseer_run.specs.Store.{IsNewStore}
use Rattle.blobseer_run.proofs.Lendings.{none_made}
use Rattle.blobseer_run.proofs.FilesServed.{did_none}
use Rattle.blobseer_run.proofs.filing.answer_files.Goals as goal

pub answer_lines-requires-clause-store : goal.answer_lines-requires-clause-store
answer_lines-requires-clause-store g c κs within = subst (λ (s : SettingsValues). IsNewStore c.args.settings.now s.limits c.in-Ok.shared c.in-Ok.owner) c.settings.view_is c.in-Ok.ensures

pub returns-in_default-clause-did : goal.returns-in_default-clause-did
returns-in_default-clause-did g c = did_none (fixed_of c.args.settings.now) c.args.settings.now.providers (IsCalm g.M.Door.Door.faults) _ _ refl refl refl refl (omega arith)

pub returns-in_default-clause-lent : goal.returns-in_default-clause-lent
returns-in_default-clause-lent g c = none_made g.M.DoorMaker.hands_out g.M.DoorMaker.takes_back c.args.settings.now.providers _
