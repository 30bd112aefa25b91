use Rattle.server_core.proofs.Told.{appended}
use Rattle.server_core.proofs.laws.conversations_are_told.Goals as goal

pub returns : goal.returns
returns g c = λ old reads before after limit new end held given written gave wrote. record {
  gave = appended before.given after.given given held.taken gave held.takes.given;
  wrote = appended old.written new.written written held.progress.out wrote held.progress.adds;
}
