use Rattle.std.proofs.Common.{◌∙◌, ap}
use Rattle.client_session.specs.Sessions.{session_of}
use Rattle.file_layer.specs.Files.{is_recent}
use Rattle.file_layer.proofs.Recents.{recent_ok}
use Rattle.file_layer.proofs.session.FileSession.recent.Goals as goal

pub said_of_recent-requires : goal.said_of_recent-requires
said_of_recent-requires g c = ap is_recent c.recent.ensures.answers.said ∙ recent_ok (session_of c.self.inside.session) c.recent.ensures.answers.others c.args.blob
