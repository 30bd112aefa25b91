use Rattle.std.proofs.Common.{length}
use Rattle.request_form.specs.Transcript.{is_last}
use Rattle.server_core.proofs.Exact.{exactly}
use Rattle.server_core.proofs.Alone.{wrote_alone}
use Rattle.server_core.proofs.laws.endings_hold.Goals as goal

pub returns-clause-exact : goal.returns-clause-exact
returns-clause-exact c = λ said old reads before after limit new end served.
    exactly is_last (reads served.taken) (length served.taken) limit served.items served.rest after.left before.ends after.ends end served.ended served.closing

pub returns-clause-alone : goal.returns-clause-alone
returns-clause-alone c = λ said fixed old reads before after limit new end first own served.
    wrote_alone c.transcripts_hold.ensures.alone c.transcripts_hold.ensures.always said fixed old new first own (reads served.taken) (length served.taken) limit served.items served.rest after.left before.ends after.ends served.progress end served.ended served.reaches
