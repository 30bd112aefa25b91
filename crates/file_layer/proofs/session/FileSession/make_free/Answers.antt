use Rattle.std.proofs.Common.{refl, Ok, Err}
use Rattle.file_layer.specs.Files.{MakesFile}
use Rattle.file_layer.specs.Sessions.{files_of}
use Rattle.file_layer.proofs.session.FileSession.make_free.Goals as goal

pub returns-in-Ok-enter-clause-answers : goal.returns-in-Ok-enter-clause-answers
returns-in-Ok-enter-clause-answers g c =
    MakesFile.created (files_of c.create.new.self) c.in-Ok.blob (Ok c.in-Ok-enter.field-0) c.in-Ok.ensures.asks c.in-Ok-enter.ensures.enters refl

pub returns-in-Err-enter-clause-answers : goal.returns-in-Err-enter-clause-answers
returns-in-Err-enter-clause-answers g c =
    MakesFile.created (files_of c.create.new.self) c.in-Ok.blob (Err c.in-Err-enter.fault) c.in-Ok.ensures.asks c.in-Err-enter.ensures.enters c.said_of_unentered.ensures

pub returns-in-Err-clause-answers : goal.returns-in-Err-clause-answers
returns-in-Err-clause-answers g c = MakesFile.not_created c.in-Err.fault c.in-Err.ensures.asks c.said_of_fault.ensures
