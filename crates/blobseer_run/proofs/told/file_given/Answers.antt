use Rattle.std.proofs.Common.{refl, sym, subst}
use Rattle.settings.specs.Words.{Bytes}
use Rattle.settings.specs.File.{Gives}
use Rattle.blobseer_run.specs.Told.{FileGives, FileRefused}
use Rattle.blobseer_run.specs.Telling.{FileStops}
use Rattle.blobseer_run.proofs.told.file_given.Goals as goal

pub returns-in-TooLong-clause-stopped : goal.returns-in-TooLong-clause-stopped
returns-in-TooLong-clause-stopped g c = FileStops.refused refl (FileRefused.too_long c.as_str.result.now (cc) c.in-TooLong.ensures.reads)

pub returns-in-Failed-clause-stopped : goal.returns-in-Failed-clause-stopped
returns-in-Failed-clause-stopped g c = FileStops.unread refl c.as_str.result.now (cc) c.in-Failed.ensures.faults

pub returns-in-Ok-clause-gives : goal.returns-in-Ok-clause-gives
returns-in-Ok-clause-gives g c = FileGives.named c.as_str.result.now c.in-Text.text (cc) c.in-Text.ensures.reads c.in-Text.ensures.within
    (subst (λ (text : Bytes). Gives text c.in-Ok.given) c.as_slice.ensures c.in-Ok.ensures)

pub returns-in-Err-Refused-clause-stopped : goal.returns-in-Err-Refused-clause-stopped
returns-in-Err-Refused-clause-stopped g c = FileStops.refused refl (FileRefused.no_settings c.as_str.result.now c.in-Text.text (cc) c.in-Text.ensures.reads c.in-Text.ensures.within
    (λ file gives. c.in-Err-Refused.ensures c.in-Err-Refused.field-0-is file (subst (λ (text : Bytes). Gives text file) (sym c.as_slice.ensures) gives)))
