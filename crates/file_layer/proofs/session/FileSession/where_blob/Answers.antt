use Rattle.std.proofs.Common.{sym, subst, refl}
use Rattle.request_form.specs.declared.form.Fault.TheVariants as Faults
use Rattle.file_layer.specs.Files.{WhereAnswer, among_others}
use Rattle.file_layer.specs.Sessions.{files_of}
use Rattle.file_layer.proofs.Wheres.{long_read, short_read, where_opened, where_refused}
use Rattle.file_layer.proofs.session.FileSession.where_blob.Goals as goal

pub returns-then-count-gt-MAX_READ-clause-answers : goal.returns-then-count-gt-MAX_READ-clause-answers
returns-then-count-gt-MAX_READ-clause-answers g c =
    WhereAnswer.too_long (Faults.ReadTooLong c.args.count) (long_read c.args.count c.if-count-gt-MAX_READ.true) c.said_of_fault.ensures refl

pub returns-in-Ok-clause-answers : goal.returns-in-Ok-clause-answers
returns-in-Ok-clause-answers g c =
    where_opened among_others (files_of c.args.self.now) (files_of c.«open».new.self) c.args.blob c.args.version c.args.offset c.args.count c.in-Ok.snapshot c.in-Ok.ensures.opens
    (short_read c.args.count c.if-count-gt-MAX_READ.false) c.places_said.result c.places_said.ensures

pub returns-in-Err-clause-answers : goal.returns-in-Err-clause-answers
returns-in-Err-clause-answers g c =
    subst (λ r. WhereAnswer among_others (files_of c.args.self.now) c.args.blob c.args.version c.args.offset c.args.count r (files_of c.«open».new.self)) (sym c.said_of_fault-in-Err.ensures)
    (where_refused among_others (files_of c.args.self.now) (files_of c.«open».new.self) c.args.blob c.args.version c.args.offset c.args.count c.in-Err.fault c.in-Err.ensures.opens (short_read c.args.count c.if-count-gt-MAX_READ.false))
