use Rattle.std.proofs.Common.{sym, ◌∙◌, subst}
use Rattle.file_layer.specs.Files.{OnBlob, WhereAnswer, among_others}
use Rattle.file_layer.specs.Sessions.{files_of, said_of}
use Rattle.file_layer.proofs.session.FileSession.where_path.Goals as goal

pub returns-in-Ok-clause-answers : goal.returns-in-Ok-clause-answers
returns-in-Ok-clause-answers g c = record {
  seen = files_of c.find.new.self;
  looks = c.find.ensures.looks;
  goes_on = subst (λ o. OnBlob c.args.path (files_of c.find.new.self) (λ blob. WhereAnswer among_others (files_of c.find.new.self) blob c.args.version c.args.offset c.args.count) o (said_of c.where_blob.result) (files_of c.where_blob.new.self))
      (sym c.in-Ok.is ∙ c.find.ensures.found) c.where_blob.ensures.answers;
}
