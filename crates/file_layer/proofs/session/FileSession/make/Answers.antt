use Rattle.std.proofs.Common.{sym, ◌∙◌, subst}
use Rattle.file_layer.specs.Files.{OnFree, among_others}
use Rattle.file_layer.specs.Sessions.{files_of, said_of}
use Rattle.file_layer.proofs.session.FileSession.make.Goals as goal

pub returns-in-None-clause-answers : goal.returns-in-None-clause-answers
returns-in-None-clause-answers g c = record {
  seen = files_of c.foresee.new.self;
  looks = c.foresee.ensures.looks;
  goes_on = subst (λ o. OnFree among_others c.args.path (files_of c.foresee.new.self) o (said_of c.make_free.result) (files_of c.make_free.new.self)) (sym c.in-None.is ∙ c.foresee.ensures.foresees) c.make_free.ensures.answers;
}
