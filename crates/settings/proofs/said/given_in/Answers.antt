use Rattle.std.proofs.Common.{Some, sym, ap, ◌∙◌}
use Rattle.clap.specs.Matches.{first_value, found_of}
use Rattle.settings.specs.Values.{GivenValues}
use Rattle.settings.proofs.ReadingLemmas.{given_said-texts, given_said-none}
use Rattle.settings.proofs.said.given_in.Goals as goal

pub returns-in_default : goal.returns-in_default
returns-in_default c _ = given_said-none (first_value (found_of c.args.found.now)) c.numbers_given.result c.numbers_given.ensures (sym c.in_default.is)

pub returns : goal.returns
returns c =
    given_said-texts (first_value (found_of c.args.found.now)) c.numbers_given.result c.in-Some.numbers c.in_ok-listen.listen c.in_ok-settings.settings
    c.numbers_given.ensures (sym c.in-Some.is) c.in_ok-listen.ensures c.in_ok-settings.ensures
    ∙ ap (λ (g : GivenValues). Some g) (sym c.with_texts.ensures)
