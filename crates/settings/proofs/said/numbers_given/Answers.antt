use Rattle.std.proofs.Common.{◌∙◌, ap₂, List}
use Rattle.clap.specs.Matches.{first_value, found_of}
use Rattle.settings.specs.declared.table.Key.{Key}
use Rattle.settings.specs.Values.{GivenValues}
use Rattle.settings.specs.Reading.{with_numbers}
use Rattle.settings.proofs.ReadingLemmas.{with_numbers-keys}
use Rattle.settings.proofs.said.numbers_given.Goals as goal

pub returns : goal.returns
returns c =
    let said = first_value (found_of c.args.found.now) in
    c.with_numbers.ensures ∙ ap₂ (λ (ks : List Key) (g : GivenValues). with_numbers said ks g) c.as_slice.ensures c.nothing.ensures ∙ with_numbers-keys said
