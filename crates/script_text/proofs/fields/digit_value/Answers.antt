use Rattle.script_text.proofs.PairLemmas.{digit_counts, digit_few}
use Rattle.script_text.proofs.fields.digit_value.Goals as goal

pub returns-clause-value : goal.returns-clause-value
returns-clause-value c = digit_counts c.args.digit c.requires

pub returns-clause-few : goal.returns-clause-few
returns-clause-few c = digit_few c.args.digit _ (digit_counts c.args.digit c.requires)
