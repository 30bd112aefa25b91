use Rattle.script_text.proofs.PairLemmas.{digits_pair}
use Rattle.script_text.proofs.fields.digits_value.Goals as goal

pub returns : goal.returns
returns c index = digits_pair c.args.high c.args.low c.digit_value.result c.digit_value-2.result index c.digit_value.ensures.value c.digit_value-2.ensures.value
