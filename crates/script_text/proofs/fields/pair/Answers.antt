use Rattle.script_text.proofs.BytesLemmas.{pair_decoded, pair_refused}
use Rattle.script_text.proofs.fields.pair.Goals as goal

pub returns-in-Ok : goal.returns-in-Ok
returns-in-Ok c =
    pair_decoded c.args.high c.args.low c.decode_to_slice.result c.as_slice.result.now c.as_mut_slice.result.now c.decode_to_slice.new.out c.in-Ok.field-0 c.as_slice.ensures c.as_mut_slice.ensures.value c.in-Ok.is c.decode_to_slice.ensures.value

pub returns-in-Err : goal.returns-in-Err
returns-in-Err c =
    pair_refused c.args.high c.args.low c.decode_to_slice.result c.as_slice.result.now c.as_mut_slice.result.now c.decode_to_slice.new.out c.in-Err.field-0 c.as_slice.ensures c.as_mut_slice.ensures.value c.in-Err.is c.decode_to_slice.ensures.value
