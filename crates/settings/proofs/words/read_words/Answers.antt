use Rattle.std.proofs.Common.{sym, string_bytes}
use Rattle.settings.proofs.Taken.{words_labelled, words_taken}
use Rattle.settings.proofs.words.read_words.Goals as goal

pub parse-requires-clause-label : goal.parse-requires-clause-label
parse-requires-clause-label c =
    words_labelled string_bytes c.args.words.now c.in-Some.first.now c.as_str.result.now c.named.result c.in-Some-named.command c.in-Some.ensures.value c.as_str.ensures.value
    c.named.ensures c.in-Some-named.is

pub returns : goal.returns
returns c =
    words_taken string_bytes c.args.words.now c.in-Some.first.now c.as_str.result.now c.named.result c.in-Some-named.command c.in_ok-given.given c.in-Some.ensures.value c.as_str.ensures.value
    c.named.ensures c.in-Some-named.is (sym c.if-not-is_spelled.ensures) c.in_ok-given.ensures
