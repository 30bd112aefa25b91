use Rattle.std.proofs.Common.{arith}
use Rattle.std.proofs.lemmas.Str.Pattern.{strip_prefix_char}
use Rattle.settings.proofs.SpellingLemmas.{strip_hyphen-from}
use Rattle.settings.proofs.spelling.strip_hyphen.Goals as goal

pub returns : goal.returns
returns c = strip_hyphen-from c.args.word.now c.strip_prefix.result (strip_prefix_char 45 c.args.word.now c.strip_prefix.result c.strip_prefix.ensures.cases (omega arith))
