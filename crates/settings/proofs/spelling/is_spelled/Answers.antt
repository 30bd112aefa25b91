use Rattle.std.proofs.Common.{map, drop, string_bytes, Some, None, sym, ap, ◌∙◌, ◌+◌, ◌≡◌, List, ℕ}
use Rattle.settings.specs.Words.{names_of}
use Rattle.settings.specs.Spelling.{is_spelled, waits_after}
use Rattle.settings.proofs.SpellingLemmas.{spelled_at, texts_from}
use Rattle.settings.proofs.spelling.is_spelled.Goals as goal

pub loop-word-preserved : goal.loop-word-preserved
loop-word-preserved c =
    let names = names_of c.args.command in
    let rest : List (List ℕ) = map string_bytes (drop (c.loop-word.word-index + 1) c.args.words.now) in
    let texts = texts_from c.args.words.now c.loop-word.word-index c.word-item.result c.loop-word-test.true c.word-item.is in
    let waits : Some c.in-Some.next ≡ waits_after names c.loop-word.waits (string_bytes c.word-item.result) =
    sym c.in-Some.is ∙ c.waits_after.ensures ∙ ap (waits_after names c.loop-word.waits) c.as_str.ensures.value in
    sym (spelled_at names rest (string_bytes c.word-item.result) c.loop-word.waits (Some c.in-Some.next) waits)
    ∙ sym (ap (λ (ws : List (List ℕ)). is_spelled names ws c.loop-word.waits) texts) ∙ c.loop-word.invariant

pub returns-in-None : goal.returns-in-None
returns-in-None c =
    let names = names_of c.args.command in
    let rest : List (List ℕ) = map string_bytes (drop (c.loop-word.word-index + 1) c.args.words.now) in
    let texts = texts_from c.args.words.now c.loop-word.word-index c.word-item.result c.loop-word-test.true c.word-item.is in
    let waits : None ≡ waits_after names c.loop-word.waits (string_bytes c.word-item.result) =
    sym c.in-None.is ∙ c.waits_after.ensures ∙ ap (waits_after names c.loop-word.waits) c.as_str.ensures.value in
    sym (spelled_at names rest (string_bytes c.word-item.result) c.loop-word.waits None waits)
    ∙ sym (ap (λ (ws : List (List ℕ)). is_spelled names ws c.loop-word.waits) texts) ∙ c.loop-word.invariant
