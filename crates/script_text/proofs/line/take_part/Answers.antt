use Rattle.std.proofs.Common.{◌∷◌, ◌++◌, [], ℕ, List, ap, subst, ◌∙◌, arith}
use Rattle.script_text.specs.Decoded.{AsksNothing}
use Rattle.script_text.proofs.TakenLemmas.{letters_come, word_ends, unknown_ends, space_comes}
use Rattle.script_text.proofs.line.take_part.Goals as goal

pub returns-then-count-piece-clause-takes : goal.returns-then-count-piece-clause-takes
returns-then-count-piece-clause-takes c =
    let a = c.add_letters-count in
    rw c.in-Word.is (letters_come _ a.new.word.items c.args.piece.now a.result (omega (arith, c.if-count-piece.true, c.requires.some)) a.ensures.within a.ensures.word a.ensures.letters)

pub returns-then-piece-count-ne32-clause-takes : goal.returns-then-piece-count-ne32-clause-takes
returns-then-piece-count-ne32-clause-takes c =
    let a = c.add_letters-count in
    rw c.in-Word.is (word_ends _ a.new.word.items c.args.piece.now a.result (omega (arith, c.if-count-piece.false, a.ensures.within)) a.ensures.word a.ensures.letters a.ensures.stops c.if-piece-count-ne32.true)

pub returns-in-None-clause-takes : goal.returns-in-None-clause-takes
returns-in-None-clause-takes c =
    let a = c.add_letters-count in
    let asks = subst (λ (l : List ℕ). AsksNothing (l ++ 32 ∷ [])) c.as_slice.ensures.value c.in-None.ensures in
    rw c.in-Word.is (unknown_ends _ a.new.word.items c.args.piece.now a.result (omega (arith, c.if-count-piece.false, a.ensures.within)) a.ensures.word c.if-piece-count-ne32.false asks)

pub returns-in-Some-clause-takes : goal.returns-in-Some-clause-takes
returns-in-Some-clause-takes c =
    let a = c.add_letters-count in
    let behind = c.of.ensures ∙ ap (λ (l : List ℕ). l ++ 32 ∷ []) (c.in-Some.ensures.0 ∙ c.as_slice.ensures.value) in
    rw c.in-Word.is (space_comes _ a.new.word.items c.args.piece.now _ a.result (omega (arith, c.if-count-piece.false, a.ensures.within)) a.ensures.word a.ensures.letters c.if-piece-count-ne32.false behind)
