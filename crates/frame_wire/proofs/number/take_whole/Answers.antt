use Rattle.std.proofs.Common.{◌≡◌, ◌∙◌, ◌+◌, ◌-◌, ◌++◌, ◌∷◌, [], ℕ, List, take, drop, take-add, ap, sym, arith, append_assoc, append-nil}
use Rattle.frame_wire.specs.Said.{field, fields}
use Rattle.frame_wire.proofs.RequestLemmas.{fields-append}
use Rattle.frame_wire.proofs.number.take_whole.Goals as goal

pub numbers-preserved : goal.numbers-preserved
numbers-preserved c =
    let before = c.numbers.invariant in
    let piece = c.args.piece.now in
    let first = fields c.args.numbers.now.items in
    let taken = c.numbers.taken in
    let eight : taken + 8 - taken ≡ 8 = omega arith in
    let is : field c.number.result ≡ take 8 (drop taken piece) = c.number.ensures ∙ ap (λ (k : ℕ). take k (drop taken piece)) eight in
    let more =
    ap (λ (l : List ℕ). fields l) c.push.ensures.items
    ∙ fields-append c.numbers.numbers.items (c.number.result ∷ [])
    ∙ ap (λ (l : List ℕ). fields c.numbers.numbers.items ++ l) (append-nil (field c.number.result) ∙ is)
    ∙ ap (λ (l : List ℕ). l ++ take 8 (drop taken piece)) before.2
    ∙ append_assoc first (take taken piece) (take 8 (drop taken piece))
    ∙ ap (λ (l : List ℕ). first ++ l) (sym (take-add taken 8 piece)) in
    (omega arith, omega (arith, c.push.ensures.len, c.len.ensures.value), more, omega (arith, c.push.ensures.len, before.3))
