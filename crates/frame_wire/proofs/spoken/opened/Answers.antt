use Rattle.std.proofs.Common.{◌≡◌, ◌∙◌, ◌+◌, ◌-◌, ◌≤◌, ℕ, true, false, List, ◌++◌, length, take, drop, sym, ap, arith}
use Rattle.std.specs.Str.{bytes_eq}
use Rattle.std.proofs.lemmas.List.{take_all}
use Rattle.std.proofs.Common.{length-drop}
use Rattle.std.proofs.lemmas.Slice.Eq.{bytes_eq-Decides}
use Rattle.items.specs.Framing.{framed}
use Rattle.frame_wire.specs.Frames.{hello, request_frames, second_frames}
use Rattle.frame_wire.proofs.SpokenLemmas.{opened_first, opened_more, opened_second, not_back}
use Rattle.frame_wire.proofs.spoken.opened.Goals as goal

-- the two parts that were compared
same_parts : (count next : ℕ) (piece front : List ℕ) → front ≡ hello → bytes_eq (take next piece) (take ((count + next) - count) (drop count front)) ≡ bytes_eq (take next piece) (take next (drop count hello))
same_parts count next piece front is =
    let far : (count + next) - count ≡ next = omega arith in
    ap (λ (l : List ℕ). bytes_eq (take next piece) (take ((count + next) - count) (drop count l))) is ∙ ap (λ (n : ℕ). bytes_eq (take next piece) (take n (drop count hello))) far

rest_is : (piece : List ℕ) (next : ℕ) → next ≤ length piece → take (length piece - next) (drop next piece) ≡ drop next piece
rest_is piece next within = let there = length-drop next piece in take_all (length piece - next) (drop next piece) (omega arith)

pub returns-then-ne : goal.returns-then-ne
returns-then-ne c =
    let count = c.args.count in
    let next = c.min-next.result in
    let piece = c.args.piece.now in
    let other = sym (same_parts count next piece c.as_slice.result.now c.as_slice.ensures) ∙ not_back _ false (sym c.ne.ensures ∙ c.if-ne.true) in
    opened_first count next piece c.requires c.min-next.ensures c.in_ok-first.field-0 other
    (λ more. c.in_ok-first.ensures more ∙ ap (λ (l : List ℕ). framed request_frames (l ++ (piece ++ more))) c.front.ensures)

pub returns-then-count-next-lt13 : goal.returns-then-count-next-lt13
returns-then-count-next-lt13 c =
    let count = c.args.count in
    let next = c.min-next.result in
    let piece = c.args.piece.now in
    let same = sym (same_parts count next piece c.as_slice.result.now c.as_slice.ensures) ∙ not_back _ true (sym c.ne.ensures ∙ c.if-ne.false) in
    opened_more count next piece c.requires c.min-next.ensures ((bytes_eq-Decides (take next piece) (take next (drop count hello))).0 same) c.if-count-next-lt13.true

pub returns : goal.returns
returns c =
    let count = c.args.count in
    let next = c.min-next.result in
    let piece = c.args.piece.now in
    let same = sym (same_parts count next piece c.as_slice.result.now c.as_slice.ensures) ∙ not_back _ true (sym c.ne.ensures ∙ c.if-ne.false) in
    opened_second count next piece c.requires c.min-next.ensures ((bytes_eq-Decides (take next piece) (take next (drop count hello))).0 same) c.in_ok-second.field-0 c.if-count-next-lt13.false
    (λ more. c.in_ok-second.ensures more ∙ ap (λ (l : List ℕ). framed second_frames (l ++ more)) (rest_is piece next (omega (arith, c.min-next.ensures))))
