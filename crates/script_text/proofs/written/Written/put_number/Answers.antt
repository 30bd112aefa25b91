use Rattle.std.proofs.Common.{◌≤◌, ◌<◌, ◌^◌, ℕ, List, length, drop, decimal, arith, ap, length-append, length-drop}
use Rattle.std.proofs.lemmas.Fmt.{length-decimal-le}
use Rattle.script_text.proofs.written.Written.put_number.Goals as goal

-- a number has no more than twenty digits
few : (n : ℕ) → n < 2 ^ 64 → length (decimal n) ≤ 20
few n fits = length-decimal-le 20 n (omega arith) (omega arith) fits

pub write_digits-self-inside-requires : goal.write_digits-self-inside-requires
write_digits-self-inside-requires c =
    let digits = few c.args.number c.ranges.number.fits in
    let there = ap (λ (l : List ℕ). length l) c.self.view_is in
    let left = length-drop c.self.inside.start c.self.inside.bytes in
    (omega (arith, digits, there, left, c.requires), omega arith)

pub put-requires : goal.put-requires
put-requires c =
    let w = c.write_digits-self-inside in
    let digits = few c.args.number c.ranges.number.fits in
    let there = ap (λ (l : List ℕ). length l) c.self.view_is in
    let written = ap (λ (l : List ℕ). length l) w.ensures.written in
    let joined = length-append (decimal c.args.number) (drop c.self.inside.start c.self.inside.bytes) in
    omega (arith, digits, there, written, joined, c.requires)

pub returns-clause-short : goal.returns-clause-short
returns-clause-short c =
    let w = c.write_digits-self-inside in
    let digits = few c.args.number c.ranges.number.fits in
    let there = ap (λ (l : List ℕ). length l) c.self.view_is in
    let written = ap (λ (l : List ℕ). length l) w.ensures.written in
    let joined = length-append (decimal c.args.number) (drop c.self.inside.start c.self.inside.bytes) in
    let whole = ap (λ (l : List ℕ). length l) c.put.ensures in
    let all = length-append c.args.words.now (drop w.result w.new.buf) in
    omega (arith, digits, there, written, joined, whole, all)
