use Rattle.std.proofs.Common.{◌≡◌, ℕ, ◌-◌, replicate, refl, ap, arith}
use Rattle.items.specs.BegunFrame.{frame_part}
use Rattle.items.proofs.begun_frame.counted.Goals as goal

pub returns-then-length-limit-clause-bytes : goal.returns-then-length-limit-clause-bytes
returns-then-length-limit-clause-bytes g c =
    let n = c.args.length in
    let none : n - n ≡ 0 = omega arith in
    ap (λ (k : ℕ). frame_part n (replicate k 0)) none

pub returns-else-length-limit-clause-bytes : goal.returns-else-length-limit-clause-bytes
returns-else-length-limit-clause-bytes g c = refl
