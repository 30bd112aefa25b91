use Rattle.std.proofs.Common.{◌≡◌, ℕ, ◌+◌, ◌-◌, ◌*◌, ◌≤◌, ◌++◌, length, get_or, map, sum, drop, ap, ◌∙◌, arith}
use Rattle.std.proofs.lemmas.List.{append-nil, drop_all, get_or_default, take_all}
use Rattle.std.proofs.lemmas.List.Edits.{map_over_more}
use Rattle.provider_manager.proofs.Lowering.{sum-lowered}
use Rattle.provider_manager.proofs.loads.lower_by.Goals as goal

pub loop-load-preserved : goal.loop-load-preserved
loop-load-preserved c =
    let ys = c.loop-load.loads in
    let i = c.loop-load.load-index in
    let x = get_or ys i 0 in
    map_over_more (λ load. load - c.args.amount) c.args.loads.now ys i x (omega arith) c.loop-load.invariant (get_or_default ys i 0 x (omega arith))

pub returns-clause-sum : goal.returns-clause-sum
returns-clause-sum c =
    let xs = c.args.loads.now in
    let i = c.loop-load.load-index in
    let f : ℕ → ℕ = λ load. load - c.args.amount in
    let all : length xs ≤ i = omega arith in
    let whole : c.loop-load.loads ≡ map f xs = c.loop-load.invariant ∙ ap (λ t. map f t ++ drop i xs) (take_all i xs all) ∙ ap (λ t. map f xs ++ t) (drop_all i xs all) ∙ append-nil (map f xs) in
    ap (λ t. sum t + length xs * c.args.amount) whole ∙ sum-lowered c.args.amount xs c.requires
