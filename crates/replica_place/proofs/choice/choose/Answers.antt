-- After the last provider what is kept are the first of all.
use Rattle.std.proofs.Common.{◌≡◌, ◌≢◌, ℕ, ◌≤◌, min, List, length, take, AllPairs, sym, ap, ◌∙◌, subst, arith}
use Rattle.std.proofs.lemmas.List.Elements.{All-same}
use Rattle.replica_place.specs.Order.{IsProvider, ordered, least, IsLeast}
use Rattle.replica_place.proofs.Orders.{is_least, least-distinct, least-within}
use Rattle.replica_place.proofs.choice.choose.Goals as goal

kept-least : (loads kept : List ℕ) (n r : ℕ) → n ≡ length loads → r ≤ n → take (min n r) kept ≡ take r (ordered loads n) → take r kept ≡ least loads r
unfolding least
kept-least loads kept n r e h same =
    let all : min n r ≡ r = omega arith in
    ap (λ t. take t kept) (sym all) ∙ same ∙ ap (λ t. take r (ordered loads t)) e

pub returns-clause-exact : goal.returns-clause-exact
returns-clause-exact c = kept-least c.args.loads.now c.loop-before.providers c.loop-before.before c.args.r (omega arith) (omega arith) c.loop-before.invariant.1

pub returns-clause-least : goal.returns-clause-least
returns-clause-least c =
    let P : List ℕ → Type 0 = IsLeast c.args.loads.now c.args.r in
    subst P (sym (returns-clause-exact c)) (is_least c.args.loads.now c.args.r)

pub returns-clause-distinct : goal.returns-clause-distinct
returns-clause-distinct c =
    let P : List ℕ → Type 0 = AllPairs ◌≢◌ in
    subst P (sym (returns-clause-exact c)) (least-distinct c.args.loads.now c.args.r)

pub returns-clause-within : goal.returns-clause-within
returns-clause-within c =
    All-same (IsProvider c.args.loads.now) _ _ (returns-clause-exact c) (least-within c.args.loads.now c.args.r)
