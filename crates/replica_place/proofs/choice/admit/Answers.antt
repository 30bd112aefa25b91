-- What is kept are the first providers of the order, so each is a provider of the store.
use Rattle.std.proofs.Common.{◌≡◌, ℕ, ◌+◌, ◌≤◌, min, List, length, take, refl, ap, ◌∙◌, All, arith}
use Rattle.std.proofs.lemmas.List.Elements.{All-same, All-take, All-weaker}
use Rattle.replica_place.specs.Order.{IsProvider, ordered}
use Rattle.replica_place.proofs.Orders.{InRange, ordered-within}
use Rattle.replica_place.proofs.Admission.{admitted, left_out}
use Rattle.replica_place.proofs.choice.admit.Goals as goal

kept-within : (loads kept : List ℕ) (n room k : ℕ) → k ≡ min n room → take (min n room) kept ≡ take room (ordered loads n) → n ≤ length loads → All (IsProvider loads) (take k kept)
kept-within loads kept n room k e same h =
    All-same (IsProvider loads) (take k kept) (take room (ordered loads n)) (ap (λ t. take t kept) e ∙ same)
    (All-take (IsProvider loads) room (ordered loads n)
    (All-weaker (InRange n) (IsProvider loads) (λ p (w : InRange n p). (w.0, omega (arith, w.1))) (ordered loads n) (ordered-within loads n)))

pub position_of-position-requires-clause-providers : goal.position_of-position-requires-clause-providers
position_of-position-requires-clause-providers c =
    kept-within c.args.loads.now c.args.kept.now c.args.before (length c.args.kept.now) c.min.result c.min.ensures c.requires.least (omega arith)

pub returns-then-position-room : goal.returns-then-position-room
returns-then-position-room c = record {
  least = admitted c.args.loads.now c.args.kept.now c.put.new.kept c.args.before (c.args.before + 1) (length c.args.kept.now) c.min.result c.position_of-position.result refl c.min.ensures c.requires.least c.position_of-position.ensures c.if-position-room.true c.put.ensures;
}

pub returns-else-position-room : goal.returns-else-position-room
returns-else-position-room c = record {
  least = left_out c.args.loads.now c.args.kept.now c.args.before (c.args.before + 1) (length c.args.kept.now) c.min.result c.position_of-position.result refl c.min.ensures c.requires.least c.position_of-position.ensures c.if-position-room.false;
}
