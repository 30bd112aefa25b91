-- Peers that are still to come: the first one leaves.
use Rattle.std.proofs.Common.{◌≡◌, List, ◌++◌, Option, None, Some, IfSome, subst}
use Rattle.std.specs.List.{All}
use Rattle.std.specs.Option.{option_to_list}
use Rattle.std.proofs.lemmas.List.Elements.{All-head, All-tail}

-- what is so of all is so of the first one and of the rest
pub first_leaves : {X : Type 0} (P : X → Type 0) (xs rest : List X) (first : Option X) → xs ≡ option_to_list first ++ rest → All P xs → IfSome first P × All P rest
first_leaves P xs rest None is all = (tt, subst (All P) is all)
first_leaves P xs rest (Some x) is all =
    let these = subst (All P) is all in
    (All-head P x rest these, All-tail P x rest these)
