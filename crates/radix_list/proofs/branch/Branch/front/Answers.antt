use Rattle.std.proofs.Common.{ℕ, List, take, map, sym, ap, ◌∙◌, ◌≡◌, length, min}
use Rattle.std.specs.Arc.{arc_value}
use Rattle.std.proofs.lemmas.List.{take-map, take_min}
use Rattle.radix_list.proofs.branch.Branch.front.Goals as goal

-- a front of a slice, and of what a function makes of its elements
front_is : {X Y : Type 0} (f : X → Y) (xs slice : List X) (ys : List Y) (n m count : ℕ) → slice ≡ xs → map f xs ≡ ys → m ≡ min count n → n ≡ length xs → map f (take m slice) ≡ take count ys
front_is f xs slice ys n m count same view least size =
    ap (λ k. map f (take k slice)) (least ∙ ap (λ k. min count k) size)
    ∙ (ap (λ l. map f (take (min count (length xs)) l)) same
    ∙ (ap (map f) (take_min count xs) ∙ (sym (take-map f count xs) ∙ ap (take count) view)))

pub returns-clause-children : goal.returns-clause-children
returns-clause-children g c =
    front_is arc_value c.self.inside.children.items c.deref.result.now c.args.self.now c.len.result c.min.result c.args.count c.deref.ensures.value c.self.view_is c.min.ensures (c.len.ensures ∙ (sym c.deref.ensures.len ∙ ap length c.deref.ensures.value))
