use Rattle.std.proofs.Common.{◌≡◌, ◌+◌, ◌<◌, ℕ, List, length, take, ◌++◌, ◌∷◌, [], ap, ◌∙◌, arith}
use Rattle.std.specs.Arc.{arc_value}
use Rattle.std.proofs.lemmas.List.{length-take, length-set, take_more_set}
use Rattle.radix_list.proofs.puts.Puts.push.Goals as goal

-- there is a place past the count
below : {X : Type 0} (shown now : List X) (count : ℕ) → (length shown ≡ 32) → take count shown ≡ now → length now < 32 → count < length shown
below shown now count whole is few = omega (arith, length-take count shown, ap length is)

pub set_at-requires : goal.set_at-requires
set_at-requires g c = (omega arith, below c.self.inside.shown c.args.self.now c.self.inside.count c.self.invariant.1 c.self.view_is c.requires)

pub invariant_of-self : goal.invariant_of-self
invariant_of-self g c =
    let lt = below c.self.inside.shown c.args.self.now c.self.inside.count c.self.invariant.1 c.self.view_is c.requires in
    (omega (arith, lt, c.self.invariant.1), ap length c.set_at.ensures ∙ (length-set c.self.inside.shown c.self.inside.count (c.args.written.of, arc_value c.args.written.value) ∙ c.self.invariant.1))

pub returns : goal.returns
returns g c =
    let lt = below c.self.inside.shown c.args.self.now c.self.inside.count c.self.invariant.1 c.self.view_is c.requires in
    ap (take (c.self.inside.count + 1)) c.set_at.ensures
    ∙ (take_more_set c.self.inside.shown c.self.inside.count (c.args.written.of, arc_value c.args.written.value) lt
    ∙ ap (λ l. l ++ (c.args.written.of, arc_value c.args.written.value) ∷ []) c.self.view_is)
