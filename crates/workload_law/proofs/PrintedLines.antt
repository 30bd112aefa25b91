-- The pieces of a line with three numbers, one after another, as the printer joins them.
use Rattle.std.proofs.Common.{◌≡◌, List, ℕ, [], ◌∷◌, ◌++◌, Result, Ok, Err, IfOk, Global, ◌∙◌, append_assoc}
use Rattle.std.specs.declared.string.String.{String}
use Rattle.std.specs.String.{string_bytes}

regrouped : (a b c d e f g : List ℕ) → a ++ (b ++ (c ++ (d ++ (e ++ (f ++ g))))) ≡ (((((a ++ b) ++ c) ++ d) ++ e) ++ f) ++ g
regrouped a b c d e f g = simp append_assoc

pub prints_three : {E : Type 0} (r : Result (String Global) E) (a b c d e f : List ℕ) → IfOk r (λ s. string_bytes s ≡ a ++ (b ++ (c ++ (d ++ (e ++ (f ++ 10 ∷ []))))))
    → IfOk r (λ s. string_bytes s ≡ (((((a ++ b) ++ c) ++ d) ++ e) ++ f) ++ 10 ∷ [])
prints_three (Ok s) a b c d e f h = h ∙ regrouped a b c d e f (10 ∷ [])
prints_three (Err e) a b c d e' f h = tt
