-- The pieces of a line, one after another, as the printer joins them.
use Rattle.std.proofs.Common.{◌≡◌, ℕ, List, [], ◌∷◌, ◌++◌, Result, Ok, Err, IfOk, Global, ◌∙◌, append_assoc}
use Rattle.std.specs.declared.string.String.{String}
use Rattle.std.specs.String.{string_bytes}

pub two_numbers : (a b c d e : List ℕ) → a ++ (b ++ (c ++ (d ++ e))) ≡ (((a ++ b) ++ c) ++ d) ++ e
two_numbers a b c d e = simp append_assoc

-- the same of a line that was written from its end
pub three_numbers : (a b c d e f : List ℕ) → a ++ ((b ++ c) ++ ((d ++ e) ++ f)) ≡ ((((a ++ b) ++ c) ++ d) ++ e) ++ f
three_numbers a b c d e f = simp append_assoc

-- and of one that was printed
pub prints_two : {E : Type 0} (r : Result (String Global) E) (a b c d : List ℕ) → IfOk r (λ s. string_bytes s ≡ a ++ (b ++ (c ++ (d ++ 10 ∷ [])))) →
    IfOk r (λ s. string_bytes s ≡ (((a ++ b) ++ c) ++ d) ++ 10 ∷ [])
prints_two (Ok s) a b c d h = h ∙ two_numbers a b c d (10 ∷ [])
prints_two (Err e) a b c d h = tt
