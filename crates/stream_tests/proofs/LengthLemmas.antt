-- Lines that are heard as their lengths.
use Rattle.std.proofs.Common.{◌≡◌, ◌∙◌, ℕ, ◌+◌, ◌<◌, ◌==◌, nat_lt, Bool, cond, true, false, List, [], ◌∷◌, ◌++◌, length, length-append, refl, ap, arith}
use Rattle.std.proofs.lemmas.Bool.Decides.{nat_tests}
use Rattle.items.specs.Items.{after_item}
use Rattle.stream_tests.specs.Lengths.{heard_behind}

cut_where : (count : ℕ) (bytes : List ℕ) → (heard_behind count bytes).whole ≡ [] → (heard_behind count bytes).cut ≡ nat_lt 0 (count + length bytes)
cut_where count [] none = ap (λ (n : ℕ). nat_lt 0 n) (omega arith)
cut_where count (b ∷ bytes) none = go (b == 10) refl none (cut_where (count + 1) bytes)
  where
    go : (ends : Bool) → (b == 10) ≡ ends → (cond ends (after_item count (heard_behind 0 bytes)) (heard_behind (count + 1) bytes)).whole ≡ []
        → ((heard_behind (count + 1) bytes).whole ≡ [] → (heard_behind (count + 1) bytes).cut ≡ nat_lt 0 ((count + 1) + length bytes))
        → (heard_behind count (b ∷ bytes)).cut ≡ nat_lt 0 (count + length (b ∷ bytes))
    go true e k on = absurd (cc)
    go false e k on = rw e (on k ∙ ap (λ (n : ℕ). nat_lt 0 n) (omega arith))

-- a stream without a whole line ends inside one where there are bytes
pub ends_inside : (count : ℕ) (rest : List ℕ) → (heard_behind count (rest ++ [])).whole ≡ [] → 0 < count + length rest → (heard_behind count (rest ++ [])).cut ≡ true
ends_inside count rest none some =
    let joined = length-append rest [] in
    cut_where count (rest ++ []) none ∙ grind (arith, nat_tests, some, joined)

not_zero : (n : ℕ) → (n == 0) ≡ false → 0 < n
not_zero n h = grind (arith, nat_tests, h)

pub ends_inside_rest : (count : ℕ) (rest : List ℕ) → (heard_behind count (rest ++ [])).whole ≡ [] → (length rest == 0) ≡ false → (heard_behind count (rest ++ [])).cut ≡ true
ends_inside_rest count rest none some = let more = not_zero (length rest) some in ends_inside count rest none (omega arith)
