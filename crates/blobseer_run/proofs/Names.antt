-- The names of four objects, one by one.
use Rattle.std.proofs.Common.{◌≡◌, List, [], ◌∷◌, ap}
use base.Fml.{GName}

abbrev head : GName → List GName → GName
head a [] = a
head a (b ∷ names) = b

abbrev tail : List GName → List GName
tail [] = []
tail (a ∷ names) = names

module _ (a b c d a' b' c' d' : GName) (same : a ∷ b ∷ c ∷ d ∷ [] ≡ a' ∷ b' ∷ c' ∷ d' ∷ []) where
  pub first_name : a ≡ a'
  first_name = ap (head a) same

  pub second_name : b ≡ b'
  second_name = ap (λ (l : List GName). head b (tail l)) same

  pub third_name : c ≡ c'
  third_name = ap (λ (l : List GName). head c (tail (tail l))) same

  pub fourth_name : d ≡ d'
  fourth_name = ap (λ (l : List GName). head d (tail (tail (tail l)))) same
