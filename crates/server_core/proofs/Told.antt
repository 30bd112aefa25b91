-- Bytes that a stream tells.
use Rattle.std.proofs.Common.{◌≡◌, ℕ, List, ◌++◌, Option, None, Some, ap, subst}
use Rattle.std.specs.Io.KnownBytes.{Appends}

-- known bytes that grow are known after it
pub appended : (old new : Option (List ℕ)) (xs bs : List ℕ) → old ≡ Some xs → Appends old new bs → new ≡ Some (xs ++ bs)
appended old None xs bs is grew = absurd (subst (λ (o : Option (List ℕ)). Appends o None bs) is grew)
appended old (Some ys) xs bs is grew = ap (λ (l : List ℕ). Some l) (subst (λ (o : Option (List ℕ)). Appends o (Some ys) bs) is grew)
