-- Loads after more replicas.
use Rattle.std.proofs.Common.{◌≡◌, ◌≢◌, ℕ, zero, suc, ◌+◌, ◌-◌, ◌<◌, List, [], ◌∷◌, length, get_or, All, AllPairs, refl, sym, ap, ◌∙◌, arith}
use Rattle.std.proofs.lemmas.List.{length-set, get_or-set_same, get_or-set_other}
use Rattle.replica_place.specs.Order.{load_of}
use Rattle.provider_manager.specs.Loads.{with_replica, with_replicas}

pub length-with_replicas : (loads ps : List ℕ) → length (with_replicas loads ps) ≡ length loads
length-with_replicas loads [] = refl
length-with_replicas loads (p ∷ ps) = length-with_replicas (with_replica loads p) ps ∙ length-set loads (p - 1) (load_of loads p + 1)

-- a load whose provider got no replica
pub with_replicas-other : (loads ps : List ℕ) (k : ℕ) → All (λ p. p - 1 ≢ k) ps → get_or (with_replicas loads ps) k 0 ≡ get_or loads k 0
with_replicas-other loads [] k h = refl
with_replicas-other loads (p ∷ ps) k h =
    with_replicas-other (with_replica loads p) ps k (λ i d l. h (suc i) d (omega arith)) ∙ get_or-set_other loads (p - 1) k (load_of loads p + 1) 0 (λ e. h 0 0 (omega arith) (sym e))

abbrev pub AreApart : List ℕ → Type 0
AreApart ps = AllPairs (λ p q. p - 1 ≢ q - 1) ps

AreApart-tail : (p : ℕ) (ps : List ℕ) → AreApart (p ∷ ps) → AreApart ps
AreApart-tail p ps h = λ i j d l m. h (suc i) (suc j) d (omega arith) (omega arith)

-- a load whose provider got one
pub with_replicas-one : (loads ps : List ℕ) (i : ℕ) → i < length ps → AreApart ps → get_or ps i 0 - 1 < length loads → get_or (with_replicas loads ps) (get_or ps i 0 - 1) 0 ≡ get_or loads (get_or ps i 0 - 1) 0 + 1
with_replicas-one loads [] i small apart within = absurd (omega arith)
with_replicas-one loads (p ∷ ps) zero small apart within =
    with_replicas-other (with_replica loads p) ps (p - 1) (λ k d l e. apart 0 (suc k) d (omega arith) (omega arith) (sym e)) ∙ get_or-set_same loads (p - 1) (load_of loads p + 1) 0 within
with_replicas-one loads (p ∷ ps) (suc i) small apart within =
    with_replicas-one (with_replica loads p) ps i (omega arith) (AreApart-tail p ps apart) (omega (arith, length-set loads (p - 1) (load_of loads p + 1)))
    ∙ ap (λ x. x + 1) (get_or-set_other loads (p - 1) (get_or ps i 0 - 1) (load_of loads p + 1) 0 (λ e. apart 0 (suc i) 0 (omega arith) (omega arith) (sym e)))
