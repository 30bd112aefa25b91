-- The placements of an update's pages.
use Rattle.std.proofs.Common.{◌≡◌, ℕ, ◌+◌, ◌*◌, ◌/◌, ◌%◌, ◌≤◌, List, get_or, arith, subst}
use Rattle.std.specs.Prelude.{All, min}
use Rattle.std.proofs.lemmas.Grind.{div_ceil_times}
use Rattle.page_store.specs.House.{IsProvider}
use Rattle.provider_manager.specs.Placed.{IsSpread}

-- as many pages as that have room for the bytes
pub pages_enough : (n p count : ℕ) → 4 ≤ p → count ≡ n / p + min 1 (n % p) → n ≤ count * p
pages_enough n p count least is = rw is ((div_ceil_times n p (omega arith)).0)

-- pages that were spread over the providers are at providers
pub all_served : (providers replicas doors : ℕ) (placed : List (List ℕ)) → providers ≡ doors → All (IsSpread providers replicas) placed → All (All (IsProvider doors)) placed
all_served providers replicas doors placed same spread k d lt m e l =
    let P : ℕ → Type 0 = λ n. IsProvider n (get_or (get_or placed k d) m e) in
    subst P same ((spread k d lt).within m e l)
