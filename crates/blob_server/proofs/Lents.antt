-- The doors of all workers' sessions.
use Rattle.std.proofs.Common.{◌≡◌, ◌∙◌, ℕ, ◌+◌, ◌*◌, arith, refl, ap}
use Rattle.page_store.specs.Calls.{Traffic}
use Rattle.store_sessions.proofs.Traffics.{times_more, traffic_both, went_back}

-- the first worker's session ended, and then the others'
pub all_lent : {M : Type 0} (hands_out takes_back : M → M → Type 0) (p workers others : ℕ) (first made one last : M) → others + 1 ≡ workers
    → Traffic hands_out takes_back (workers * p) 0 first made → Traffic hands_out takes_back 0 p made one → Traffic hands_out takes_back 0 (others * p) one last
    → Traffic hands_out takes_back (workers * p) (workers * p) first last
all_lent hands_out takes_back p workers others first made one last is a b c =
    let more = times_more others p in
    let all : p + others * p ≡ workers * p = omega (arith, more) ∙ ap (λ (n : ℕ). n * p) is in
    went_back hands_out takes_back (workers * p) first made last a (traffic_both hands_out takes_back 0 p 0 (others * p) 0 (workers * p) made one last refl all b c)
