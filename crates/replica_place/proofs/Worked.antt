-- Worked rows of `least`.
use Rattle.std.proofs.Common.{◌≡◌, [], ◌∷◌, refl}
use Rattle.replica_place.specs.Order.{least}

-- two providers of one load are taken by number, before one of a higher load
pub lower_load_first : least (2 ∷ 1 ∷ 1 ∷ []) 2 ≡ 2 ∷ 3 ∷ []
unfolding least
lower_load_first = refl

-- equal loads are taken by number
pub equal_loads_by_number : least (0 ∷ 0 ∷ 0 ∷ []) 2 ≡ 1 ∷ 2 ∷ []
unfolding least
equal_loads_by_number = refl

-- the next page of that store, and the one after it
pub second_page : least (1 ∷ 1 ∷ 0 ∷ []) 2 ≡ 3 ∷ 1 ∷ []
unfolding least
second_page = refl

pub third_page : least (2 ∷ 1 ∷ 1 ∷ []) 2 ≡ 2 ∷ 3 ∷ []
unfolding least
third_page = refl

-- a lower load decides over a lower number
pub last_is_least : least (2305843009213693952 ∷ 2305843009213693951 ∷ []) 1 ≡ 2 ∷ []
unfolding least
last_is_least = refl

-- as many replicas as providers take all of them, in order
pub all_taken : least (3 ∷ 0 ∷ 2 ∷ 0 ∷ []) 4 ≡ 2 ∷ 4 ∷ 3 ∷ 1 ∷ []
unfolding least
all_taken = refl
