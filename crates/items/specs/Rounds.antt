-- Lists of items up to a last one, and the replies to them.
use Rattle.std.specs.Prelude.{◌≡◌, ℕ, ◌+◌, Bool, false, if◌then◌else◌, ◌||◌, List, [], ◌∷◌}

-- the items up to the first last one, and with it
abbrev pub until_last : {A : Type 0} → (A → Bool) → List A → List A
until_last is_last [] = []
until_last is_last (item ∷ items) = item ∷ (if is_last item then [] else until_last is_last items)

abbrev pub has_last : {A : Type 0} → (A → Bool) → List A → Bool
has_last is_last [] = false
has_last is_last (item ∷ items) = is_last item || has_last is_last items

-- one reply for each item, one after another, by how one is answered
abbrev pub Rounds : {A B S : Type 0} → (S → A → B → S → Type 0) → S → List A → List B → S → Type 0
Rounds {S = S} Answers s [] [] s' = s' ≡ s
Rounds {S = S} Answers s (item ∷ items) (reply ∷ replies) s' = (mid : S) × Answers s item reply mid × Rounds Answers mid items replies s'
Rounds {S = S} Answers s [] (reply ∷ replies) s' = ⊥
Rounds {S = S} Answers s (item ∷ items) [] s' = ⊥

-- a number for each round, added up: it goes by the state after the round, the item and its reply
abbrev pub sum_rounds : {A B S : Type 0} (count : S → A → B → ℕ) (Answers : S → A → B → S → Type 0) (s : S) (items : List A) (replies : List B) (s' : S)
    → Rounds Answers s items replies s' → ℕ
sum_rounds count Answers s [] [] s' run = 0
sum_rounds count Answers s (item ∷ items) (reply ∷ replies) s' (mid, first, rest) = count mid item reply + sum_rounds count Answers mid items replies s' rest
sum_rounds count Answers s [] (reply ∷ replies) s' none = absurd none
sum_rounds count Answers s (item ∷ items) [] s' none = absurd none
