-- What a stream of bytes says, whatever its items are, and what is read of it.
use Rattle.std.specs.Prelude.{◌≡◌, ℕ, Bool, true, false, List, [], ◌∷◌, ◌++◌, Option, Some, None}
use Rattle.items.specs.declared.ending.Ending.{Ending}
use Rattle.items.specs.declared.ending.Ending.TheVariants.{Clean, Last, Cut}

-- what a stream of bytes says: its items, those that are whole before it ends, and whether it ends inside one
pub record ItemStream (A : Type 0) : Type 0 where
  pub items : List A
  pub whole : List A
  pub cut : Bool

-- the stream once an item stands before it
abbrev pub after_item : {A : Type 0} → A → ItemStream A → ItemStream A
after_item item stream = record { items = item ∷ stream.items; whole = item ∷ stream.whole; cut = stream.cut }

-- the stream once more items stand before it
abbrev pub after_items : {A : Type 0} → List A → ItemStream A → ItemStream A
after_items items stream = record { items = items ++ stream.items; whole = items ++ stream.whole; cut = stream.cut }

-- A reader is the stream that it says where it goes on by some bytes and then ends. One that was fed a piece says what the old one says from the piece on.
abbrev pub IsFed : {A : Type 0} → (List ℕ → ItemStream A) → List ℕ → (List ℕ → ItemStream A) → Type 0
IsFed old piece new = (more : List ℕ) → new more ≡ old (piece ++ more)

-- the next whole item, of which something is known, or none where only a part of one is left
abbrev pub IsNextItem : {A : Type 0} → (A → Type 0) → (List ℕ → ItemStream A) → Option A → (List ℕ → ItemStream A) → Type 0
IsNextItem Well old (Some item) new = ((more : List ℕ) → old more ≡ after_item item (new more)) × Well item
IsNextItem Well old None new = ((more : List ℕ) → old more ≡ new more) × ((new []).whole ≡ [])

-- what is left over once no whole item is
abbrev pub IsEndOf : {A : Type 0} → (A → Type 0) → (List ℕ → ItemStream A) → Ending A → Type 0
IsEndOf Well old Clean = ((old []).items ≡ (old []).whole) × ((old []).cut ≡ false)
IsEndOf Well old (Last item) = ((old []).items ≡ (old []).whole ++ item ∷ []) × ((old []).cut ≡ false) × Well item
IsEndOf Well old Cut = (old []).cut ≡ true
