-- What is taken off the front of a piece, and what a frame gives.
use Rattle.std.specs.Prelude.{◌≡◌, ◌+◌, ◌<◌, ◌≤◌, ℕ, true, List, [], ◌++◌, length, take, Option, Some, None}
use Rattle.items.specs.Items.{after_item}
use Rattle.items.specs.Framing.{Framing, length_of, framed}
use Rattle.items.specs.Come.{Come}
use Rattle.items.specs.BegunFrame.{begun_bytes, is_complete, IsBegun, GoesOnAs}
use Rattle.items.specs.declared.begun_frame.Begun.{Begun}

-- the bytes begin no whole frame
abbrev pub IsOpen : List ℕ → Type 0
IsOpen bytes = 4 ≤ length bytes → length bytes < 4 + length_of bytes

-- so many bytes have come off the front of a piece: all of them, or all that were to come
pub record TakesParts {A B : Type 0} (f : Framing A) (come : B → Come) (bytes piece : List ℕ) (begun : Begun B) (count : ℕ) : Type 0 where
  pub within : count ≤ length piece
  pub begun_well : IsBegun f.limit come begun
  pub goes_on : GoesOnAs f (bytes ++ take count piece) (begun_bytes come begun)
  pub enough : count < length piece → is_complete come begun ≡ true

-- the same of a frame that is seen as the bytes that have come
pub record Takes {A : Type 0} (f : Framing A) (bytes piece bytes' : List ℕ) (count : ℕ) : Type 0 where
  pub within : count ≤ length piece
  pub goes_on : GoesOnAs f (bytes ++ take count piece) bytes'
  pub enough : count < length piece → IsOpen bytes' → ⊥

-- a whole frame is an item, and nothing of it is left; one that isn't whole gives none and stays
abbrev pub Gives : {A : Type 0} → Framing A → (A → Type 0) → List ℕ → List ℕ → Option A → Type 0
Gives f Well bytes bytes' (Some item) = ((more : List ℕ) → framed f (bytes ++ more) ≡ after_item item (framed f more)) × (bytes' ≡ []) × Well item
Gives f Well bytes bytes' None = IsOpen bytes × (bytes' ≡ bytes)
