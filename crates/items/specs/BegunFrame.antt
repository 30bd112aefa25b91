-- A frame that has begun, and the bytes in whose place stands what is kept of it.
use Rattle.std.specs.Prelude.{◌≡◌, ◌+◌, ◌-◌, ◌<◌, ◌≤◌, ◌^◌, ◌==◌, ℕ, Bool, false, List, [], ◌++◌, length, take, replicate}
use Rattle.byteorder.specs.Endian.{big_bytes}
use Rattle.items.specs.Framing.{Framing, framed}
use Rattle.items.specs.Come.{Come}
use Rattle.items.specs.declared.begun_frame.Dropped.{Dropped}
use Rattle.items.specs.declared.begun_frame.Begun.{Begun}
use Rattle.items.specs.declared.begun_frame.Begun.TheVariants.{Length, Counted, Asked, Wrong}

-- however a stream goes on behind the one or the other, it says the same
abbrev pub GoesOnAs : {A : Type 0} → Framing A → List ℕ → List ℕ → Type 0
GoesOnAs f bytes other = (more : List ℕ) → framed f (bytes ++ more) ≡ framed f (other ++ more)

-- a length, and those of the bytes that it counts that have come
unfoldable pub frame_part : ℕ → List ℕ → List ℕ
frame_part count bytes = big_bytes 4 count ++ bytes

-- Of a frame that is certainly wrong no bytes are kept. Zeros stand in their place: no frame begins so that isn't bad.
abbrev pub begun_bytes : {B : Type 0} → (B → Come) → Begun B → List ℕ
begun_bytes come (Length part) = part.items
begun_bytes come (Counted count) = frame_part count []
begun_bytes come (Asked body) = frame_part (length (come body).bytes + (come body).left) (come body).bytes
begun_bytes come (Wrong frame) = frame_part frame.length (replicate (frame.length - frame.left) 0)

-- all bytes that the length counts have come
abbrev pub is_complete : {B : Type 0} → (B → Come) → Begun B → Bool
is_complete come (Length part) = false
is_complete come (Counted count) = false
is_complete come (Asked body) = (come body).left == 0
is_complete come (Wrong frame) = frame.left == 0

-- a frame is certainly wrong where it is too long, or counts nothing, or its first byte has come
pub record IsWrong (limit : ℕ) (frame : Dropped) : Type 0 where
  pub within : frame.left ≤ frame.length
  pub fits : frame.length < 2 ^ 32
  pub certain : frame.length ≤ limit → 0 < frame.length → frame.left < frame.length

abbrev pub IsBegun : {B : Type 0} → ℕ → (B → Come) → Begun B → Type 0
IsBegun limit come (Length part) = length part.items < 4
IsBegun limit come (Counted count) = (0 < count) × (count ≤ limit)
IsBegun limit come (Asked body) = (0 < length (come body).bytes) × (length (come body).bytes + (come body).left ≤ limit)
IsBegun limit come (Wrong frame) = IsWrong limit frame

-- nothing of a frame has come
pub record IsNothing {B : Type 0} (limit : ℕ) (come : B → Come) (begun : Begun B) : Type 0 where
  pub begun_well : IsBegun limit come begun
  pub none : begun_bytes come begun ≡ []

-- so many bytes have come off the front of a piece, at least one
pub record TakesPart {A B : Type 0} (f : Framing A) (come : B → Come) (bytes piece : List ℕ) (begun : Begun B) (count : ℕ) : Type 0 where
  pub some : 0 < count
  pub within : count ≤ length piece
  pub begun_well : IsBegun f.limit come begun
  pub goes_on : GoesOnAs f (bytes ++ take count piece) (begun_bytes come begun)
