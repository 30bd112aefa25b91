-- The grammar of a stream of frames, whatever they say.
use Rattle.std.specs.Prelude.{◌≡◌, ℕ, ◌+◌, ◌^◌, ◌<◌, ◌==◌, ◌&&◌, nat_le, nat_lt, Bool, not, if◌then◌else◌, List, [], ◌∷◌, ◌++◌, length, drop}
use Rattle.byteorder.specs.Endian.{big_number}
use Rattle.items.specs.Items.{ItemStream, after_item}

-- What frames say: the most bytes that a length may count, what a frame says whose length counts more, what one says that is bad, and what the bytes spell
-- that a length counts.
pub record Framing (A : Type 0) : Type 0 where
  pub limit : ℕ
  pub too_long : ℕ → A
  pub bad : A
  pub spelled : List ℕ → A

-- a length of 4 bytes counts that many, and a frame without bytes is bad, and so is one whose first byte is 0
pub record IsFraming {A : Type 0} (f : Framing A) : Type 0 where
  pub fits : f.limit < 2 ^ 32
  pub empty : f.spelled [] ≡ f.bad
  pub zero : (bytes : List ℕ) → f.spelled (0 ∷ bytes) ≡ f.bad

-- the number that a frame begins with: how many bytes follow
abbrev pub length_of : List ℕ → ℕ
length_of frame = big_number 4 frame

-- what a whole frame says
abbrev pub item_of : {A : Type 0} → Framing A → List ℕ → A
item_of f frame = if nat_lt f.limit (length_of frame) then f.too_long (length_of frame) else f.spelled (drop 4 frame)

-- the length is there, and exactly as many bytes as it counts
abbrev pub is_whole : List ℕ → Bool
is_whole bytes = nat_le 4 (length bytes) && (length bytes == 4 + length_of bytes)

-- what bytes say behind those with which a frame has begun
abbrev pub framed_behind : {A : Type 0} → Framing A → List ℕ → List ℕ → ItemStream A
framed_behind f begun [] = record { items = []; whole = []; cut = not (length begun == 0) }
framed_behind f begun (b ∷ bytes) =
    if is_whole (begun ++ b ∷ []) then after_item (item_of f (begun ++ b ∷ [])) (framed_behind f [] bytes) else framed_behind f (begun ++ b ∷ []) bytes

-- what a stream of frames says: each ends where its length says, and the next begins behind it
abbrev pub framed : {A : Type 0} → Framing A → List ℕ → ItemStream A
framed f bytes = framed_behind f [] bytes
