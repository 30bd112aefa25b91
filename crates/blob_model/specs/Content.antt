use Rattle.std.specs.Prelude.{ℕ, ◌+◌, List, [], ◌∷◌, ◌++◌, length, take, drop}
use Rattle.blob_model.specs.declared.call.Place.{Place}
use Rattle.blob_model.specs.declared.call.Place.TheVariants.{WriteAt, Append}

-- a write or an append of some bytes, by a caller
pub record Update : Type 0 where
  pub caller : ℕ
  pub place : Place
  pub bytes : List ℕ

-- c with the bytes b in place of its own from at on, and longer where they reach past its end
abbrev pub put : List ℕ → ℕ → List ℕ → List ℕ
put c at b = take at c ++ b ++ drop (at + length b) c

-- where an update falls in a blob of that size
abbrev pub offset_of : Place → ℕ → ℕ
offset_of (WriteAt offset) size = offset
offset_of Append size = size

-- what the blob holds after these updates in turn, begun from c
abbrev pub content_from : List ℕ → List Update → List ℕ
content_from c [] = c
content_from c (u ∷ us) = content_from (put c (offset_of u.place (length c)) u.bytes) us

-- what the blob holds at a version: the replay of the updates up to it
abbrev pub content : List Update → ℕ → List ℕ
content updates version = content_from [] (take version updates)

abbrev pub size_of : List Update → ℕ → ℕ
size_of updates version = length (content updates version)
