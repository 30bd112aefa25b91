use Rattle.std.specs.Prelude.{ℕ, ◌+◌, ◌-◌, ◌==◌, Bool, true, false, if◌then◌else◌, List, [], ◌∷◌, ◌++◌, length, take, slice_set, slice_index_or, slice_get, replicate, max, Option, None}
use Rattle.blob_model.specs.Content.{Update, size_of, offset_of}
use Rattle.blob_model.specs.Limits.{Bounds}
use Rattle.blob_model.specs.declared.call.Place.{Place}

-- a blob: its updates, version 1 first, and which of them are finished
pub record Blob : Type 0 where
  pub updates : List Update
  pub finished : List Bool

-- the blobs by their ids, from 1, and how much the store takes
pub record Store : Type 0 where
  pub limits : Bounds
  pub blobs : List Blob

-- a store with nothing in it
abbrev pub empty_store : Bounds → Store
empty_store limits = record { limits = limits; blobs = [] }

-- the length of the longest prefix that is all true
abbrev pub true_prefix : List Bool → ℕ
true_prefix [] = 0
true_prefix (b ∷ bs) = if b then 1 + true_prefix bs else 0

-- the last numbered version
abbrev pub assigned : Blob → ℕ
assigned b = length b.updates

-- the greatest version up to which all are finished
abbrev pub published : Blob → ℕ
published b = true_prefix b.finished

-- the least unfinished version, or 0 where nothing waits
abbrev pub held : Blob → ℕ
held b = if published b == assigned b then 0 else published b + 1

-- how many updates are numbered and not published
abbrev pub waiting : Blob → ℕ
waiting b = assigned b - published b

-- the size of the last numbered version
abbrev pub size_now : Blob → ℕ
size_now b = size_of b.updates (assigned b)

-- the size that the blob would have with the update
abbrev pub size_with : Blob → Place → List ℕ → ℕ
size_with b place bytes = max (size_now b) (offset_of place (size_now b) + length bytes)

-- the blob of that id
abbrev pub blob_at : Store → ℕ → Option Blob
blob_at s blob = if blob == 0 then None else slice_get s.blobs (blob - 1)

-- the store with another blob under that id
abbrev pub with_blob : Store → ℕ → Blob → Store
with_blob s blob b = record { limits = s.limits; blobs = slice_set s.blobs (blob - 1) b }

-- the store with one blob more
abbrev pub and_blob : Store → Blob → Store
and_blob s b = record { limits = s.limits; blobs = s.blobs ++ b ∷ [] }

-- the blob with one update more, unfinished
abbrev pub and_update : Blob → Update → Blob
and_update b u = record { updates = b.updates ++ u ∷ []; finished = b.finished ++ false ∷ [] }

-- version 0 is empty and finished from the start
abbrev pub is_finished : Blob → ℕ → Bool
is_finished b version = if version == 0 then true else slice_index_or b.finished (version - 1) false

-- the blob with that version finished
abbrev pub finish : Blob → ℕ → Blob
finish b version = record { updates = b.updates; finished = slice_set b.finished (version - 1) true }

-- a blob of its own with the versions up to one of b, all finished
abbrev pub branch_of : Blob → ℕ → Blob
branch_of b version = record { updates = take version b.updates; finished = replicate version true }
