-- The snapshots that are kept of the versions that were opened.
use Rattle.std.specs.Prelude.{◌≡◌, ℕ, ◌-◌, ◌≤◌, ◌==◌, nat_le, nat_lt, if◌then◌else◌, Bool, false, suc, List, [], ◌∷◌, length, drop, map, slice_get, Some}
use Rattle.snapshot.specs.Versions.{Version}

-- a version that is kept, by which it and each lower one of its blob can be read
pub record KeptVersion : Type 0 where
  pub blob : ℕ
  pub version : ℕ

abbrev pub kept_of : Version → KeptVersion
kept_of v = record { blob = v.blob; version = length v.rows }

abbrev pub all_kept : List Version → List KeptVersion
all_kept vs = map kept_of vs

-- what is kept of the blob is of this version at least
abbrev pub has_opened : List KeptVersion → ℕ → ℕ → Bool
has_opened [] blob version = false
has_opened (k ∷ ks) blob version = if k.blob == blob then nat_le version k.version else has_opened ks blob version

-- the snapshot is one of these, of that blob and of this version at least
pub record Covers (vs : List Version) (blob version : ℕ) (v : Version) : Type 0 where
  pub index : ℕ
  pub is : slice_get vs index ≡ Some v
  pub blob_is : v.blob ≡ blob
  pub reaches : version ≤ length v.rows

-- where the blob's snapshot stands, or how many there are
abbrev pub place_of : ℕ → List Version → ℕ
place_of blob [] = 0
place_of blob (v ∷ vs) = if v.blob == blob then 0 else suc (place_of blob vs)

-- the newer of two snapshots of a blob
abbrev pub newer : Version → Version → Version
newer a b = if nat_lt (length a.rows) (length b.rows) then b else a

-- with the snapshot: the newer one in the place of its blob's, or behind the others where there is none
abbrev pub and_snapshot : List Version → Version → List Version
and_snapshot [] v = v ∷ []
and_snapshot (x ∷ xs) v = if x.blob == v.blob then newer x v ∷ xs else x ∷ and_snapshot xs v

-- so, and without the first where there are more than four
abbrev pub keeping : List Version → Version → List Version
keeping vs v = drop (length (and_snapshot vs v) - 4) (and_snapshot vs v)
