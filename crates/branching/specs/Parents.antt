-- Which blob each version of a blob was made on, by the parents of all blobs of a store.
use Rattle.std.specs.Prelude.{ℕ, ◌==◌, ◌&&◌, nat_le, suc, if◌then◌else◌, List, [], ◌∷◌, length, Option, Some, None}
use Rattle.branching.specs.declared.Parent.{Parent}

-- The blob that a version was numbered in, where blob number n has the n-th parent from the end: the blob itself, but the
-- parent's for a version of a branch up to the one that it was taken at.
abbrev pub origin_of : List (Option Parent) → ℕ → ℕ → ℕ
origin_of [] blob version = blob
origin_of (None ∷ older) blob version = origin_of older blob version
origin_of (Some parent ∷ older) blob version =
    if blob == suc (length older) && nat_le version parent.version then origin_of older parent.blob version else origin_of older blob version
