-- Which blob each version of a blob was made on.
use Rattle.std.specs.Prelude.{ℕ, suc, nat_lt, if◌then◌else◌, List, [], ◌∷◌}
use Rattle.branching.specs.declared.Branch.{Branch}

-- a blob without a parent, and the blobs that were branched one off the other from it, each after some version
pub record Line : Type 0 where
  pub root : ℕ
  pub branches : List Branch

-- the last of the blobs that begin below the version: `own` where none of the branches does
abbrev pub origin_from : ℕ → List Branch → ℕ → ℕ
origin_from own [] version = own
origin_from own (b ∷ bs) version = if nat_lt b.after version then origin_from b.blob bs version else own

-- the blob that the version was made on
abbrev pub origin_of : Line → ℕ → ℕ
origin_of line version = origin_from line.root line.branches version

-- how many of the branches, from the first on, begin below the version
abbrev pub begun_before : List Branch → ℕ → ℕ
begun_before [] version = 0
begun_before (b ∷ bs) version = if nat_lt b.after version then suc (begun_before bs version) else 0
