-- What holds of the origins of versions, and of the lines of branches that tell them.
use Rattle.std.specs.Prelude.{◌≡◌, ℕ, ◌<◌, ◌≤◌, suc, List, ◌∷◌, length, Option, Some, None}
use Rattle.branching.specs.Line.{Line}
use Rattle.branching.specs.Line.{origin_of as line_origin}
use Rattle.branching.specs.Parents.{origin_of}
use Rattle.branching.specs.declared.Parent.{Parent}

-- ---- origins
-- an origin stays, whatever blob is made next
abbrev pub OriginsStay : Type 0
OriginsStay = (next : Option Parent) (parents : List (Option Parent)) (blob version : ℕ) → blob ≤ length parents → origin_of (next ∷ parents) blob version ≡ origin_of parents blob version

-- the versions of a blob that isn't there yet are its own
abbrev pub NewAreOwn : Type 0
NewAreOwn = (parents : List (Option Parent)) (blob version : ℕ) → length parents < blob → origin_of parents blob version ≡ blob

-- the versions of a new branch above the one that it was taken at are its own
abbrev pub BranchesOwn : Type 0
BranchesOwn = (parent : Parent) (parents : List (Option Parent)) (blob version : ℕ) → blob ≡ suc (length parents) → parent.version < version → origin_of (Some parent ∷ parents) blob version ≡ blob

-- the others have the origin that they have in the parent
abbrev pub BranchesShare : Type 0
BranchesShare = (parent : Parent) (parents : List (Option Parent)) (blob version : ℕ) → blob ≡ suc (length parents) → version ≤ parent.version
    → origin_of (Some parent ∷ parents) blob version ≡ origin_of parents parent.blob version

-- ---- lines
-- the line tells of each version of the blob which blob it was numbered in
abbrev pub IsLineOf : List (Option Parent) → ℕ → Line → Type 0
IsLineOf parents blob line = (version : ℕ) → line_origin line version ≡ origin_of parents blob version

-- it does so whatever blob is made next
abbrev pub LinesStay : Type 0
LinesStay = (parents : List (Option Parent)) (next : Option Parent) (blob : ℕ) (line : Line) → blob ≤ length parents → IsLineOf parents blob line → IsLineOf (next ∷ parents) blob line

-- a line on which all versions are the blob's own is that of a new blob without a parent
abbrev pub FirstLines : Type 0
FirstLines = (parents : List (Option Parent)) (line : Line) → ((version : ℕ) → line_origin line version ≡ suc (length parents)) → IsLineOf (None ∷ parents) (suc (length parents)) line

-- a line on which the versions above the parent's are the blob's own, and the others those of the parent's line, is that of a
-- new branch
abbrev pub BranchedLines : Type 0
BranchedLines = (parents : List (Option Parent)) (parent : Parent) (line branched : Line) → IsLineOf parents parent.blob line
    → ((version : ℕ) → parent.version < version → line_origin branched version ≡ suc (length parents))
    → ((version : ℕ) → version ≤ parent.version → line_origin branched version ≡ line_origin line version)
    → IsLineOf (Some parent ∷ parents) (suc (length parents)) branched
