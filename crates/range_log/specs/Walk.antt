use Rattle.std.specs.Prelude.{◌≡◌, ℕ, ◌+◌, ◌-◌, ◌*◌, ◌/◌, ◌^◌, ◌<◌, ◌≤◌, ◌==◌, ◌⊎◌, ◌&&◌, true, false, zero, suc, nat_lt, nat_le, List, length, if◌then◌else◌}
use Rattle.std.specs.List.{sum_by}
use Rattle.tree_geom.specs.declared.range.Range.{Range}
use Rattle.tree_geom.specs.declared.touch.Touch.{Touch}
use Rattle.tree_geom.specs.Geometry.{meets_of, left_half, right_half, tree_range, span_of, height_of}
use Rattle.range_log.specs.Log.{newest_of, size_at, HasNode, touch_at}
use Rattle.range_log.specs.Extents.{Extent, InBounds, IsLog, touches, size_after}
use Rattle.range_log.specs.Visits.{visits, pages_met, backs_of}

-- ---- one descent
-- the half of r in which the target begins
abbrev pub half_toward : Range → Range → Range
half_toward r target = if nat_lt target.offset (r.offset + r.size / 2) then left_half r else right_half r

-- From the node of version j for r, by at most `most` links: the version of the node for the target, or 0 at a link 0.
unfoldable pub descend : ℕ → ℕ → List Touch → ℕ → Range → Range → ℕ
descend zero p log j r target = j
descend (suc most) p log j r target =
    if nat_le r.size target.size then j
    else (if newest_of p log j (half_toward r target) == 0 then 0
    else descend most p log (newest_of p log j (half_toward r target)) (half_toward r target) target)

-- the range of the root of version v
abbrev pub root_of : ℕ → List Touch → ℕ → Range
root_of p log v = record { offset = 0; size = span_of p (size_at log v) }

-- 0 for a range past the root of version v, else where the links from that root lead
unfoldable pub found : ℕ → List Touch → ℕ → Range → ℕ
found p log v target = if nat_le (span_of p (size_at log v)) target.offset then 0 else descend (height_of p (size_at log v)) p log v (root_of p log v) target

-- the greatest of the n versions after v whose touched pages meet the range, or 0
unfoldable pub waiting_of : ℕ → List Touch → ℕ → ℕ → Range → ℕ
waiting_of p log v zero r = 0
waiting_of p log v (suc n) r = if meets_of p (touch_at log (suc (v + n))) r then suc (v + n) else waiting_of p log v n r

-- each version but 0 has a node for its root's range
abbrev pub RootsStand : Type 0
RootsStand = (p v : ℕ) (us : List Extent) → 1 ≤ p → InBounds us → 1 ≤ v → v ≤ length us → HasNode p (touches p us) v (root_of p (touches p us) v)

-- the links from a root lead to the newest version that touches the range
abbrev pub LinksFind : Type 0
LinksFind = (p v h q : ℕ) (us : List Extent) → 1 ≤ p → InBounds us → v ≤ length us
    → found p (touches p us) v (tree_range p h q) ≡ newest_of p (touches p us) v (tree_range p h q)

-- A link of the newest node for a range leads, for a half that begins before the size, to the newest node for the half.
abbrev pub LinksStep : Type 0
LinksStep = (p v j : ℕ) (us : List Extent) (r half : Range) → 1 ≤ p → InBounds us → v ≤ length us → HasNode p (touches p us) j r
    → j ≡ newest_of p (touches p us) v r → p < r.size → (half ≡ left_half r) ⊎ (half ≡ right_half r) → half.offset < size_after us v
    → HasNode p (touches p us) (newest_of p (touches p us) j half) half × (newest_of p (touches p us) j half ≡ newest_of p (touches p us) v half)

-- the same, by the heights and numbers of the ranges
abbrev pub ChildStands : Type 0
ChildStands = (p v j h q c : ℕ) (log : List Touch) → 1 ≤ p → IsLog p log → v ≤ length log → HasNode p log j (tree_range p (suc h) q)
    → j ≡ newest_of p log v (tree_range p (suc h) q) → (c ≡ 2 * q) ⊎ (c ≡ 2 * q + 1) → c * (p * 2 ^ h) < size_at log v
    → HasNode p log (newest_of p log j (tree_range p h c)) (tree_range p h c)
    × (newest_of p log j (tree_range p h c) ≡ newest_of p log v (tree_range p h c))

-- The newest version is the newest of those after v, or else where the links of version v lead.
abbrev pub WeaverFinds : Type 0
WeaverFinds = (p v n h q : ℕ) (us : List Extent) → 1 ≤ p → InBounds us → v + n ≤ length us
    → newest_of p (touches p us) (v + n) (tree_range p h q)
    ≡ (if waiting_of p (touches p us) v n (tree_range p h q) == 0 then found p (touches p us) v (tree_range p h q) else waiting_of p (touches p us) v n (tree_range p h q))

-- ---- a walk to some pages
-- how many ranges of height h and below, under range number q of that height, meet the pages first to last
unfoldable pub nodes_visited : ℕ → ℕ → ℕ → ℕ → ℕ
nodes_visited zero q first last = if nat_le q last && nat_le first q then 1 else 0
nodes_visited (suc h) q first last =
    elim (nat_le (q * 2 ^ suc h) last && nat_lt first ((q + 1) * 2 ^ suc h)) [
      | true ↦ 1 + nodes_visited h (2 * q) first last + nodes_visited h (2 * q + 1) first last
      | false ↦ 0
    ]

-- none, where the range lies before the pages or after them
abbrev pub VisitedNone : Type 0
VisitedNone = (h q first last : ℕ) → (last < q * 2 ^ h) ⊎ ((q + 1) * 2 ^ h ≤ first) → nodes_visited h q first last ≡ 0

-- one, for one of the pages
abbrev pub VisitedLeaf : Type 0
VisitedLeaf = (q first last : ℕ) → first ≤ q → q ≤ last → nodes_visited 0 q first last ≡ 1

-- the range itself, and those under its halves, where it meets the pages
abbrev pub VisitedInner : Type 0
VisitedInner = (h q first last : ℕ) → q * 2 ^ suc h ≤ last → first < (q + 1) * 2 ^ suc h
    → nodes_visited (suc h) q first last ≡ 1 + nodes_visited h (2 * q) first last + nodes_visited h (2 * q + 1) first last

-- those from a root down are fewer than 2 for each page and 2 for each level
abbrev pub VisitedAreFew : Type 0
VisitedAreFew = (h first last : ℕ) → first ≤ last → last < 2 ^ h → nodes_visited h 0 first last < 2 * (last + 1 - first) + 2 * h

-- a walk from the root of version v to the pages of n bytes at o, and on by the backs of each page, is within the visit bound
abbrev pub WalksAreBounded : Type 0
WalksAreBounded = (p v o n : ℕ) (us : List Extent) → 1 ≤ p → 1 ≤ n → o + n ≤ size_after us v
    → nodes_visited (height_of p (size_after us v)) 0 (o / p) ((o + n - 1) / p) + sum_by (λ i. backs_of p us v i) (pages_met p o n) ≤ visits p us v o n
