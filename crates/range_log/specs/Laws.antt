use Rattle.std.specs.Prelude.{◌≡◌, ◌⊎◌, ℕ, ◌+◌, ◌-◌, ◌*◌, ◌%◌, ◌^◌, ◌<◌, ◌≤◌, ◌↔◌, List, length, suc, true, false, take, drop, ◌++◌}
use Rattle.std.specs.List.{Contains, AllPairs}
use Rattle.blob_model.specs.Content.{Update, put, content, size_of}
use Rattle.tree_geom.specs.declared.range.Range.{Range}
use Rattle.tree_geom.specs.declared.touch.Touch.{Touch}
use Rattle.tree_geom.specs.Geometry.{tree_range, span_of, height_of, page_range, left_half, right_half, Meets}
use Rattle.tree_geom.specs.Nodes.{left_link, right_link, back_link, no_piece}
use Rattle.range_log.specs.Log.{size_at, HasNode, newest_of, IsNewest, touch_at}
use Rattle.range_log.specs.Extents.{Extent, InBounds, extent_at, size_after, touch_of, touches}
use Rattle.range_log.specs.Updates.{update_at, extents, extent_of, Replayable, page_bytes, own_bytes, piece_bytes}
use Rattle.range_log.specs.Rows.{back_of, covered, folded_of, folds_of, row_keys_of, levels_of, leaf_start, leaf_from, leaf_len, first_piece, second_piece, piece_count, node_of}
use Rattle.range_log.specs.Visits.{backs_of, visits, pages_met}
use Rattle.range_log.specs.Depths.{fold_number, depth_of}

-- ---- logs
-- the log of some updates has what each of them touches
abbrev pub TouchesAre : Type 0
TouchesAre = (p : ℕ) (us : List Extent) → length (touches p us) ≡ length us

abbrev pub EachTouchIs : Type 0
EachTouchIs = (p : ℕ) (us : List Extent) (k : ℕ) → k < length us → touch_at (touches p us) (suc k) ≡ touch_of p us (suc k)

abbrev pub SizesAre : Type 0
SizesAre = (p : ℕ) (us : List Extent) (k : ℕ) → k ≤ length us → size_at (touches p us) k ≡ size_after us k

-- What a log says of a blob that grows from its end: each update begins at or before the size, touches pages in order that
-- end below the size after it, and leaves the size or more; one that makes the blob larger ends in the blob's last page.
pub record Grown (p : ℕ) (log : List Touch) : Type 0 where
  pub begins : (k : ℕ) → k < length log → (touch_at log (suc k)).first * p ≤ size_at log k
  pub ordered : (k : ℕ) → k < length log → (touch_at log (suc k)).first ≤ (touch_at log (suc k)).last
  pub ends : (k : ℕ) → k < length log → (touch_at log (suc k)).last * p < size_at log (suc k)
  pub rises : (k : ℕ) → k < length log → size_at log k ≤ size_at log (suc k)
  pub reaches : (k : ℕ) → k < length log → size_at log k < size_at log (suc k) → size_at log (suc k) ≤ ((touch_at log (suc k)).last + 1) * p

abbrev pub LogsAreGrown : Type 0
LogsAreGrown = (p : ℕ) (us : List Extent) → 1 ≤ p → InBounds us → Grown p (touches p us)

-- ---- links name nodes
-- j is 0, or names a version whose row has a node for the range
abbrev pub Leads : ℕ → List Touch → ℕ → Range → Type 0
Leads p log j r = 1 ≤ j → HasNode p log j r

-- each link and back of each node of a row leads to a node for its range
abbrev pub LinksNameNodes : Type 0
LinksNameNodes = (p k : ℕ) (us : List Update) (r : Range) → 1 ≤ p → Replayable us → HasNode p (touches p (extents us)) k r
    → Leads p (touches p (extents us)) (left_link (node_of p (extents us) k r)) (left_half r)
    × Leads p (touches p (extents us)) (right_link (node_of p (extents us) k r)) (right_half r)
    × Leads p (touches p (extents us)) (back_link (node_of p (extents us) k r)) r

-- the same of the links of an inner node, by where the updates fall
abbrev pub LinksLead : Type 0
LinksLead = (p k : ℕ) (us : List Extent) (r : Range) → 1 ≤ p → InBounds us → HasNode p (touches p us) k r → p < r.size
    → Leads p (touches p us) (newest_of p (touches p us) k (left_half r)) (left_half r) × Leads p (touches p us) (newest_of p (touches p us) k (right_half r)) (right_half r)

-- the same of the back of a leaf
abbrev pub BacksLead : Type 0
BacksLead = (p k i : ℕ) (us : List Extent) → 1 ≤ p → InBounds us → HasNode p (touches p us) k (page_range p i)
    → Leads p (touches p us) (back_of p us k i) (page_range p i)

-- ---- no holes
-- Of the halves of an inner node, those that begin below the size have a link to a version and the others have 0. From a leaf
-- whose update doesn't cover its page a back leads to an older version, but none where the update stores the page anew.
abbrev pub NoHoles : Type 0
NoHoles = (p k : ℕ) (us : List Update) (r : Range) → 1 ≤ p → Replayable us → HasNode p (touches p (extents us)) k r
    → (p < r.size
    → ((left_link (node_of p (extents us) k r) ≡ 0) ↔ (size_of us k ≤ (left_half r).offset))
    × ((right_link (node_of p (extents us) k r) ≡ 0) ↔ (size_of us k ≤ (right_half r).offset)))
    × ((i : ℕ) → r ≡ page_range p i → covered p (extents us) k i ≡ false
    → (folded_of p (extents us) k i ≡ true → back_link (node_of p (extents us) k r) ≡ 0)
    × (folded_of p (extents us) k i ≡ false
    → (1 ≤ back_link (node_of p (extents us) k r)) × (back_link (node_of p (extents us) k r) < k)))

-- the same of the links, by where the updates fall
abbrev pub LinksHaveNoHoles : Type 0
LinksHaveNoHoles = (p k : ℕ) (us : List Extent) (r : Range) → 1 ≤ p → InBounds us → HasNode p (touches p us) k r → p < r.size
    → ((newest_of p (touches p us) k (left_half r) ≡ 0) ↔ (size_after us k ≤ (left_half r).offset))
    × ((newest_of p (touches p us) k (right_half r) ≡ 0) ↔ (size_after us k ≤ (right_half r).offset))

-- the same of the backs
abbrev pub BacksHaveNoHoles : Type 0
BacksHaveNoHoles = (p k i : ℕ) (us : List Extent) → 1 ≤ p → InBounds us → HasNode p (touches p us) k (page_range p i) → covered p us k i ≡ false
    → (folded_of p us k i ≡ true → back_of p us k i ≡ 0)
    × (folded_of p us k i ≡ false → (1 ≤ back_of p us k i) × (back_of p us k i < k))

-- ---- page bytes
-- a page has the same valid bytes at a version and at the newest one up to it that touches the page
abbrev pub PageBytesStay : Type 0
PageBytesStay = (p v i : ℕ) (us : List Update) → 1 ≤ p → Replayable us → v ≤ length us
    → page_bytes p us v i ≡ page_bytes p us (newest_of p (touches p (extents us)) v (page_range p i)) i

-- each update falls at its place, and leaves the bytes before with its own put there
abbrev pub ExtentsAre : Type 0
ExtentsAre = (us : List Update) → length (extents us) ≡ length us

abbrev pub EachExtentIs : Type 0
EachExtentIs = (us : List Update) (k : ℕ) → k < length us → extent_at (extents us) (suc k) ≡ extent_of us (suc k)

abbrev pub ContentsGrow : Type 0
ContentsGrow = (us : List Update) (v : ℕ) → v < length us → content us (suc v) ≡ put (content us v) (extent_of us (suc v)).at (update_at us (suc v)).bytes

-- where updates fall keeps the bounds, and gives each version's size
abbrev pub ExtentsStand : Type 0
ExtentsStand = (us : List Update) → Replayable us
    → InBounds (extents us) × (length (extents us) ≡ length us) × ((v : ℕ) → v ≤ length us → size_after (extents us) v ≡ size_of us v)

-- A leaf's page: its own bytes where they cover it, else its own bytes over those of the page at its back. Where the update
-- stores the page anew, they are its own bytes over those of the version before.
abbrev pub LeavesFill : Type 0
LeavesFill = (p k i : ℕ) (us : List Update) → 1 ≤ p → Replayable us → HasNode p (touches p (extents us)) k (page_range p i)
    → (covered p (extents us) k i ≡ true → page_bytes p us k i ≡ own_bytes p us k i)
    × (covered p (extents us) k i ≡ false → folded_of p (extents us) k i ≡ false
    → page_bytes p us k i ≡ put (page_bytes p us (back_of p (extents us) k i) i) (leaf_start p (extent_of us k) i) (own_bytes p us k i))
    × (page_bytes p us k i ≡ put (page_bytes p us (k - 1) i) (leaf_start p (extent_of us k) i) (own_bytes p us k i))

-- a leaf has one to p own bytes; they lie within its page and within the update's buffer
abbrev pub LeavesFit : Type 0
LeavesFit = (p k i : ℕ) (us : List Extent) → 1 ≤ p → InBounds us → HasNode p (touches p us) k (page_range p i)
    → (1 ≤ leaf_len p (extent_at us k) i) × (leaf_start p (extent_at us k) i + leaf_len p (extent_at us k) i ≤ p) × (leaf_from p (extent_at us k) i + leaf_len p (extent_at us k) i ≤ (extent_at us k).len)

-- the one or two pieces of n bytes from b on are those bytes
abbrev pub PiecesJoin : Type 0
PiecesJoin = (p b n : ℕ) (bytes : List ℕ) → 1 ≤ p → n ≤ p → b + n ≤ length bytes
    → piece_bytes p bytes (first_piece p b n) ++ piece_bytes p bytes (second_piece p b n) ≡ take n (drop b bytes)

-- a piece lies in one stored page, and within the buffer of m bytes
pub record PieceFits (p m page from len : ℕ) : Type 0 where
  pub some : 1 ≤ len
  pub in_page : from + len ≤ p
  pub in_buffer : page * p + from + len ≤ m

-- Each piece that counts has a byte, and lies in one stored page and in the buffer. They have n bytes between them.
abbrev pub PiecesFit : Type 0
PiecesFit = (p b n m : ℕ) → 1 ≤ p → 1 ≤ n → n ≤ p → b + n ≤ m
    → PieceFits p m (first_piece p b n).page (first_piece p b n).from (first_piece p b n).len
    × ((first_piece p b n).len + (second_piece p b n).len ≡ n)
    × (((piece_count p b n ≡ 1) × (second_piece p b n ≡ no_piece))
    ⊎ ((piece_count p b n ≡ 2) × PieceFits p m (second_piece p b n).page (second_piece p b n).from (second_piece p b n).len))

-- ---- newest
-- newest_of is the greatest version up to k that touches the range, and no other number is
abbrev pub NewestIsGreatest : Type 0
NewestIsGreatest = (p k : ℕ) (log : List Touch) (r : Range)
    → IsNewest p log k r (newest_of p log k r) × ((j : ℕ) → IsNewest p log k r j → j ≡ newest_of p log k r)

-- the newest version of a part of a range is the same from the newest version of the range
abbrev pub LinksAgree : Type 0
LinksAgree = (p k : ℕ) (log : List Touch) (s r : Range) → r.offset ≤ s.offset → s.offset + s.size ≤ r.offset + r.size
    → newest_of p log (newest_of p log k r) s ≡ newest_of p log k s

-- version 0 touches nothing
abbrev pub NewestOfNone : Type 0
NewestOfNone = (p : ℕ) (log : List Touch) (r : Range) → newest_of p log 0 r ≡ 0

-- a version that touches the range is the newest up to itself
abbrev pub NewestHits : Type 0
NewestHits = (p : ℕ) (log : List Touch) (k : ℕ) (r : Range) → Meets p (touch_at log (suc k)) r → newest_of p log (suc k) r ≡ suc k

-- one that doesn't leaves the newest
abbrev pub NewestMisses : Type 0
NewestMisses = (p : ℕ) (log : List Touch) (k : ℕ) (r : Range) → ¬ Meets p (touch_at log (suc k)) r → newest_of p log (suc k) r ≡ newest_of p log k r

-- the newest version for a range within the span, or for a page, has a node for it
abbrev pub NewestHasNode : Type 0
NewestHasNode = (p : ℕ) (log : List Touch) (k h q : ℕ) → 1 ≤ p → Grown p log → k ≤ length log
    → (h ≡ 0) ⊎ (q * (p * 2 ^ h) + p * 2 ^ h ≤ span_of p (size_at log k))
    → 1 ≤ newest_of p log k (tree_range p h q) → HasNode p log (newest_of p log k (tree_range p h q)) (tree_range p h q)

-- a range that begins before the size was touched
abbrev pub NewestIsSome : Type 0
NewestIsSome = (p : ℕ) (log : List Touch) (k : ℕ) (r : Range) → Grown p log → k ≤ length log → 1 ≤ r.size → r.offset < size_at log k → 1 ≤ newest_of p log k r

-- one that begins at or past the size wasn't
abbrev pub NewestIsNone : Type 0
NewestIsNone = (p : ℕ) (log : List Touch) (k h q : ℕ) → Grown p log → k ≤ length log → size_at log k ≤ q * (p * 2 ^ h) → newest_of p log k (tree_range p h q) ≡ 0

-- where nothing after version v touches the range, its newest version is that at v
abbrev pub NewestAbove : Type 0
NewestAbove = (p v k : ℕ) (log : List Touch) (r : Range) → v ≤ k → ((i : ℕ) → v < i → i ≤ k → ¬ Meets p (touch_at log i) r)
    → newest_of p log k r ≡ newest_of p log v r

-- ---- the ranges of a row
-- they are those that have a node in it
abbrev pub RowKeysExact : Type 0
RowKeysExact = (p k : ℕ) (us : List Extent) (r : Range) → 1 ≤ p → InBounds us → 1 ≤ k → k ≤ length us
    → Contains (row_keys_of p (touches p us) k) r ↔ HasNode p (touches p us) k r

-- a stands before b: larger, or as large and with the lower offset
abbrev pub Before : Range → Range → Type 0
Before a b = (b.size < a.size) ⊎ ((a.size ≡ b.size) × (a.offset < b.offset))

-- each stands before all that follow
abbrev pub RowKeysInOrder : Type 0
RowKeysInOrder = (p k : ℕ) (log : List Touch) → 1 ≤ p → AllPairs Before (row_keys_of p log k)

-- the ranges that m pages one after another meet, in a tree of that height, are at most 2 m and 2 for each level
abbrev pub LevelsAreFew : Type 0
LevelsAreFew = (p height : ℕ) (t : Touch) → t.first ≤ t.last → length (levels_of p t (suc height)) ≤ 2 * (t.last + 1 - t.first) + 2 * height

-- ---- backs
-- the backs of a page: none from a leaf without a back, else one more than from the leaf that its back names
abbrev pub BacksStep : Type 0
BacksStep = (p v i : ℕ) (us : List Extent)
    → (back_of p us (newest_of p (touches p us) v (page_range p i)) i ≡ 0 → backs_of p us v i ≡ 0)
    × (1 ≤ back_of p us (newest_of p (touches p us) v (page_range p i)) i
    → backs_of p us v i ≡ 1 + backs_of p us (back_of p us (newest_of p (touches p us) v (page_range p i)) i) i)

-- ---- depths
-- The depth of the leaf of page i in the row of version k, which touches the page: 0 where the update covers all valid bytes
-- of the page, else one more than that of the newest older leaf of the page, and 0 again at each fold-th such leaf in a row.
abbrev pub DepthsStep : Type 0
DepthsStep = (p k i : ℕ) (us : List Extent) → 1 ≤ p → InBounds us → 1 ≤ k → k ≤ length us → Meets p (touch_at (touches p us) k) (page_range p i)
    → (covered p us k i ≡ true → depth_of p (touches p us) k i ≡ 0)
    × (covered p us k i ≡ false
    → depth_of p (touches p us) k i ≡ (depth_of p (touches p us) (newest_of p (touches p us) (k - 1) (page_range p i)) i + 1) % fold_number)

-- at every version the depth is that of the newest leaf of the page
abbrev pub DepthOfNewest : Type 0
DepthOfNewest = (p k i : ℕ) (log : List Touch) → depth_of p log (newest_of p log k (page_range p i)) i ≡ depth_of p log k i

-- a page has as many backs at a version as the depth of its newest leaf says
abbrev pub DepthCountsBacks : Type 0
DepthCountsBacks = (p v i : ℕ) (us : List Extent) → 1 ≤ p → InBounds us → v ≤ length us
    → backs_of p us v i ≡ depth_of p (touches p us) (newest_of p (touches p us) v (page_range p i)) i

-- No leaf is deeper than there are versions up to its own; and where pages are stored anew, none is as deep as the fold number.
abbrev pub DepthsAreFew : Type 0
DepthsAreFew = (p k i : ℕ) (log : List Touch) → (depth_of p log k i ≤ k) × (1 ≤ fold_number → depth_of p log k i < fold_number)

-- a longer log says the same of the versions of the shorter one
abbrev pub DepthsStay : Type 0
DepthsStay = (p k i : ℕ) (log more : List Touch) → k ≤ length log → depth_of p (log ++ more) k i ≡ depth_of p log k i

-- ---- pages that are stored anew
-- the pages that an update stores anew are those that it touches and doesn't cover and on which its depth is 0; they rise, and
-- are two at most
abbrev pub FoldsAre : Type 0
FoldsAre = (p k : ℕ) (us : List Extent) → 1 ≤ p → InBounds us → 1 ≤ k → k ≤ length us
    → ((i : ℕ) → Contains (folds_of p us k) i ↔ (Meets p (touch_at (touches p us) k) (page_range p i) × (folded_of p us k i ≡ true)))
    × AllPairs ◌<◌ (folds_of p us k)
    × (length (folds_of p us k) ≤ 2)

-- without a fold number no page is stored anew
abbrev pub NoneFolds : Type 0
NoneFolds = (p k i : ℕ) (us : List Extent) → fold_number ≡ 0 → 1 ≤ p → InBounds us → 1 ≤ k → k ≤ length us → Meets p (touch_at (touches p us) k) (page_range p i)
    → folded_of p us k i ≡ false

-- with one, a page has fewer backs than it says, so that the visit bound is known before the past of any page is
abbrev pub VisitsAreFew : Type 0
VisitsAreFew = (p v o n : ℕ) (us : List Extent) → 1 ≤ fold_number → 1 ≤ p → InBounds us → v ≤ length us
    → ((i : ℕ) → backs_of p us v i < fold_number)
    × (visits p us v o n ≤ (fold_number + 1) * length (pages_met p o n) + 2 * height_of p (size_after us v))

-- the store's fold number is one of these two
abbrev pub FoldNumberIs : Type 0
FoldNumberIs = (fold_number ≡ 0) ⊎ (fold_number ≡ 16)

-- ---- later updates
-- a longer log says the same of the versions of the shorter one
abbrev pub LogsGrow : Type 0
LogsGrow = (p k : ℕ) (log more : List Touch) (r : Range) → k ≤ length log → newest_of p (log ++ more) k r ≡ newest_of p log k r

-- later updates leave an older version's touch, ranges, nodes and visit bounds, and the pages that it stores anew
abbrev pub RowsStay : Type 0
RowsStay = (p k : ℕ) (us more : List Extent) → k ≤ length us
    → (touch_at (touches p (us ++ more)) k ≡ touch_at (touches p us) k)
    × (row_keys_of p (touches p (us ++ more)) k ≡ row_keys_of p (touches p us) k)
    × ((r : Range) → HasNode p (touches p us) k r ↔ HasNode p (touches p (us ++ more)) k r)
    × ((r : Range) → node_of p (us ++ more) k r ≡ node_of p us k r)
    × ((o n : ℕ) → visits p (us ++ more) k o n ≡ visits p us k o n)
    × (folds_of p (us ++ more) k ≡ folds_of p us k)

-- where the updates of a longer list fall begins with where those of the shorter one do
abbrev pub ExtentsGrow : Type 0
ExtentsGrow = (us more : List Update) → (rest : List Extent) × (extents (us ++ more) ≡ extents us ++ rest)

-- later updates leave the sizes of the older versions, and where older updates fall
abbrev pub SizesStay : Type 0
SizesStay = (us more : List Update) (v : ℕ) → v ≤ length us → size_of (us ++ more) v ≡ size_of us v

abbrev pub PlacesStay : Type 0
PlacesStay = (us more : List Update) (k : ℕ) → k < length us → extent_of (us ++ more) (suc k) ≡ extent_of us (suc k)
