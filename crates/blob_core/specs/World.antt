use Rattle.std.specs.Prelude.{◌≡◌, ℕ, ◌+◌, ◌==◌, ◌&&◌, zero, suc, Bool, if◌then◌else◌, List, [], ◌∷◌, ◌++◌, length, slice_get, Option, Some, None}
use Rattle.blob_model.specs.Limits.{Bounds}
use Rattle.blob_model.specs.Content.{Update}
use Rattle.blob_model.specs.Store.{Store, empty_store}
use Rattle.tree_geom.specs.declared.range.Range.{Range}
use Rattle.tree_geom.specs.declared.touch.Touch.{Touch}
use Rattle.tree_geom.specs.declared.node.Node.{Node}
use Rattle.tree_geom.specs.declared.node.NodeKey.{NodeKey}
use Rattle.range_log.specs.declared.«open».OpenTouch.{OpenTouch}
use Rattle.branching.specs.declared.Parent.{Parent}
use Rattle.branching.specs.Parents.{origin_of}
use Rattle.blob_core.specs.declared.world.FoldKey.{FoldKey}
use Rattle.blob_core.specs.declared.world.UpdateKey.{UpdateKey}
use Rattle.range_log.specs.Log.{touch_at}
use Rattle.range_log.specs.Extents.{touches}
use Rattle.range_log.specs.Updates.{extents}

-- ---- finite maps, as lists of keys with their values
-- the value of a key: that of the first entry whose key is the same
abbrev pub entry_at : {K V : Type 0} → (K → K → Bool) → List (K × V) → K → Option V
entry_at same [] key = None
entry_at same (e ∷ es) key = if same e.0 key then Some e.1 else entry_at same es key

-- there is a value
abbrev pub IsKnown : {V : Type 0} → Option V → Type 0
IsKnown {V} o = (v : V) × (o ≡ Some v)

-- ---- what a world is
-- what is kept beside an update: the numbers of its pages in order, and its hints, which are the version that was published
-- at its numbering and what the updates touch that waited below it
pub record UpdateEntry : Type 0 where
  pub pages : List ℕ
  pub published : ℕ
  pub waiting : List OpenTouch

-- A world: the store; for each blob, the newest first, its parent if it is a branch; the pages; what is kept beside each
-- update; the pages that updates store anew; the nodes.
pub record World : Type 0 where
  pub store : Store
  pub lineage : List (Option Parent)
  pub pages : List (ℕ × List ℕ)
  pub updates : List (UpdateKey × UpdateEntry)
  pub folded : List (FoldKey × List ℕ)
  pub nodes : List (NodeKey × Node)

-- limits, and nothing else
abbrev pub empty_world : Bounds → World
empty_world limits = record { store = empty_store limits; lineage = []; pages = []; updates = []; folded = []; nodes = [] }

-- ---- what is in it
abbrev pub same_number : ℕ → ℕ → Bool
same_number a b = a == b

abbrev pub same_update : UpdateKey → UpdateKey → Bool
same_update a b = a.blob == b.blob && a.version == b.version

abbrev pub same_fold : FoldKey → FoldKey → Bool
same_fold a b = a.blob == b.blob && a.version == b.version && a.page == b.page

abbrev pub same_key : NodeKey → NodeKey → Bool
same_key a b = a.blob == b.blob && a.version == b.version && a.range.offset == b.range.offset && a.range.size == b.range.size

-- the bytes of a page
abbrev pub page_at : List (ℕ × List ℕ) → ℕ → Option (List ℕ)
page_at pages page = entry_at same_number pages page

-- the node of a key
abbrev pub node_at : List (NodeKey × Node) → NodeKey → Option Node
node_at nodes key = entry_at same_key nodes key

-- what is kept beside the update of that version that was numbered in that blob
abbrev pub kept_at : List (UpdateKey × UpdateEntry) → ℕ → ℕ → Option UpdateEntry
kept_at updates blob version = entry_at same_update updates (record { blob = blob; version = version })

-- the bytes of a page that the update of that version, which was numbered in that blob, stored anew
abbrev pub fold_at : List (FoldKey × List ℕ) → ℕ → ℕ → ℕ → Option (List ℕ)
fold_at folded blob version page = entry_at same_fold folded (record { blob = blob; version = version; page = page })

-- the blob that a blob's version was numbered in
abbrev pub origin : World → ℕ → ℕ → ℕ
origin w blob version = origin_of w.lineage blob version

-- the key of the node of a blob's version for a range
abbrev pub key_in : World → ℕ → ℕ → Range → NodeKey
key_in w blob version r = record { blob = origin w blob version; version = version; range = r }

-- the node of a blob's version for a range
abbrev pub node_in : World → ℕ → ℕ → Range → Option Node
node_in w blob version r = node_at w.nodes (key_in w blob version r)

-- ---- pages
-- the bytes of a page, none where it isn't there
abbrev pub bytes_of_page : List (ℕ × List ℕ) → ℕ → List ℕ
bytes_of_page stored page = elim (page_at stored page) [ None ↦ [] | Some bytes ↦ bytes ]

-- the bytes of some pages, joined
abbrev pub bytes_of_pages : List (ℕ × List ℕ) → List ℕ → List ℕ
bytes_of_pages stored [] = []
bytes_of_pages stored (page ∷ pages) = bytes_of_page stored page ++ bytes_of_pages stored pages

-- the bytes of item i of a list of pages, from 0; none past its end
abbrev pub nth_page : List (ℕ × List ℕ) → List ℕ → ℕ → List ℕ
nth_page stored pages i = elim (slice_get pages i) [ None ↦ [] | Some page ↦ bytes_of_page stored page ]

-- there is at least one page, each is there, and all but the last have p bytes
abbrev pub AreCut : ℕ → List (ℕ × List ℕ) → List ℕ → Type 0
AreCut p stored [] = ⊥
AreCut p stored (page ∷ []) = IsKnown (page_at stored page)
AreCut p stored (page ∷ (next ∷ pages)) = IsKnown (page_at stored page) × (length (bytes_of_page stored page) ≡ p) × AreCut p stored (next ∷ pages)

-- ---- hints
-- what each update of a blob touches
abbrev pub log_of : ℕ → List Update → List Touch
log_of p updates = touches p (extents updates)

-- what the n updates after version v touch, each with its version
abbrev pub waiting_after : List Touch → ℕ → ℕ → List OpenTouch
waiting_after log v zero = []
waiting_after log v (suc n) = record { version = suc (v + n); touch = touch_at log (suc (v + n)) } ∷ waiting_after log v n
