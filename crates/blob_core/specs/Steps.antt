use Rattle.std.specs.Prelude.{◌≡◌, ℕ, ◌+◌, ◌-◌, ◌≤◌, true, false, List, [], ◌∷◌, ◌++◌, length, take, drop, Some, None}
use Rattle.std.specs.List.{Contains}
use Rattle.blob_model.specs.Store.{Store, Blob, blob_at, assigned, published}
use Rattle.blob_model.specs.Answer.{answer}
use Rattle.blob_model.specs.History.{store_from, caller_of, call_of, is_refused}
use Rattle.blob_model.specs.declared.call.Event.{Event}
use Rattle.blob_model.specs.declared.call.Event.TheVariants as Events
use Rattle.blob_model.specs.declared.call.Call.TheVariants as Calls
use Rattle.tree_geom.specs.declared.range.Range.{Range}
use Rattle.tree_geom.specs.declared.node.Node.{Node}
use Rattle.tree_geom.specs.declared.node.NodeKey.{NodeKey}
use Rattle.blob_model.specs.Content.{put}
use Rattle.tree_geom.specs.Geometry.{Meets, page_range}
use Rattle.range_log.specs.Depths.{fold_number}
use Rattle.range_log.specs.Extents.{Extent, extent_at}
use Rattle.range_log.specs.Log.{HasNode, touch_at}
use Rattle.range_log.specs.Rows.{leaf_from, leaf_len, leaf_start, row_keys_of}
use Rattle.range_log.specs.Updates.{extents}
use Rattle.blob_core.specs.World.{World, UpdateEntry, IsKnown, page_at, fold_at, node_at, kept_at, origin, bytes_of_pages, AreCut, log_of, waiting_after}
use Rattle.blob_core.specs.declared.world.FoldKey.{FoldKey}
use Rattle.blob_core.specs.declared.world.UpdateKey.{UpdateKey}
use Rattle.blob_core.specs.Walk.{page_walk}
use Rattle.blob_core.specs.Woven.{woven_by, woven_folded}
use Rattle.blob_core.specs.declared.step.Step.{Step}
use Rattle.blob_core.specs.declared.step.Step.TheVariants as Moves

-- the event that a step is: that of a change, none of a page, a node or a read
abbrev pub events_of : World → Step → List Event
events_of w (Moves.PagePut page bytes) = []
events_of w (Moves.Create caller) = Events.Create caller ∷ []
events_of w (Moves.Assign caller blob place pages) = Events.Assign caller blob place (bytes_of_pages w.pages pages) ∷ []
events_of w (Moves.FoldPut blob version page) = []
events_of w (Moves.NodePut key) = []
events_of w (Moves.Finish caller blob version) = Events.Finish caller blob version ∷ []
events_of w (Moves.Branch caller blob version) = Events.Branch caller blob version ∷ []
events_of w (Moves.Read blob version offset count) = []

-- ---- when a step is allowed
-- the store doesn't refuse the event
abbrev pub IsTaken : Store → Event → Type 0
IsTaken s e = is_refused (answer s (caller_of e) (call_of e)).1 ≡ false

-- the version was numbered in that blob, and b is the blob
pub record IsNumberedIn (w : World) (blob version : ℕ) (b : Blob) : Type 0 where
  pub there : blob_at w.store blob ≡ Some b
  pub some : 1 ≤ version
  pub upto : version ≤ assigned b
  pub own : origin w blob version ≡ blob

-- each key of the row of an update is there
abbrev pub RowIsThere : ℕ → World → ℕ → ℕ → Blob → Type 0
RowIsThere p w blob version b =
    (r : Range) → Contains (row_keys_of p (log_of p b.updates) version) r → IsKnown (node_at w.nodes (record { blob = blob; version = version; range = r }))

-- the update of that version, numbered in that blob, stores the page anew, as its writer weaves it
pub record IsFolded (p : ℕ) (w : World) (blob version : ℕ) (b : Blob) (page : ℕ) : Type 0 where
  pub kept : UpdateEntry
  pub there : kept_at w.updates blob version ≡ Some kept
  pub met : Meets p (touch_at (log_of p b.updates) version) (page_range p page)
  pub anew : woven_folded fold_number p w blob b kept version page ≡ true

abbrev pub IsAllowed : ℕ → World → Step → Type 0
IsAllowed p w (Moves.PagePut page bytes) = (page_at w.pages page ≡ None) × (1 ≤ length bytes) × (length bytes ≤ p)
IsAllowed p w (Moves.Create caller) = IsTaken w.store (Events.Create caller)
IsAllowed p w (Moves.Assign caller blob place pages) = AreCut p w.pages pages × IsTaken w.store (Events.Assign caller blob place (bytes_of_pages w.pages pages))
IsAllowed p w (Moves.FoldPut blob version page) =
    (b : Blob) × IsNumberedIn w blob version b × IsFolded p w blob version b page × (version - 1 ≤ published b)
IsAllowed p w (Moves.NodePut key) =
    (b : Blob) × IsNumberedIn w key.blob key.version b × HasNode p (log_of p b.updates) key.version key.range
    × ((page : ℕ) → key.range ≡ page_range p page → IsFolded p w key.blob key.version b page → IsKnown (fold_at w.folded key.blob key.version page))
IsAllowed p w (Moves.Finish caller blob version) =
    IsTaken w.store (Events.Finish caller blob version) × ((b : Blob) × IsNumberedIn w blob version b × RowIsThere p w blob version b)
IsAllowed p w (Moves.Branch caller blob version) = IsTaken w.store (Events.Branch caller blob version)
IsAllowed p w (Moves.Read blob version offset count) = is_refused (answer w.store 0 (Calls.Read blob version offset count)).1 ≡ false

-- ---- what a step leaves
-- what is kept beside the next update of a blob
abbrev pub next_kept : ℕ → Blob → List ℕ → UpdateEntry
next_kept p b pages = record { pages = pages; published = published b; waiting = waiting_after (log_of p b.updates) (published b) (assigned b - published b) }

abbrev pub with_update : ℕ → World → ℕ → List ℕ → List (UpdateKey × UpdateEntry)
with_update p w blob pages =
    elim (blob_at w.store blob) [ None ↦ w.updates | Some b ↦ (record { blob = blob; version = assigned b + 1 }, next_kept p b pages) ∷ w.updates ]

-- the bytes of page i after an update at x whose buffer this is, over older bytes of the page
abbrev pub over_page : ℕ → Extent → ℕ → List ℕ → List ℕ → List ℕ
over_page p x i buffer older = put older (leaf_start p x i) (take (leaf_len p x i) (drop (leaf_from p x i) buffer))

-- the page that update k stores anew: its own bytes over those that a walk brings of the version before
abbrev pub folded_page : ℕ → World → ℕ → Blob → UpdateEntry → ℕ → ℕ → List ℕ
folded_page p w blob b kept k i = over_page p (extent_at (extents b.updates) k) i (bytes_of_pages w.pages kept.pages) (page_walk p w blob b (k - 1) i)

-- that page under its key; a key that is there keeps its bytes
abbrev pub with_fold : ℕ → World → ℕ → ℕ → ℕ → List (FoldKey × List ℕ)
with_fold p w blob version page =
    elim (fold_at w.folded blob version page) [
      | Some bytes ↦ w.folded
      | None ↦
          elim (blob_at w.store blob) [
            | None ↦ w.folded
            | Some b ↦
                elim (kept_at w.updates blob version) [
                  | None ↦ w.folded
                  | Some kept ↦ (record { blob = blob; version = version; page = page }, folded_page p w blob b kept version page) ∷ w.folded
                ]
          ]
    ]

-- the woven node under its key; a key that is there keeps its node
abbrev pub with_node_by : ℕ → ℕ → World → NodeKey → List (NodeKey × Node)
with_node_by fold p w key =
    elim (node_at w.nodes key) [
      | Some n ↦ w.nodes
      | None ↦
          elim (blob_at w.store key.blob) [
            | None ↦ w.nodes
            | Some b ↦
                elim (kept_at w.updates key.blob key.version) [
                  | None ↦ w.nodes
                  | Some kept ↦ (key, woven_by fold p w key.blob b kept key.version key.range) ∷ w.nodes
                ]
          ]
    ]

-- the world after a step, over a fold number
abbrev pub after_by : ℕ → ℕ → World → Step → World
after_by fold p w (Moves.PagePut page bytes) = record w { pages = (page, bytes) ∷ w.pages }
after_by fold p w (Moves.Create caller) =
    record w { store = store_from w.store (Events.Create caller ∷ []); lineage = None ∷ w.lineage }
after_by fold p w (Moves.Assign caller blob place pages) =
    record w { store = store_from w.store (Events.Assign caller blob place (bytes_of_pages w.pages pages) ∷ []); updates = with_update p w blob pages }
after_by fold p w (Moves.FoldPut blob version page) = record w { folded = with_fold p w blob version page }
after_by fold p w (Moves.NodePut key) = record w { nodes = with_node_by fold p w key }
after_by fold p w (Moves.Finish caller blob version) =
    record w { store = store_from w.store (Events.Finish caller blob version ∷ []) }
after_by fold p w (Moves.Branch caller blob version) =
    record w { store = store_from w.store (Events.Branch caller blob version ∷ []); lineage = Some (record { blob = blob; version = version }) ∷ w.lineage }
after_by fold p w (Moves.Read blob version offset count) = w

-- ---- lists of steps
-- the world after all of the steps
abbrev pub world_after_by : ℕ → ℕ → World → List Step → World
world_after_by fold p w [] = w
world_after_by fold p w (step ∷ steps) = world_after_by fold p (after_by fold p w step) steps

-- ---- the same at the store's fold number
abbrev pub with_node : ℕ → World → NodeKey → List (NodeKey × Node)
with_node p w key = with_node_by fold_number p w key

abbrev pub after : ℕ → World → Step → World
after p w step = after_by fold_number p w step

abbrev pub world_after : ℕ → World → List Step → World
world_after p w steps = world_after_by fold_number p w steps

-- each step is allowed in the world of the steps before it
abbrev pub AllAllowed : ℕ → World → List Step → Type 0
AllAllowed p w [] = Unit {0}
AllAllowed p w (step ∷ steps) = IsAllowed p w step × AllAllowed p (after p w step) steps

-- the events of the steps that change the store
abbrev pub events_from : ℕ → World → List Step → List Event
events_from p w [] = []
events_from p w (step ∷ steps) = events_of w step ++ events_from p (after p w step) steps
