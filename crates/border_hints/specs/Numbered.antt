-- What a clause sees of a ticket, and the updates that it stands for.
use Rattle.std.specs.Prelude.{◌≡◌, ℕ, ◌+◌, ◌-◌, ◌^◌, ◌<◌, ◌≤◌, List, [], ◌∷◌, ◌++◌, length, map, max}
use Rattle.tree_geom.specs.declared.touch.Touch.{Touch}
use Rattle.tree_geom.specs.Geometry.{touched_by}
use Rattle.range_log.specs.declared.open.OpenTouch.{OpenTouch}
use Rattle.range_log.specs.Log.{size_at}
use Rattle.range_log.specs.Extents.{Extent, InBounds, extent_at, touches}
use Rattle.range_log.specs.Open.{open_at}
use Rattle.page_store.specs.Stored.{Cut, bytes_of_pages}
use Rattle.snapshot.specs.Versions.{Version, IsVersion}
pub use Rattle.snapshot.specs.Versions.{log_of}

-- a numbered update: who made it, its blob, its version, where it falls, its bytes and the size after it in bytes, the
-- published version and the waiting updates at its numbering, and its stored pages
pub record NumberedUpdate : Type 0 where
  pub caller : ℕ
  pub blob : ℕ
  pub version : ℕ
  pub at : ℕ
  pub len : ℕ
  pub size : ℕ
  pub snapshot : Version
  pub waiting : List OpenTouch
  pub pages : Cut

abbrev pub numbered_update : ℕ → ℕ → ℕ → ℕ → ℕ → ℕ → Version → List OpenTouch → Cut → NumberedUpdate
numbered_update caller blob version at len size snapshot waiting pages = record {
  caller = caller;
  blob = blob;
  version = version;
  at = at;
  len = len;
  size = size;
  snapshot = snapshot;
  waiting = waiting;
  pages = pages;
}

-- what the updates of a version touch, and then what the waiting updates touch
abbrev pub log_with : Version → List OpenTouch → List Touch
log_with s waiting = log_of s ++ map (λ (o : OpenTouch). o.touch) waiting

-- what the update touches
abbrev pub own_touch : NumberedUpdate → Touch
own_touch t = touched_by t.snapshot.page_size t.at t.len t.size

-- what all updates up to the update's version touch
abbrev pub log_upto : NumberedUpdate → List Touch
log_upto t = log_with t.snapshot t.waiting ++ own_touch t ∷ []

-- the numbered update stands for updates that fall so: each begins at the size before it at the latest, they touch what the
-- ticket tells, and the last is its own
pub record IsTicketAmong (t : NumberedUpdate) (us : List Extent) : Type 0 where
  pub in_bounds : InBounds us
  pub touches : touches t.snapshot.page_size us ≡ log_upto t
  pub own : extent_at us t.version ≡ record { at = t.at; len = t.len }

-- what holds of each ticket: the waiting versions follow the snapshot's and its own follows them, it stands for some
-- updates, its pages are those of its bytes, and the blob has at most 2^40 bytes after it
pub record IsValidTicket (t : NumberedUpdate) : Type 0 where
  pub published : IsVersion t.snapshot
  pub waiting : (i : ℕ) → i < length t.waiting → (open_at t.waiting i).version ≡ length t.snapshot.rows + i + 1
  pub version : t.version ≡ length t.snapshot.rows + length t.waiting + 1
  pub stands : (us : List Extent) × IsTicketAmong t us
  pub len : t.len ≡ length (bytes_of_pages t.pages.pages)
  pub some : 1 ≤ t.len
  pub page_size : t.pages.page_size ≡ t.snapshot.page_size
  pub size : t.size ≡ max (size_at (log_upto t) (t.version - 1)) (t.at + t.len)
  pub at : t.at ≤ size_at (log_upto t) (t.version - 1)
  pub fits : t.size ≤ 2 ^ 40
