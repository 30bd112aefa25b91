-- What ties a row to the numbered update that it was woven for.
use Rattle.std.specs.Prelude.{◌≡◌, ℕ, ◌+◌, ◌≤◌, List, length, take}
use Rattle.std.specs.List.{Contains}
use Rattle.blob_model.specs.Content.{Update, content}
use Rattle.boxcar.specs.Table.{Shelves}
use Rattle.range_log.specs.Updates.{update_at, extents, page_bytes}
use Rattle.range_log.specs.Rows.{folds_of}
use Rattle.page_store.specs.House.{House}
use Rattle.page_store.specs.Stored.{bytes_of_pages}
use Rattle.node_store.specs.UpdateRows.{UpdateRow, IsRowIn}
use Rattle.snapshot.specs.Versions.{updates_of, IsRowOf}
use Rattle.border_hints.specs.Numbered.{NumberedUpdate, IsTicketAmong, IsValidTicket}
use Rattle.tree_weaver.specs.Anew.{bytes_anew}

-- The numbered update is one of these updates of a blob with that page size: it stands for those up to its own, its pages have the
-- bytes of its own, and its snapshot has the bytes that they leave at the snapshot's version.
pub record IsAmong (p : ℕ) (us : List Update) (t : NumberedUpdate) : Type 0 where
  pub page_size : t.snapshot.page_size ≡ p
  pub numbered : t.version ≤ length us
  pub stands : IsTicketAmong t (extents (take t.version us))
  pub bytes : bytes_of_pages t.pages.pages ≡ (update_at us t.version).bytes
  pub before : content (updates_of t.snapshot) (length t.snapshot.rows) ≡ content us (length t.snapshot.rows)

-- The row is that of the numbered update, among whichever updates it is one. It stands under the update's blob. Its nodes lie in
-- this house, and its pages in these.
pub record IsWoven (nodes : List Shelves) (houses : List House) (t : NumberedUpdate) (row : UpdateRow) : Type 0 where
  pub for : (p : ℕ) (us : List Update) → IsAmong p us t → IsRowOf p us t.version row
  pub under : row.blob ≡ t.blob
  pub here : IsRowIn nodes houses row

-- The bytes of a page that it stores anew are the page's at its version, among whichever updates it is one, where its snapshot is the
-- version before it.
abbrev pub BytesAnewStand : Type 0
BytesAnewStand = (t : NumberedUpdate) (p : ℕ) (us : List Update) (i : ℕ) → IsValidTicket t → IsAmong p us t → length t.snapshot.rows + 1 ≡ t.version
    → Contains (folds_of t.snapshot.page_size (extents (take t.version us)) t.version) i
    → bytes_anew t i ≡ page_bytes t.snapshot.page_size (take t.version us) t.version i
