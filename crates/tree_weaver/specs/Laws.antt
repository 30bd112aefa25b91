-- What ties a stored row to the blob's updates.
use Rattle.std.specs.Prelude.{◌≡◌, List, map}
use Rattle.blob_model.specs.Content.{Update}
use Rattle.range_log.specs.Rows.{row_of}
use Rattle.range_log.specs.Updates.{update_at, extents}
use Rattle.page_store.specs.Stored.{Stored, bytes_of_pages}
use Rattle.node_store.specs.UpdateRows.{UpdateRow}
use Rattle.snapshot.specs.Versions.{fold_bytes, IsRowOf}
use Rattle.border_hints.specs.Numbered.{NumberedUpdate, own_touch, IsTicketAmong, IsValidTicket}

-- a row that has the ticket's version, offset, touch and pages, the planned nodes, and the bytes of the pages that the update
-- stores anew, is that of the update
abbrev pub StoredRowsAreRows : Type 0
StoredRowsAreRows = (t : NumberedUpdate) (row : UpdateRow) (us : List Update) → IsValidTicket t
    → row.version ≡ t.version → row.offset ≡ t.at → row.touch ≡ own_touch t → row.pages ≡ t.pages
    → IsTicketAmong t (extents us) → row.nodes ≡ row_of t.snapshot.page_size (extents us) t.version → bytes_of_pages t.pages.pages ≡ (update_at us t.version).bytes
    → map (λ (s : Stored). s.bytes) row.folds ≡ fold_bytes t.snapshot.page_size us t.version
    → IsRowOf t.snapshot.page_size us t.version row
