-- What lies in the houses, and which rows have nodes.
use Rattle.std.proofs.Common.{◌≡◌, ℕ, zero, suc, ◌≤◌, List, length, arith, ap, sym, subst}
use Rattle.std.specs.Prelude.{Some, All, slice_get}
use Rattle.std.proofs.lemmas.List.{length-map}
use Rattle.std.proofs.lemmas.Option.{slice_get_within, get_or_from_slice_get}
use Rattle.page_store.specs.House.{House}
use Rattle.page_store.specs.Page.{IsAmong}
use Rattle.page_store.specs.Stored.{Stored, LieAmong}
use Rattle.node_store.specs.UpdateRows.{stored_of}
use Rattle.snapshot.specs.Versions.{Version, no_row, row_at, update_of_row, updates_of, PagesLieIn}
use Rattle.range_reader.specs.Reading.{no_stored, stored_bytes}

pub length-updates : (s : Version) → length (updates_of s) ≡ length s.rows
length-updates s = length-map s.rows update_of_row

rows_pages : (houses : List House) (s : Version) (j : ℕ) → PagesLieIn houses s → 1 ≤ j → j ≤ length s.rows → LieAmong houses (stored_of (row_at s.rows j))
rows_pages houses s zero here some le = absurd (omega arith)
rows_pages houses s (suc i) here some le = here i no_row le

pub page_in : (houses : List House) (s : Version) (j q : ℕ) (stored : Stored) → PagesLieIn houses s → 1 ≤ j → j ≤ length s.rows
    → slice_get (stored_of (row_at s.rows j)) q ≡ Some stored → All (IsAmong houses) stored.spots
page_in houses s j q stored here some le is =
    let pages : List Stored = stored_of (row_at s.rows j) in
    let P : Stored → Type 0 = λ t. All (IsAmong houses) t.spots in
    subst P (get_or_from_slice_get pages q stored stored is) (rows_pages houses s j here some le q stored (slice_get_within pages q stored is))

-- the bytes of the page of that number
pub bytes_in : (s : Version) (j q : ℕ) (stored : Stored) → slice_get (stored_of (row_at s.rows j)) q ≡ Some stored → stored.bytes ≡ stored_bytes s j q
bytes_in s j q stored is = ap (λ (t : Stored). t.bytes) (sym (get_or_from_slice_get (stored_of (row_at s.rows j)) q stored no_stored is))
