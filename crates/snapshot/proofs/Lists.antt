-- Lists of rows, of updates and of where these fall.
use Rattle.std.proofs.Common.{◌≡◌, ℕ, zero, suc, ◌<◌, ◌≤◌, List, [], ◌∷◌, ◌++◌, length, take, drop, map, refl, sym, ap, ◌∙◌}
use Rattle.std.proofs.lemmas.List.{length-map, get_or-map, get_or_append_left, take-append-drop}
use Rattle.std.proofs.Math.Seq.{get_or-append_seam}
use Rattle.blob_model.specs.Content.{Update}
use Rattle.range_log.specs.Updates.{update_at, no_update}
use Rattle.node_store.specs.UpdateRows.{UpdateRow}
use Rattle.snapshot.specs.Versions.{no_row, row_at, update_of_row, updates}

pub row_at_front : (rows more : List UpdateRow) (k : ℕ) → k ≤ length rows → row_at (rows ++ more) k ≡ row_at rows k
row_at_front rows more zero le = refl
row_at_front rows more (suc k) le = get_or_append_left rows more no_row k le

pub row_at_taken : (rows : List UpdateRow) (n k : ℕ) → k ≤ length (take n rows) → row_at (take n rows) k ≡ row_at rows k
row_at_taken rows n k le = sym (row_at_front (take n rows) (drop n rows) k le) ∙ ap (λ (all : List UpdateRow). row_at all k) (take-append-drop n rows)

pub row_at_new : (rows : List UpdateRow) (row : UpdateRow) → row_at (rows ++ row ∷ []) (suc (length rows)) ≡ row
row_at_new rows row = get_or-append_seam rows row [] no_row

-- ---- updates
pub length-updates : (rows : List UpdateRow) → length (updates rows) ≡ length rows
length-updates rows = length-map rows update_of_row

pub update_told : (rows : List UpdateRow) (k : ℕ) → k < length rows → update_at (updates rows) (suc k) ≡ update_of_row (row_at rows (suc k))
update_told rows k lt = get_or-map update_of_row rows k no_row no_update lt

pub update_at_front : (us more : List Update) (k : ℕ) → k ≤ length us → update_at (us ++ more) k ≡ update_at us k
update_at_front us more zero le = refl
update_at_front us more (suc k) le = get_or_append_left us more no_update k le

pub map_same : {X Y : Type 0} (f g : X → Y) (xs : List X) → ((x : X) → f x ≡ g x) → map f xs ≡ map g xs
map_same f g [] same = refl
map_same f g (x ∷ xs) same = ap (λ y. y ∷ map f xs) (same x) ∙ ap (λ l. g x ∷ l) (map_same f g xs same)
