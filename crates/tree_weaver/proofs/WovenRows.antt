-- The row that was woven by a ticket.
use Rattle.std.proofs.Common.{◌≡◌, ℕ, suc, ◌<◌, ◌≤◌, List, [], ◌∷◌, ◌++◌, length, map, take, drop, arith, refl, ap, sym, ◌∙◌, subst, Option, Some, None, false}
use Rattle.std.specs.Prelude.{All, slice_index_or}
use Rattle.std.specs.List.{Contains, cons_option, filter_map}
use Rattle.std.specs.Option.{is_some}
use Rattle.std.proofs.lemmas.List.{get_or_default, take-append-drop, length-take-le}
use Rattle.std.proofs.lemmas.List.Elements.{All-append}
use Rattle.boxcar.specs.Table.{Shelves}
use Rattle.tree_geom.specs.declared.range.Range.{Range}
use Rattle.tree_geom.specs.declared.node.Node.{Node}
use Rattle.blob_model.specs.Content.{Update}
use Rattle.range_log.specs.Extents.{Extent}
use Rattle.range_log.specs.Updates.{update_at, extents, page_bytes}
use Rattle.range_log.specs.Rows.{folds_of, row_of}
use Rattle.page_store.specs.House.{House}
use Rattle.page_store.specs.Page.{IsAmong as IsPageAmong}
use Rattle.page_store.specs.Stored.{Stored, Cut, LieAmong, bytes_of_pages}
use Rattle.node_store.specs.House.{IsIn}
use Rattle.node_store.specs.UpdateRows.{UpdateRow}
use Rattle.snapshot.specs.Versions.{fold_bytes, IsRowOf}
use Rattle.snapshot.specs.Laws.{OwnRowsStay}
use Rattle.border_hints.specs.Numbered.{NumberedUpdate, own_touch, IsTicketAmong, IsValidTicket}
use Rattle.tree_weaver.specs.Laws.{StoredRowsAreRows}
use Rattle.tree_weaver.specs.Anew.{KnowsBefore, IsStoredAnew, StoresNoneAnew, bytes_anew}
use Rattle.tree_weaver.specs.Woven.{IsAmong, IsWoven, BytesAnewStand}
use Rattle.tree_weaver.proofs.Anew.{none_in, update_among}

-- ---- lists
map_in : {X : Type 0} (f g : ℕ → X) (l : List ℕ) → ((i : ℕ) → Contains l i → f i ≡ g i) → map f l ≡ map g l
map_in f g [] same = refl
map_in f g (x ∷ l) same =
    ap (λ y. y ∷ map f l) (same x (0, omega arith, refl))
    ∙ ap (λ m. g x ∷ m) (map_in f g l (λ i c. same i (suc c.0, (let lt : c.0 < length l = c.1 in omega arith), c.2)))

-- the two pages, where there are so many
pub two_of : (l : List (Option ℕ)) → length l ≡ 2 → filter_map (λ o. o) l ≡ cons_option (slice_index_or l 0 None) (cons_option (slice_index_or l 1 None) [])
two_of [] e = absurd (omega arith)
two_of (a ∷ []) e = absurd (omega arith)
two_of (a ∷ b ∷ []) e = refl
two_of (a ∷ b ∷ c ∷ l) e = absurd (omega arith)

none_is : (o : Option ℕ) → is_some o ≡ false → o ≡ None
none_is (Some x) e = cc
none_is None e = refl

pub none_of : (l : List (Option ℕ)) → length l ≡ 2 → is_some (slice_index_or l 0 None) ≡ false → is_some (slice_index_or l 1 None) ≡ false → filter_map (λ o. o) l ≡ []
none_of l two a b =
    two_of l two
    ∙ ap (λ o. cons_option o (cons_option (slice_index_or l 1 None) [])) (none_is (slice_index_or l 0 None) a)
    ∙ ap (λ o. cons_option o []) (none_is (slice_index_or l 1 None) b)

nothing : (a b : Option ℕ) → cons_option a (cons_option b []) ≡ [] → (is_some a ≡ false) × (is_some b ≡ false)
nothing (Some x) b e = absurd (let z : length (x ∷ cons_option b []) ≡ 0 = ap length e in omega arith)
nothing None (Some y) e = absurd (let z : length (y ∷ []) ≡ 0 = ap length e in omega arith)
nothing None None e = (refl, refl)

pub nothing_of : (l : List (Option ℕ)) → length l ≡ 2 → filter_map (λ o. o) l ≡ [] → (is_some (slice_index_or l 0 None) ≡ false) × (is_some (slice_index_or l 1 None) ≡ false)
nothing_of l two none = nothing (slice_index_or l 0 None) (slice_index_or l 1 None) (sym (two_of l two) ∙ none)

pub none_lie : (houses : List House) (pages : List Stored) → pages ≡ [] → LieAmong houses pages
none_lie houses pages e = subst (λ (l : List Stored). LieAmong houses l) (sym e) (λ k d lt. absurd (omega (arith, lt)))

-- ---- the pages that are stored anew
-- a plan that names none
pub none_told : (t : NumberedUpdate) (row : UpdateRow) → StoresNoneAnew t → row.folds ≡ [] → (p : ℕ) (us : List Update) → IsAmong p us t
    → map (λ (s : Stored). s.bytes) row.folds ≡ fold_bytes t.snapshot.page_size (take t.version us) t.version
none_told t row none folds p us among =
    ap (map (λ (s : Stored). s.bytes)) folds
    ∙ sym (ap (map (λ i. page_bytes t.snapshot.page_size (take t.version us) t.version i)) (none (extents (take t.version us)) among.stands))

-- one that names some, which have the bytes that they have after the update
pub anew_told : BytesAnewStand → (t : NumberedUpdate) (row : UpdateRow) (pages : List ℕ) → IsValidTicket t → KnowsBefore t
    → ((us : List Extent) → IsTicketAmong t us → pages ≡ folds_of t.snapshot.page_size us t.version) → map (λ (s : Stored). s.bytes) row.folds ≡ map (bytes_anew t) pages
    → (p : ℕ) (us : List Update) → IsAmong p us t → map (λ (s : Stored). s.bytes) row.folds ≡ fold_bytes t.snapshot.page_size (take t.version us) t.version
anew_told stand t row pages is before named bytes p us among =
    let q : ℕ = t.snapshot.page_size in
    let first : List Update = take t.version us in
    let folds : List ℕ = folds_of q (extents first) t.version in
    let same : pages ≡ folds = named (extents first) among.stands in
    bytes
    ∙ ap (map (bytes_anew t)) same
    ∙ map_in (bytes_anew t) (λ i. page_bytes q first t.version i) folds
    (λ i c. stand t p us i is among (before (extents first) among.stands (λ none. none_in i (subst (λ (l : List ℕ). Contains l i) none c))) c)

-- each page that a plan names is stored anew
pub named_anew : (t : NumberedUpdate) (pages : List ℕ) → ((us : List Extent) → IsTicketAmong t us → pages ≡ folds_of t.snapshot.page_size us t.version) → All (IsStoredAnew t) pages
named_anew t pages named k d lt us stands = subst (λ (l : List ℕ). Contains l (slice_index_or pages k d)) (named us stands) (k, lt, get_or_default pages k _ d lt)

-- ---- the row
-- A row with the ticket's version, offset, touch and pages, the planned nodes, and the bytes of the pages that are stored anew is that of the
-- update, among whichever updates it is one.
row_among : StoredRowsAreRows → OwnRowsStay → (t : NumberedUpdate) (row : UpdateRow) (planned : List (Range × Node)) → IsValidTicket t
    → row.version ≡ t.version → row.offset ≡ t.at → row.touch ≡ own_touch t → row.pages ≡ t.pages
    → ((us : List Extent) → IsTicketAmong t us → planned ≡ row_of t.snapshot.page_size us t.version) → row.nodes ≡ planned
    → ((p : ℕ) (us : List Update) → IsAmong p us t → map (λ (s : Stored). s.bytes) row.folds ≡ fold_bytes t.snapshot.page_size (take t.version us) t.version)
    → (p : ℕ) (us : List Update) → IsAmong p us t → IsRowOf p us t.version row
row_among stored stay t row planned numbered version offset touch pages plan nodes folds p us of =
    let first : List Update = take t.version us in
    let some : 1 ≤ t.version = let v = numbered.version in omega arith in
    let counted : length first ≡ t.version = length-take-le t.version us of.numbered in
    let bytes : bytes_of_pages t.pages.pages ≡ (update_at first t.version).bytes = of.bytes ∙ ap (λ (u : Update). u.bytes) (sym (update_among us t.version some)) in
    let own : IsRowOf t.snapshot.page_size first t.version row = stored t row first numbered version offset touch pages of.stands (nodes ∙ plan (extents first) of.stands) bytes (folds p us of) in
    let among : IsRowOf t.snapshot.page_size (first ++ drop t.version us) t.version row = stay t.snapshot.page_size t.version first (drop t.version us) row (omega (arith, counted)) own in
    let P : List Update → Type 0 = λ l. IsRowOf t.snapshot.page_size l t.version row in
    let Q : ℕ → Type 0 = λ q. IsRowOf q us t.version row in
    subst Q of.page_size (subst P (take-append-drop t.version us) among)

-- and it was woven for the update
pub woven : StoredRowsAreRows → OwnRowsStay → (t : NumberedUpdate) (row : UpdateRow) (planned : List (Range × Node)) → IsValidTicket t
    → row.version ≡ t.version → row.offset ≡ t.at → row.touch ≡ own_touch t → row.pages ≡ t.pages
    → ((us : List Extent) → IsTicketAmong t us → planned ≡ row_of t.snapshot.page_size us t.version) → row.nodes ≡ planned
    → ((p : ℕ) (us : List Update) → IsAmong p us t → map (λ (s : Stored). s.bytes) row.folds ≡ fold_bytes t.snapshot.page_size (take t.version us) t.version)
    → row.blob ≡ t.blob → (nodes : List Shelves) → IsIn nodes row.spot → (houses : List House) → LieAmong houses t.pages.pages → LieAmong houses row.folds → IsWoven nodes houses t row
woven stored stay t row planned numbered version offset touch pages plan planned_is folds under nodes there houses here anew =
    let own : LieAmong houses row.pages.pages = subst (λ (x : Cut). LieAmong houses x.pages) (sym pages) here in
    record {
      for = row_among stored stay t row planned numbered version offset touch pages plan planned_is folds;
      under = under;
      here = record { nodes_here = there; pages_here = All-append (λ (x : Stored). All (IsPageAmong houses) x.spots) row.pages.pages row.folds own anew };
    }
