-- A version with one more row, and an older version.
use Rattle.std.proofs.Common.{◌≡◌, ℕ, zero, suc, ◌+◌, ◌-◌, ◌*◌, ◌/◌, ◌^◌, ◌<◌, ◌≤◌, List, [], ◌∷◌, ◌++◌, length, take, drop, map, arith, refl, ap, sym, ◌∙◌, subst, inl, inr, length-append}
use Rattle.std.proofs.Math.Nat.{div-eq_of_lt, add-div_right}
use Rattle.std.proofs.lemmas.Bool.{cases_lt}
use Rattle.std.proofs.lemmas.List.{map-append, take-append-le, take-append-drop}
use Rattle.blob_model.specs.Content.{Update, content, content_from, size_of}
use Rattle.tree_geom.specs.declared.range.Range.{Range}
use Rattle.tree_geom.specs.declared.node.Node.{Node}
use Rattle.range_log.specs.Log.{touch_at}
use Rattle.range_log.specs.Extents.{Extent, extent_at, touches}
use Rattle.range_log.specs.Updates.{extents, extent_of, page_bytes, Replayable}
use Rattle.range_log.specs.Rows.{folds_of, node_of, pages_in, row_of, row_keys_of}
use Rattle.range_log.specs.Laws.{RowsStay, ExtentsGrow}
use Rattle.page_store.specs.Stored.{Cut, Stored, IsCut, bytes_of_pages}
use Rattle.node_store.specs.UpdateRows.{UpdateRow}
use Rattle.range_log.proofs.Bytes.{length-extents, extent_is}
use Rattle.range_log.proofs.Growth.{size_front, extent_of_front}
use Rattle.snapshot.specs.Versions.{Version, row_at, update_of_row, updates, fold_bytes, older_version, IsRowOf, IsVersion}
use Rattle.snapshot.proofs.Lists.{row_at_front, row_at_new, length-updates, update_at_front, map_same}

-- a row stays that of its update in a longer list
pub touch_stays : RowsStay → (p k : ℕ) (xs more : List Extent) → k ≤ length xs → touch_at (touches p (xs ++ more)) k ≡ touch_at (touches p xs) k
touch_stays stay p k xs more le = (stay p k xs more le).0

pub row_stays : RowsStay → (p k : ℕ) (xs more : List Extent) → k ≤ length xs → row_of p (xs ++ more) k ≡ row_of p xs k
row_stays stay p k xs more le =
    let same = stay p k xs more le in
    let pair : List Extent → Range → Range × Node = λ ys r. (r, node_of p ys k r) in
    ap (map (pair (xs ++ more))) same.1
    ∙ map_same (pair (xs ++ more)) (pair xs) (row_keys_of p (touches p xs) k) (λ r. ap (λ (n : Node). (r, n)) (same.3 r))

pub folds_kept : RowsStay → (p k : ℕ) (xs more : List Extent) → k ≤ length xs → folds_of p (xs ++ more) k ≡ folds_of p xs k
folds_kept stay p k xs more le = (stay p k xs more le).5

-- ---- the same of updates
module _ (stay : RowsStay) (grow : ExtentsGrow) where
  touch_front : (p k : ℕ) (us more : List Update) → k ≤ length us → touch_at (touches p (extents (us ++ more))) k ≡ touch_at (touches p (extents us)) k
  touch_front p k us more le =
      let rest = grow us more in
      ap (λ xs. touch_at (touches p xs) k) rest.1 ∙ touch_stays stay p k (extents us) rest.0 (omega (arith, length-extents us))

  place_front : (k : ℕ) (us more : List Update) → k ≤ length us → extent_at (extents (us ++ more)) k ≡ extent_at (extents us) k
  place_front zero us more le = refl
  place_front (suc k) us more le =
      extent_is (us ++ more) k (omega (arith, length-append us more)) ∙ extent_of_front us more k le ∙ sym (extent_is us k le)

  row_front : (p k : ℕ) (us more : List Update) → k ≤ length us → row_of p (extents (us ++ more)) k ≡ row_of p (extents us) k
  row_front p k us more le =
      let rest = grow us more in
      ap (λ xs. row_of p xs k) rest.1 ∙ row_stays stay p k (extents us) rest.0 (omega (arith, length-extents us))

  content_front : (k : ℕ) (us more : List Update) → k ≤ length us → content (us ++ more) k ≡ content us k
  content_front k us more le = ap (content_from []) (take-append-le k us more le)

  folds_front : (p k : ℕ) (us more : List Update) → k ≤ length us → fold_bytes p (us ++ more) k ≡ fold_bytes p us k
  folds_front p k us more le =
      let rest = grow us more in
      let folds : folds_of p (extents (us ++ more)) k ≡ folds_of p (extents us) k =
      ap (λ xs. folds_of p xs k) rest.1 ∙ folds_kept stay p k (extents us) rest.0 (omega (arith, length-extents us)) in
      ap (map (λ i. page_bytes p (us ++ more) k i)) folds
      ∙ map_same (λ i. page_bytes p (us ++ more) k i) (λ i. page_bytes p us k i) (folds_of p (extents us) k)
      (λ i. ap (λ (c : List ℕ). take p (drop (i * p) c)) (content_front k us more le))

  pub IsRowOf-longer : (p k : ℕ) (us more : List Update) (row : UpdateRow) → k ≤ length us → IsRowOf p us k row → IsRowOf p (us ++ more) k row
  IsRowOf-longer p k us more row le is = record {
    version = is.version;
    offset = is.offset ∙ ap (λ (x : Extent). x.at) (sym (place_front k us more le));
    touch = is.touch ∙ sym (touch_front p k us more le);
    nodes = is.nodes ∙ sym (row_front p k us more le);
    bytes = is.bytes ∙ ap (λ (u : Update). u.bytes) (sym (update_at_front us more k le));
    page_size = is.page_size;
    folds = is.folds ∙ sym (folds_front p k us more le);
  }

  pub IsRowOf-shorter : (p k : ℕ) (us more : List Update) (row : UpdateRow) → k ≤ length us → IsRowOf p (us ++ more) k row → IsRowOf p us k row
  IsRowOf-shorter p k us more row le is = record {
    version = is.version;
    offset = is.offset ∙ ap (λ (x : Extent). x.at) (place_front k us more le);
    touch = is.touch ∙ touch_front p k us more le;
    nodes = is.nodes ∙ row_front p k us more le;
    bytes = is.bytes ∙ ap (λ (u : Update). u.bytes) (update_at_front us more k le);
    page_size = is.page_size;
    folds = is.folds ∙ folds_front p k us more le;
  }

Replayable-shorter : (us more : List Update) → Replayable (us ++ more) → Replayable us
Replayable-shorter us more ok k lt =
    let long : k < length (us ++ more) = omega (arith, length-append us more) in
    let was = ok k long in
    let e : extent_of (us ++ more) (suc k) ≡ extent_of us (suc k) = extent_of_front us more k lt in
    let s : size_of (us ++ more) k ≡ size_of us k = size_front us more k (omega arith) in
    let P : Extent → Type 0 = λ x. (x.at ≤ size_of (us ++ more) k) × (1 ≤ x.len) in
    let Q : ℕ → Type 0 = λ n. ((extent_of us (suc k)).at ≤ n) × (1 ≤ (extent_of us (suc k)).len) in
    subst Q s (subst P e was)

updates-append : (rows more : List UpdateRow) → updates (rows ++ more) ≡ updates rows ++ updates more
updates-append rows more = map-append update_of_row rows more

-- the version of the first rows
abbrev pub of_rows : ℕ → ℕ → List UpdateRow → Version
of_rows blob p rows = record { blob = blob; page_size = p; rows = rows }

pub IsVersion-front : RowsStay → ExtentsGrow → (blob p : ℕ) (rows more : List UpdateRow) → IsVersion (of_rows blob p (rows ++ more)) → IsVersion (of_rows blob p rows)
IsVersion-front stay grow blob p rows more is =
    let us : List Update = updates rows in
    let rest : List Update = updates more in
    let join : updates (rows ++ more) ≡ us ++ rest = updates-append rows more in
    let count : length (rows ++ more) ≡ length rows + length more = length-append rows more in
    let told : length us ≡ length rows = length-updates rows in
    record {
      page_size = is.page_size;
      counted = omega (arith, is.counted);
      replayable = Replayable-shorter us rest (rw join at is.replayable);
      rows = λ k some le.
          let long : k ≤ length (rows ++ more) = omega arith in
          let P : List Update → Type 0 = λ l. IsRowOf p l k (row_at (rows ++ more) k) in
          let R : UpdateRow → Type 0 = λ row. IsRowOf p us k row in
          subst R (row_at_front rows more k le) (IsRowOf-shorter stay grow p k us rest (row_at (rows ++ more) k) (omega arith) (subst P join (is.rows k some long)));
      paged = λ k some le.
          let long : k ≤ length (rows ++ more) = omega arith in
          let R : UpdateRow → Type 0 = λ row. IsCut p row.pages.pages in
          subst R (row_at_front rows more k le) (is.paged k some long);
      fits = λ v le.
          let long : v ≤ length (rows ++ more) = omega arith in
          let P : List Update → Type 0 = λ l. size_of l v ≤ 2 ^ 40 in
          let f : size_of (us ++ rest) v ≤ 2 ^ 40 = subst P join (is.fits v long) in
          omega (arith, size_front us rest v (omega arith));
    }

-- so is an older version
pub IsVersion-older : RowsStay → ExtentsGrow → (s : Version) (v : ℕ) → IsVersion s → IsVersion (older_version s v)
IsVersion-older stay grow s v is =
    let P : List UpdateRow → Type 0 = λ l. IsVersion (of_rows s.blob s.page_size l) in
    IsVersion-front stay grow s.blob s.page_size (take v s.rows) (drop v s.rows) (subst P (sym (take-append-drop v s.rows)) is)

pub IsVersion-push : RowsStay → ExtentsGrow → (blob p : ℕ) (rows : List UpdateRow) (row : UpdateRow) → IsVersion (of_rows blob p rows) → length rows < 1048576
    → IsRowOf p (updates (rows ++ row ∷ [])) (length rows + 1) row → Replayable (updates (rows ++ row ∷ []))
    → IsCut p row.pages.pages → size_of (updates (rows ++ row ∷ [])) (length rows + 1) ≤ 2 ^ 40
    → IsVersion (of_rows blob p (rows ++ row ∷ []))
IsVersion-push stay grow blob p rows row is room new ok paged fits =
    let us : List Update = updates rows in
    let rest : List Update = update_of_row row ∷ [] in
    let all : List UpdateRow = rows ++ row ∷ [] in
    let join : updates all ≡ us ++ rest = updates-append rows (row ∷ []) in
    let count : length all ≡ length rows + 1 = length-append rows (row ∷ []) in
    let told : length us ≡ length rows = length-updates rows in
    let next : length rows + 1 ≡ suc (length rows) = omega arith in
    let newest : row_at all (length rows + 1) ≡ row = ap (row_at all) next ∙ row_at_new rows row in
    let last : (k : ℕ) → length rows < k → k ≤ length all → k ≡ length rows + 1 = λ k lt le. omega arith in
    record {
      page_size = is.page_size;
      counted = omega arith;
      replayable = ok;
      rows = λ k some le. elim (cases_lt (length rows) k) [
        | inl past ↦
            let P : ℕ → Type 0 = λ n. IsRowOf p (updates all) n (row_at all n) in
            let R : UpdateRow → Type 0 = λ r. IsRowOf p (updates all) (length rows + 1) r in
            subst P (sym (last k past le)) (subst R (sym newest) new)
        | inr old ↦
            let P : List Update → Type 0 = λ l. IsRowOf p l k (row_at all k) in
            let R : UpdateRow → Type 0 = λ r. IsRowOf p (us ++ rest) k r in
            subst P (sym join) (subst R (sym (row_at_front rows (row ∷ []) k old)) (IsRowOf-longer stay grow p k us rest (row_at rows k) (omega arith) (is.rows k some old)))
      ];
      paged = λ k some le. elim (cases_lt (length rows) k) [
        | inl past ↦
            let P : ℕ → Type 0 = λ n. IsCut p (row_at all n).pages.pages in
            let R : UpdateRow → Type 0 = λ r. IsCut p r.pages.pages in
            subst P (sym (last k past le)) (subst R (sym newest) paged)
        | inr old ↦
            let R : UpdateRow → Type 0 = λ r. IsCut p r.pages.pages in
            subst R (sym (row_at_front rows (row ∷ []) k old)) (is.paged k some old)
      ];
      fits = λ v le. elim (cases_lt (length rows) v) [
        | inl past ↦
            let P : ℕ → Type 0 = λ n. size_of (updates all) n ≤ 2 ^ 40 in
            subst P (sym (last v past le)) fits
        | inr old ↦
            let P : List Update → Type 0 = λ l. size_of l v ≤ 2 ^ 40 in
            let f : size_of us v ≤ 2 ^ 40 = is.fits v old in
            subst P (sym join) (omega (arith, size_front us rest v (omega arith)))
      ];
    }

-- where pages are cut there are as many as their bytes need
pub cut_count : (p : ℕ) (pages : List Stored) → 1 ≤ p → IsCut p pages → length pages ≡ pages_in p (length (bytes_of_pages pages))
cut_count p [] pos cut = sym (div-eq_of_lt (omega (arith, pos)))
cut_count p (page ∷ []) pos cut =
    let all : length (bytes_of_pages (page ∷ [])) ≡ length page.bytes = length-append page.bytes [] ∙ (let z : length page.bytes + 0 ≡ length page.bytes = omega arith in z) in
    let more : length (bytes_of_pages (page ∷ [])) + p - 1 ≡ length page.bytes - 1 + p = omega (arith, all, cut) in
    let one_more : (length (bytes_of_pages (page ∷ [])) + p - 1) / p ≡ (length page.bytes - 1) / p + 1 = ap (λ n. n / p) more ∙ add-div_right (length page.bytes - 1) pos in
    let none : (length page.bytes - 1) / p ≡ 0 = div-eq_of_lt (omega (arith, cut)) in
    omega (arith, one_more, none)
cut_count p (page ∷ next ∷ rest) pos cut =
    let n : ℕ = length (bytes_of_pages (next ∷ rest)) in
    let all : length (bytes_of_pages (page ∷ next ∷ rest)) ≡ p + n = length-append page.bytes (bytes_of_pages (next ∷ rest)) ∙ ap (λ m. m + n) cut.0 in
    let more : length (bytes_of_pages (page ∷ next ∷ rest)) + p - 1 ≡ n + p - 1 + p = omega (arith, all, pos) in
    let one_more : (length (bytes_of_pages (page ∷ next ∷ rest)) + p - 1) / p ≡ (n + p - 1) / p + 1 = ap (λ m. m / p) more ∙ add-div_right (n + p - 1) pos in
    let others : length (next ∷ rest) ≡ (n + p - 1) / p = cut_count p (next ∷ rest) pos cut.1 in
    omega (arith, one_more, others)

pub paged_of : (pages told : Cut) (p : ℕ) → pages ≡ told → IsCut told.page_size told.pages → pages.page_size ≡ p → IsCut p pages.pages
paged_of pages told p same cut size =
    let P : Cut → Type 0 = λ c. c.page_size ≡ p → IsCut p c.pages in
    let told_pages : P told = λ e. (let C : ℕ → Type 0 = λ n. IsCut n told.pages in subst C e cut) in
    subst P (sym same) told_pages size
