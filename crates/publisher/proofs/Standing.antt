-- Rows of the updates that a window stands for.
use Rattle.std.proofs.Common.{◌≡◌, ◌≢◌, ℕ, zero, suc, ◌+◌, ◌-◌, ◌^◌, ◌≤◌, List, [], ◌∷◌, ◌++◌, length, take, Option, None, Some, unwrap_or, arith, ap, sym, ◌∙◌, subst, inl, inr, get_or, set, length-append, get_or-set_other}
use Rattle.std.proofs.lemmas.Bool.{cases_lt}
use Rattle.std.proofs.lemmas.Grind.{get_or-set_at}
use Rattle.std.proofs.lemmas.List.{append_assoc, get_or_append_left, get_or-take, length-take}
use Rattle.std.proofs.Math.Seq.{get_or-append_seam}
use Rattle.blob_model.specs.Content.{Update, size_of}
use Rattle.range_log.specs.Updates.{Replayable}
use Rattle.node_store.specs.UpdateRows.{UpdateRow}
use Rattle.snapshot.specs.Versions.{Version, no_row, row_at, updates, IsRowOf, IsVersion}
use Rattle.snapshot.specs.Laws.{AreRowsOf, RowsTell}
use Rattle.publisher.specs.Windows.{Numbered, leading, with_finished, WindowHolds}
use Rattle.publisher.specs.WindowInvariant.{Ready}
use Rattle.publisher.specs.Laws.{PublishedRowsAre}
use Rattle.publisher.proofs.Leading.{leading_at, leading_few}
use Rattle.tree_geom.proofs.Spans.{page_pos}

pub some_is : (a b : UpdateRow) (x : Option UpdateRow) → x ≡ Some a → x ≡ Some b → a ≡ b
some_is a b x e f = ap (λ (o : Option UpdateRow). unwrap_or o a) (sym e ∙ f)

-- a window stands for the same updates once one of them is finished by its row
pub stands_finished : (us : List Update) (w : Numbered) (version : ℕ) (row : UpdateRow) → 1 ≤ version → version ≤ length w.rows → WindowHolds us w → IsRowOf w.page_size us version row → WindowHolds us (with_finished w version row)
stands_finished us w version row some le s own = record {
  replayable = s.replayable;
  fits = s.fits;
  counted = s.counted;
  log = s.log;
  rows = λ i r is.
      let k : ℕ = version - 1 in
      let other : i ≢ k → IsRowOf w.page_size us (suc i) r = λ ne. s.rows i r (sym (get_or-set_other w.rows k i (Some row) None ne) ∙ is) in
      elim (cases_lt i k) [
        | inl below ↦ other (λ q. omega arith)
        | inr from ↦ elim (cases_lt k i) [
          | inl past ↦ other (λ q. omega arith)
          | inr upto ↦
              let e : i ≡ k = omega arith in
              let same : row ≡ r = some_is row r (get_or (set w.rows k (Some row)) i None) (get_or-set_at w.rows k i (Some row) None e (omega arith)) is in
              let f : version ≡ suc i = omega arith in
              let P : ℕ → Type 0 = λ n. IsRowOf w.page_size us n row in
              let R : UpdateRow → Type 0 = λ x. IsRowOf w.page_size us (suc i) x in
              subst R same (subst P f own)
        ]
      ];
}

-- the rows before the first missing one are those of the first updates
pub are_rows : (us : List Update) (w : Numbered) → length (leading w.rows) ≤ length w.log → WindowHolds us w → AreRowsOf w.page_size us (leading w.rows)
are_rows us w le s = record { few = omega (arith, s.counted); each = each }
  where
    each : (k : ℕ) → 1 ≤ k → k ≤ length (leading w.rows) → IsRowOf w.page_size us k (row_at (leading w.rows) k)
    each zero some le = absurd (omega arith)
    each (suc i) some le = s.rows i (get_or (leading w.rows) i no_row) (leading_at w.rows i no_row (omega arith))

pub rows_published : PublishedRowsAre
rows_published us w v even s =
    let rows : List UpdateRow = leading w.rows in
    let are : AreRowsOf w.page_size us rows = are_rows us w (omega (arith, leading_few w.rows, even)) s in
    record {
      few = omega (arith, length-take v rows, are.few);
      each = λ k some le. each rows are k some (omega (arith, length-take v rows), omega (arith, length-take v rows));
    }
  where
    each : (rows : List UpdateRow) → AreRowsOf w.page_size us rows → (k : ℕ) → 1 ≤ k → (k ≤ v) × (k ≤ length rows) → IsRowOf w.page_size us k (row_at (take v rows) k)
    each rows are zero some le = absurd (omega arith)
    each rows are (suc i) some le =
        let R : UpdateRow → Type 0 = λ r. IsRowOf w.page_size us (suc i) r in
        subst R (sym (get_or-take v rows i no_row le.0)) (are.each (suc i) some le.1)

-- fewer rows are those of the first of the updates too
pub ready_front : (p : ℕ) (xs ys : List UpdateRow) → Ready p (xs ++ ys) → Ready p xs
ready_front p xs ys (us, ready) =
    let count : length (xs ++ ys) ≡ length xs + length ys = length-append xs ys in (
      us,
      record {
        replayable = ready.replayable;
        fits = ready.fits;
        counted = omega (arith, ready.counted);
        own = record { few = omega (arith, ready.own.few); each = each us ready.own count };
      },
    )
  where
    each : (us : List Update) → AreRowsOf p us (xs ++ ys) → length (xs ++ ys) ≡ length xs + length ys → (k : ℕ) → 1 ≤ k → k ≤ length xs → IsRowOf p us k (row_at xs k)
    each us own count zero some le = absurd (omega arith)
    each us own count (suc i) some le =
        let R : UpdateRow → Type 0 = λ r. IsRowOf p us (suc i) r in
        subst R (get_or_append_left xs ys no_row i (omega arith)) (own.each (suc i) some (omega arith))

-- the rows up to the next one
pub ready_next : (p : ℕ) (rows : List UpdateRow) (row : UpdateRow) (here rest all : List UpdateRow) → rows ++ here ≡ all → here ≡ row ∷ rest → Ready p all → Ready p (rows ++ row ∷ [])
ready_next p rows row here rest all whole first ready =
    ready_front p (rows ++ row ∷ []) rest (subst (Ready p) (sym whole ∙ ap (λ l. rows ++ l) first ∙ sym (append_assoc rows (row ∷ []) rest)) ready)

-- what the next row has to be, after those that a version has
pub next_ready : RowsTell → (s : Version) (row : UpdateRow) → IsVersion s → Ready s.page_size (s.rows ++ row ∷ [])
    → IsRowOf s.page_size (updates (s.rows ++ row ∷ [])) (length s.rows + 1) row
    × Replayable (updates (s.rows ++ row ∷ []))
    × (size_of (updates (s.rows ++ row ∷ [])) (length s.rows + 1) ≤ 2 ^ 40)
next_ready tell s row is (us, ready) =
    let p : ℕ = s.page_size in
    let all : List UpdateRow = s.rows ++ row ∷ [] in
    let n : ℕ = length s.rows + 1 in
    let count : length all ≡ length s.rows + 1 = length-append s.rows (row ∷ []) in
    let told = tell p us all (page_pos p is.page_size) ready.replayable ready.own in
    let last : n ≡ suc (length s.rows) = omega arith in
    let newest : row_at all n ≡ row = ap (row_at all) last ∙ get_or-append_seam s.rows row [] no_row in
    let R : UpdateRow → Type 0 = λ r. IsRowOf p (updates all) n r in
    let B : ℕ → Type 0 = λ m. m ≤ 2 ^ 40 in (
      subst R newest (told.own.each n (omega arith) (omega arith)),
      told.replayable,
      subst B (sym (ap length (told.leave n (omega arith)))) (ready.fits n (omega (arith, ready.own.few))),
    )
