-- What rows tell of the updates that they are the rows of.
use Rattle.std.proofs.Common.{◌≡◌, ℕ, zero, suc, ◌+◌, ◌*◌, ◌<◌, ◌≤◌, List, ◌++◌, length, take, drop, map, arith, refl, ap, sym, ◌∙◌, subst}
use Rattle.std.specs.List.{range_with_len}
use Rattle.std.proofs.lemmas.List.{take-append-drop, length-take-le}
use Rattle.std.proofs.lemmas.List.FromFn.{take-map-range_with_len}
use Rattle.blob_model.specs.Content.{Update, put, content, size_of, offset_of}
use Rattle.tree_geom.specs.declared.range.Range.{Range}
use Rattle.tree_geom.specs.declared.touch.Touch.{Touch}
use Rattle.tree_geom.specs.declared.node.Node.{Node}
use Rattle.range_log.specs.Log.{touch_at}
use Rattle.range_log.specs.Extents.{Extent, extent_at, touches}
use Rattle.range_log.specs.Updates.{update_at, extents, extent_of, page_bytes, Replayable}
use Rattle.range_log.specs.Rows.{folds_of, row_of}
use Rattle.range_log.specs.Laws.{RowsStay}
use Rattle.node_store.specs.UpdateRows.{UpdateRow}
use Rattle.range_log.proofs.Bytes.{content_next, length-extents, extent_is}
use Rattle.snapshot.specs.Versions.{row_at, update_of_row, updates}
use Rattle.snapshot.specs.Laws.{AreRowsOf, TellUpdates}
use Rattle.snapshot.proofs.Lists.{length-updates, update_told, map_same}
use Rattle.radix_list.proofs.Grouping.{map_range}
use Rattle.snapshot.proofs.Growing.{touch_stays, row_stays, folds_kept}

-- ---- all that rows tell
module _ (stay : RowsStay) (p : ℕ) (us : List Update) (rows : List UpdateRow) (pos : 1 ≤ p) (ok : Replayable us) (are : AreRowsOf p us rows) where
  bytes_told : (k : ℕ) → k ≤ length rows → (update_at (updates rows) k).bytes ≡ (update_at us k).bytes
  bytes_told zero le = refl
  bytes_told (suc k) le = ap (λ (u : Update). u.bytes) (update_told rows k le) ∙ (are.each (suc k) (omega arith) le).bytes

  extent_told : (k : ℕ) → k < length rows → extent_of (updates rows) (suc k) ≡ extent_of us (suc k)
  extent_told k lt =
      let in_list : k < length us = omega (arith, are.few) in
      let made : ℕ → ℕ → Extent = λ a n. record { at = a; len = n } in
      let ws : List Update = updates rows in
      let told : update_at ws (suc k) ≡ update_of_row (row_at rows (suc k)) = update_told rows k lt in
      let at : (extent_of ws (suc k)).at ≡ (extent_of us (suc k)).at =
      ap (λ (u : Update). offset_of u.place (size_of ws k)) told ∙ (are.each (suc k) (omega arith) lt).offset ∙ ap (λ (x : Extent). x.at) (extent_is us k in_list) in
      let len : (extent_of ws (suc k)).len ≡ (extent_of us (suc k)).len = ap length (bytes_told (suc k) lt) in
      ap (λ a. made a (extent_of ws (suc k)).len) at ∙ ap (made (extent_of us (suc k)).at) len

  content_told : (v : ℕ) → v ≤ length rows → content (updates rows) v ≡ content us v
  content_told zero le = refl
  content_told (suc v) le =
      let ws : List Update = updates rows in
      let in_list : v < length us = omega (arith, are.few) in
      let in_told : v < length ws = omega (arith, length-updates rows) in
      content_next ws v in_told
      ∙ ap (λ (c : List ℕ). put c (extent_of ws (suc v)).at (update_at ws (suc v)).bytes) (content_told v (omega arith))
      ∙ ap (λ (x : Extent). put (content us v) x.at (update_at ws (suc v)).bytes) (extent_told v le)
      ∙ ap (put (content us v) (extent_of us (suc v)).at) (bytes_told (suc v) le)
      ∙ sym (content_next us v in_list)

  replayable_told : Replayable (updates rows)
  replayable_told k lt =
      let ws : List Update = updates rows in
      let in_rows : k < length rows = omega (arith, length-updates rows) in
      let in_list : k < length us = omega (arith, are.few) in
      let P : Extent → Type 0 = λ x. (x.at ≤ size_of us k) × (1 ≤ x.len) in
      let Q : ℕ → Type 0 = λ n. ((extent_of ws (suc k)).at ≤ n) × (1 ≤ (extent_of ws (suc k)).len) in
      subst Q (ap length (sym (content_told k (omega arith)))) (subst P (sym (extent_told k in_rows)) (ok k in_list))

  extents_told : extents (updates rows) ≡ take (length rows) (extents us)
  unfolding extents
  extents_told =
      let ws : List Update = updates rows in
      ap (λ n. map (λ k. extent_of ws k) (range_with_len 1 n)) (length-updates rows)
      ∙ map_range (λ k. extent_of ws k) (λ k. extent_of us k) 1 (length rows) (λ i le lt. same i le lt)
      ∙ sym (take-map-range_with_len (λ k. extent_of us k) 1 (length us) (length rows) are.few)
    where
      same : (i : ℕ) → 1 ≤ i → i < 1 + length rows → extent_of (updates rows) i ≡ extent_of us i
      same zero le lt = absurd (omega arith)
      same (suc k) le lt = extent_told k (omega arith)

  place_told : (k : ℕ) → 1 ≤ k → k ≤ length rows → extent_at (extents (updates rows)) k ≡ extent_at (extents us) k
  place_told zero some le = absurd (omega arith)
  place_told (suc k) some le =
      extent_is (updates rows) k (omega (arith, length-updates rows))
      ∙ extent_told k (omega arith)
      ∙ sym (extent_is us k (omega (arith, are.few)))

  rows_told : AreRowsOf p (updates rows) rows
  rows_told =
      let xs : List Extent = extents us in
      let front : List Extent = take (length rows) xs in
      let rest : List Extent = drop (length rows) xs in
      let join : front ++ rest ≡ xs = take-append-drop (length rows) xs in
      let count : length front ≡ length rows = length-take-le (length rows) xs (omega (arith, length-extents us, are.few)) in
      let ws : List Update = updates rows in
      record {
        few = omega (arith, length-updates rows);
        each = λ k some le.
            let is = are.each k some le in
            let within : k ≤ length front = omega arith in
            let T : List Extent → Touch = λ l. touch_at (touches p l) k in
            let R : List Extent → List (Range × Node) = λ l. row_of p l k in
            let F : List Extent → List ℕ = λ l. folds_of p l k in
            record {
              version = is.version;
              offset = is.offset ∙ ap (λ (x : Extent). x.at) (sym (place_told k some le));
              touch = is.touch ∙ ap T (sym join) ∙ touch_stays stay p k front rest within ∙ ap T (sym extents_told);
              nodes = is.nodes ∙ ap R (sym join) ∙ row_stays stay p k front rest within ∙ ap R (sym extents_told);
              bytes = is.bytes ∙ sym (bytes_told k le);
              page_size = is.page_size;
              folds = is.folds
                  ∙ ap (map (λ i. page_bytes p us k i)) (ap F (sym join) ∙ folds_kept stay p k front rest within ∙ ap F (sym extents_told))
                  ∙ map_same (λ i. page_bytes p us k i) (λ i. page_bytes p ws k i) (folds_of p (extents ws) k)
                  (λ i. ap (λ (c : List ℕ). take p (drop (i * p) c)) (sym (content_told k le)));
            };
      }

  pub told : TellUpdates p us rows
  told = record {
    fall = extents_told;
    bytes = bytes_told;
    leave = content_told;
    replayable = replayable_told;
    own = rows_told;
  }
