-- How a desk keeps the updates that wait.
use Rattle.std.proofs.Common.{◌≡◌, ℕ, zero, suc, ◌+◌, ◌-◌, ◌≤◌, ◌==◌, List, [], ◌∷◌, ◌++◌, length, map, drop, arith, refl, ap, sym, ◌∙◌, subst, None, is_some, length-append}
use Rattle.std.specs.Prelude.{Some, slice_get}
use Rattle.std.specs.Arc.{arc_value}
use Rattle.std.proofs.Math.Seq.{get_or-append_seam}
use Rattle.std.proofs.lemmas.List.{map-append, map-set}
use Rattle.std.proofs.lemmas.Bool.Decides.{nat_tests}
use Rattle.std.proofs.lemmas.Option.{none-some, same_Some}
use Rattle.blob_model.specs.Content.{Update, offset_of, size_of}
use Rattle.blob_model.specs.Store.{true_prefix}
use Rattle.blob_model.proofs.Marks.{get-push_other, by_test}
use Rattle.tree_geom.specs.declared.touch.Touch.{Touch}
use Rattle.range_log.proofs.Growth.{extent_of_front, size_front}
use Rattle.range_log.specs.Updates.{update_at, no_update, extent_of}
use Rattle.range_log.specs.Extents.{Extent}
use Rattle.page_store.specs.House.{House}
use Rattle.page_store.specs.Stored.{Cut, bytes_of_pages, LieAmong}
use Rattle.node_store.specs.UpdateRows.{UpdateRow}
use Rattle.publisher.specs.Windows.{Numbered, WindowState, published_of, with_numbered, with_finished}
use Rattle.version_manager.specs.declared.waiting.WaitingUpdate.{WaitingUpdate}
use Rattle.version_manager.specs.DeskInvariant.{IsWaitingUpdate, AreWaiting}
use Rattle.version_manager.specs.Stays.{same_update}
use Rattle.version_manager.proofs.BlobsSizes.{prefix_more, prefix_set}
use Rattle.version_manager.proofs.Stores.{get-push_last}

get-drop : {X : Type 0} (n : ℕ) (xs : List X) (i : ℕ) → slice_get (drop n xs) i ≡ slice_get xs (n + i)
get-drop zero xs i = let e : zero + i ≡ i = omega arith in sym (ap (slice_get xs) e)
get-drop (suc n) [] i = refl
get-drop (suc n) (x ∷ xs) i = let e : suc n + i ≡ suc (n + i) = omega arith in get-drop n xs i ∙ sym (ap (slice_get (x ∷ xs)) e)

-- ---- of one blob
module _ (p : ℕ) (houses : List House) where
  -- among more updates
  update_stays : (us later : List Update) (k : ℕ) (u : WaitingUpdate) → IsWaitingUpdate p houses us (suc k) u → IsWaitingUpdate p houses (us ++ later) (suc k) u
  update_stays us later k u h =
      let same : update_at (us ++ later) (suc k) ≡ update_at us (suc k) = same_update us later (suc k) h.numbered in
      let falls : extent_of (us ++ later) (suc k) ≡ extent_of us (suc k) = extent_of_front us later k h.numbered in
      record {
        numbered = omega (arith, h.numbered, length-append us later);
        caller = h.caller ∙ sym (ap (λ (x : Update). x.caller) same);
        at = h.at ∙ sym (ap (λ (x : Extent). x.at) falls);
        bytes = h.bytes ∙ sym (ap (λ (x : Update). x.bytes) same);
        page_size = h.page_size;
        here = h.here;
      }

  pub list_stays : (us later : List Update) (w : WindowState WaitingUpdate) → AreWaiting p houses us w → AreWaiting p houses (us ++ later) w
  list_stays us later w h = λ i u at. update_stays us later (published_of w.numbered + i) u (h i u at)

  -- nothing waits
  pub none_wait : (us : List Update) (w : WindowState WaitingUpdate) → w.updates ≡ [] → AreWaiting p houses us w
  none_wait us w e = λ i u at. absurd (none-some u (ap (λ (l : List WaitingUpdate). slice_get l i) (sym e) ∙ at))

  -- the update that is numbered last
  pub numbered_own : (us : List Update) (u : Update) (new : WaitingUpdate) (q : Cut) → new.caller ≡ u.caller → new.at ≡ offset_of u.place (size_of us (length us)) → arc_value new.pages ≡ q → bytes_of_pages q.pages ≡ u.bytes
      → q.page_size ≡ p → LieAmong houses q.pages → IsWaitingUpdate p houses (us ++ u ∷ []) (suc (length us)) new
  numbered_own us u new q caller at pages bytes page here =
      let all : List Update = us ++ u ∷ [] in
      let own : update_at all (suc (length us)) ≡ u = get_or-append_seam us u [] no_update in
      let falls : (extent_of all (suc (length us))).at ≡ offset_of u.place (size_of us (length us)) =
      ap (λ (x : Update). offset_of x.place (size_of all (length us))) own ∙ ap (offset_of u.place) (size_front us (u ∷ []) (length us) (omega arith)) in
      let L : Cut → Type 0 = λ x. LieAmong houses x.pages in
      record {
        numbered = omega (arith, length-append us (u ∷ []));
        caller = caller ∙ sym (ap (λ (x : Update). x.caller) own);
        at = at ∙ sym falls;
        bytes = ap (λ (x : Cut). bytes_of_pages x.pages) pages ∙ bytes ∙ sym (ap (λ (x : Update). x.bytes) own);
        page_size = ap (λ (x : Cut). x.page_size) pages ∙ page;
        here = subst L (sym pages) here;
      }

  published_numbered : (w : Numbered) (touch : Touch) → published_of (with_numbered w touch) ≡ published_of w
  published_numbered w touch = ap true_prefix (map-append is_some w.rows (None ∷ [])) ∙ prefix_more (map is_some w.rows)

  -- one more waits
  pub numbered_wait : (us : List Update) (w w' : WindowState WaitingUpdate) (touch : Touch) (new : WaitingUpdate) → AreWaiting p houses us w → published_of w.numbered + length w.updates ≡ length w.numbered.log
      → IsWaitingUpdate p houses us (suc (length w.numbered.log)) new → w'.numbered ≡ with_numbered w.numbered touch → w'.updates ≡ w.updates ++ new ∷ [] → AreWaiting p houses us w'
  numbered_wait us w w' touch new h count own next more =
      let same : published_of w'.numbered ≡ published_of w.numbered = ap published_of next ∙ published_numbered w.numbered touch in
      let V : ℕ → WaitingUpdate → Type 0 = λ n u. IsWaitingUpdate p houses us (suc n) u in
      λ i u at.
      let here : slice_get (w.updates ++ new ∷ []) i ≡ Some u = ap (λ (l : List WaitingUpdate). slice_get l i) (sym more) ∙ at in
      by_test _ (i == length w.updates)
      (λ t.
      let last : i ≡ length w.updates = grind (arith, nat_tests) in
      let is : Some new ≡ Some u = sym (get-push_last w.updates new) ∙ ap (λ (n : ℕ). slice_get (w.updates ++ new ∷ []) n) (sym last) ∙ here in
      let end : length w.numbered.log ≡ published_of w'.numbered + i = omega (arith, last, same, count) in
      subst (λ (x : WaitingUpdate). V (published_of w'.numbered + i) x) (same_Some new u is) (subst (λ (n : ℕ). V n new) end own))
      (λ t.
      let apart : i ≡ length w.updates → ⊥ = λ last. grind (arith, nat_tests) in
      subst (λ (n : ℕ). V (n + i) u) (sym same) (h i u (sym (get-push_other w.updates i new apart) ∙ here)))

  -- the first of them are published
  pub published_wait : (us : List Update) (w w' : WindowState WaitingUpdate) (n : ℕ) → published_of w'.numbered ≡ published_of w.numbered + n → w'.updates ≡ drop n w.updates
      → AreWaiting p houses us w → AreWaiting p houses us w'
  published_wait us w w' n far left h = λ i u at.
      let there : published_of w.numbered + (n + i) ≡ published_of w'.numbered + i = omega (arith, far) in
      subst (λ (k : ℕ). IsWaitingUpdate p houses us (suc k) u) there (h (n + i) u (sym (get-drop n w.updates i) ∙ ap (λ (l : List WaitingUpdate). slice_get l i) (sym left) ∙ at))

-- a finish publishes no fewer
pub finish_passes : (w : Numbered) (v : ℕ) (row : UpdateRow) → published_of w ≤ published_of (with_finished w v row)
finish_passes w v row = omega (arith, ap true_prefix (map-set is_some w.rows (v - 1) (Some row)), prefix_set (map is_some w.rows) (v - 1))
