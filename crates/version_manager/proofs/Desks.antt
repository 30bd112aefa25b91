-- What a desk keeps as its history goes on.
use Rattle.std.proofs.Common.{◌≡◌, ℕ, ◌+◌, ◌-◌, ◌^◌, ◌<◌, ◌≤◌, ◌==◌, false, List, [], ◌∷◌, ◌++◌, length, map, set, get_or, suc, refl, sym, ◌∙◌, ap, subst, arith, length-append}
use Rattle.std.specs.Prelude.{Some, None, slice_get}
use Rattle.std.proofs.Math.ListN.{length-set}
use Rattle.std.proofs.lemmas.List.{get_or_default, get_or-map, map-append, length-map}
use Rattle.std.proofs.lemmas.Option.{slice_get-get_or, slice_get_past}
use Rattle.std.proofs.lemmas.Bool.Decides.{nat_tests}
use Rattle.blob_model.specs.Limits.{Bounds}
use Rattle.blob_model.specs.Store.{Store, Blob, blob_at, and_blob, with_blob}
use Rattle.blob_model.specs.History.{store_of, IsLegal}
use Rattle.blob_model.specs.declared.call.Event.{Event}
use Rattle.page_store.specs.House.{House}
use Rattle.publisher.specs.Windows.{Numbered, WindowState}
use Rattle.version_manager.specs.declared.entry.Entry.{Entry}
use Rattle.version_manager.specs.declared.waiting.WaitingUpdate.{WaitingUpdate}
use Rattle.version_manager.specs.Desks.{no_window}
use Rattle.version_manager.specs.Entries.{event_of}
use Rattle.version_manager.specs.DeskInvariant.{IsBlobKept, Keeps, AreWaiting, IsWindowOf, KeepsDesk, seen_in, numbered_of}
use Rattle.version_manager.proofs.Stores.{get-set_is, get-push_last}
use Rattle.blob_model.proofs.Marks.{get-set_other, get-push_other, by_test}

-- ---- one blob and its window
-- what stands in place of the window of a blob that isn't there
abbrev pub no_state : WindowState WaitingUpdate
no_state = record { numbered = no_window; updates = [] }

pub keeps_of : (limits : Bounds) (p id : ℕ) (b : Blob) (w : Numbered) → IsBlobKept limits p id b w → Keeps limits w b
keeps_of limits p id b w k = record { blob = refl; page_size = refl; stands = k.stands; finished = k.finished; versions = k.versions; waiting = k.waiting; size = k.size }

pub window_of : (limits : Bounds) (p : ℕ) (houses : List House) (id : ℕ) (b : Blob) (w : WindowState WaitingUpdate) → w.numbered.blob ≡ id → w.numbered.page_size ≡ p → Keeps limits w.numbered b
    → AreWaiting p houses b.updates w → IsWindowOf limits p houses id b w
window_of limits p houses id b w e f k waits = record {
  kept = record { blob = e; page_size = f; stands = k.stands; finished = k.finished; versions = k.versions; waiting = k.waiting; size = k.size };
  waits = waits;
}

-- ---- the history
pub pushed_event : (old new : List Entry) (entry : Entry) → new ≡ old ++ entry ∷ [] → map event_of new ≡ map event_of old ++ event_of entry ∷ []
pushed_event old new entry e = ap (map event_of) e ∙ map-append event_of old (entry ∷ [])

-- one entry more than a history that has room for it
pub short_yet : (old new : List Entry) (entry : Entry) → new ≡ old ++ entry ∷ [] → length old + 1 < 2 ^ 38 → length (map event_of new) < 2 ^ 38
short_yet old new entry e room = omega (arith, length-map new event_of, ap length e, length-append old (entry ∷ []))

blob_of : (s : Store) (blob : ℕ) → 1 ≤ blob → blob_at s blob ≡ slice_get s.blobs (blob - 1)
blob_of s blob some = let t : (blob == 0) ≡ false = grind (arith, nat_tests) in rw t refl

module _ {limits : Bounds} {p : ℕ} {houses : List House} {h : List Event} {ws : List (WindowState WaitingUpdate)} (kept : KeepsDesk limits p houses h ws) where
  -- the blob that a window keeps
  pub record IsHere (blob : ℕ) : Type 0 where
    pub b : Blob
    pub at : blob_at (store_of limits h) blob ≡ Some b
    pub keeps : IsBlobKept limits p blob b (get_or (numbered_of ws) (blob - 1) no_window)
    pub waits : AreWaiting p houses b.updates (get_or ws (blob - 1) no_state)

  seen : (i : ℕ) → i < length ws → get_or (numbered_of ws) i no_window ≡ (get_or ws i no_state).numbered
  seen i lt = get_or-map seen_in ws i no_state no_window lt

  pub here : (blob : ℕ) → 1 ≤ blob → blob ≤ length ws → IsHere blob
  here blob some within =
      let s : Store = store_of limits h in
      let in_windows : blob - 1 < length ws = omega arith in
      let in_blobs : blob - 1 < length s.blobs = omega (arith, kept.count) in
      let none : Blob = record { updates = []; finished = [] } in
      let b : Blob = get_or s.blobs (blob - 1) none in
      let w : WindowState WaitingUpdate = get_or ws (blob - 1) no_state in
      let item : slice_get s.blobs (blob - 1) ≡ Some b = slice_get-get_or s.blobs (blob - 1) none in_blobs in
      let own : IsWindowOf limits p houses (suc (blob - 1)) b w = kept.each (blob - 1) b w item (slice_get-get_or ws (blob - 1) no_state in_windows) in
      let id : suc (blob - 1) ≡ blob = omega arith in
      record {
        b = b;
        at = blob_of s blob some ∙ item;
        keeps = subst (λ (v : Numbered). IsBlobKept limits p blob b v) (sym (seen (blob - 1) in_windows)) (subst (λ (i : ℕ). IsBlobKept limits p i b w.numbered) id own.kept);
        waits = own.waits;
      }

  pub absent : (blob : ℕ) → (1 ≤ blob → length ws < blob) → blob_at (store_of limits h) blob ≡ None
  absent blob past = by_test _ (blob == 0) (λ t. rw t refl) (λ t.
      let some : 1 ≤ blob = grind (arith, nat_tests) in
      let after : length ws < blob = past some in
      blob_of (store_of limits h) blob some ∙ slice_get_past (store_of limits h).blobs (blob - 1) (omega (arith, kept.count)))

  -- a window that was found at the index of a blob
  pub record IsAt (blob index : ℕ) (w : WindowState WaitingUpdate) : Type 0 where
    pub found : IsHere blob
    pub some : 1 ≤ blob
    pub within : blob ≤ length ws
    pub at : index ≡ blob - 1
    pub whole : w ≡ get_or ws (blob - 1) no_state
    pub window : w.numbered ≡ get_or (numbered_of ws) (blob - 1) no_window
    pub keeps : Keeps limits w.numbered found.b
    pub waits : AreWaiting p houses found.b.updates w
    pub id : w.numbered.blob ≡ blob
    pub page : w.numbered.page_size ≡ p

  pub at_index : (blob index n : ℕ) (w : WindowState WaitingUpdate) → n ≡ length ws → (index ≡ blob - 1) × (1 ≤ blob) × (blob ≤ n) → w ≡ get_or ws index w → IsAt blob index w
  at_index blob index n w long e read =
      let x : IsHere blob = here blob e.1 (omega (arith, e.2, long)) in
      let in_windows : blob - 1 < length ws = omega (arith, e.1, e.2, long) in
      let whole : w ≡ get_or ws (blob - 1) no_state = read ∙ ap (λ (i : ℕ). get_or ws i w) e.0 ∙ get_or_default ws (blob - 1) w no_state in_windows in
      let same : w.numbered ≡ get_or (numbered_of ws) (blob - 1) no_window = ap seen_in whole ∙ sym (seen (blob - 1) in_windows) in
      let k : IsBlobKept limits p blob x.b w.numbered = subst (λ (v : Numbered). IsBlobKept limits p blob x.b v) (sym same) x.keeps in
      record {
        found = x;
        some = e.1;
        within = omega (arith, e.2, long);
        at = e.0;
        whole = whole;
        window = same;
        keeps = keeps_of limits p blob x.b w.numbered k;
        waits = subst (AreWaiting p houses x.b.updates) (sym whole) x.waits;
        id = k.blob;
        page = k.page_size;
      }

  -- an event after which there is a blob more
  pub pushed : (e : Event) (b : Blob) (w : WindowState WaitingUpdate) → IsLegal limits (h ++ e ∷ []) → store_of limits (h ++ e ∷ []) ≡ and_blob (store_of limits h) b
      → length ws < limits.max_blobs → IsWindowOf limits p houses (suc (length ws)) b w → KeepsDesk limits p houses (h ++ e ∷ []) (ws ++ w ∷ [])
  pushed e b w legal after few new =
      let s : Store = store_of limits h in
      let blobs : (store_of limits (h ++ e ∷ [])).blobs ≡ s.blobs ++ b ∷ [] = ap (λ (x : Store). x.blobs) after in
      let long : length (store_of limits (h ++ e ∷ [])).blobs ≡ length s.blobs + 1 = ap length blobs ∙ length-append s.blobs (b ∷ []) in
      record {
        legal = legal;
        page_size = kept.page_size;
        few = omega (arith, length-append ws (w ∷ []));
        count = omega (arith, kept.count, long, length-append ws (w ∷ []));
        each = λ i b' w' at_blob at_window.
            let at : slice_get (s.blobs ++ b ∷ []) i ≡ Some b' = ap (λ (l : List Blob). slice_get l i) (sym blobs) ∙ at_blob in
            by_test _ (i == length ws)
            (λ t.
            let last : i ≡ length ws = grind (arith, nat_tests) in
            let last_blob : i ≡ length s.blobs = omega (arith, last, kept.count) in
            let is_b : Some b ≡ Some b' = sym (get-push_last s.blobs b) ∙ ap (λ (n : ℕ). slice_get (s.blobs ++ b ∷ []) n) (sym last_blob) ∙ at in
            let is_w : Some w ≡ Some w' = sym (get-push_last ws w) ∙ ap (λ (n : ℕ). slice_get (ws ++ w ∷ []) n) (sym last) ∙ at_window in
            let same_b : b ≡ b' = cc in
            let same_w : w ≡ w' = cc in
            subst (λ (n : ℕ). IsWindowOf limits p houses (suc n) b' w') (sym last) (subst (λ (x : WindowState WaitingUpdate). IsWindowOf limits p houses (suc (length ws)) b' x) same_w (subst (λ (x : Blob). IsWindowOf limits p houses (suc (length ws)) x w) same_b new)))
            (λ t.
            let apart : i ≡ length ws → ⊥ = λ last. grind (arith, nat_tests) in
            let apart_blob : i ≡ length s.blobs → ⊥ = λ last. apart (last ∙ kept.count) in
            kept.each i b' w' (sym (get-push_other s.blobs i b apart_blob) ∙ at) (sym (get-push_other ws i w apart) ∙ at_window));
      }

  -- an event that changes one blob
  pub replaced : (e : Event) (blob : ℕ) (b : Blob) (w : WindowState WaitingUpdate) → 1 ≤ blob → IsLegal limits (h ++ e ∷ []) → store_of limits (h ++ e ∷ []) ≡ with_blob (store_of limits h) blob b
      → IsWindowOf limits p houses blob b w → KeepsDesk limits p houses (h ++ e ∷ []) (set ws (blob - 1) w)
  replaced e blob b w some legal after new =
      let s : Store = store_of limits h in
      let index : ℕ = blob - 1 in
      let blobs : (store_of limits (h ++ e ∷ [])).blobs ≡ set s.blobs index b = ap (λ (x : Store). x.blobs) after in
      let long : length (store_of limits (h ++ e ∷ [])).blobs ≡ length s.blobs = ap length blobs ∙ length-set s.blobs index b in
      let as_many : length (set ws index w) ≡ length ws = length-set ws index w in
      record {
        legal = legal;
        page_size = kept.page_size;
        few = omega (arith, kept.few, as_many);
        count = omega (arith, kept.count, long, as_many);
        each = λ i b' w' at_blob at_window.
            let at : slice_get (set s.blobs index b) i ≡ Some b' = ap (λ (l : List Blob). slice_get l i) (sym blobs) ∙ at_blob in
            by_test _ (i == index)
            (λ t.
            let is : i ≡ index = grind (arith, nat_tests) in
            let same_b : b ≡ b' = get-set_is s.blobs index b' b (ap (λ (n : ℕ). slice_get (set s.blobs index b) n) (sym is) ∙ at) in
            let same_w : w ≡ w' = get-set_is ws index w' w (ap (λ (n : ℕ). slice_get (set ws index w) n) (sym is) ∙ at_window) in
            let id : blob ≡ suc i = omega (arith, is, some) in
            subst (λ (n : ℕ). IsWindowOf limits p houses n b' w') id (subst (λ (x : WindowState WaitingUpdate). IsWindowOf limits p houses blob b' x) same_w (subst (λ (x : Blob). IsWindowOf limits p houses blob x w) same_b new)))
            (λ t.
            let apart : i ≡ index → ⊥ = λ is. grind (arith, nat_tests) in
            kept.each i b' w' (sym (get-set_other s.blobs index i b apart) ∙ at) (sym (get-set_other ws index i w apart) ∙ at_window));
      }
