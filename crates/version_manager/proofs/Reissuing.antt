-- The ticket of a waiting version, by the hints of now.
use Rattle.std.proofs.Common.{◌≡◌, ℕ, zero, suc, ◌+◌, ◌-◌, ◌<◌, ◌≤◌, Bool, true, false, List, [], ◌∷◌, ◌++◌, length, take, drop, map, max, get_or, arith, refl, ap, sym, ◌∙◌, subst, take-append-drop}
use Rattle.std.specs.Prelude.{None, Some, nat_lt, if◌then◌else◌}
use Rattle.std.specs.Arc.{arc_value}
use Rattle.std.proofs.lemmas.Option.{none-some}
use Rattle.std.proofs.lemmas.Bool.{lt-ltb, le-ltb}
use lib.Seq.{take-nil, take_all}
use Rattle.std.proofs.lemmas.List.{get_or-take, length-take-le, take-append-le, take-map}
use Rattle.std.proofs.Math.Seq.{take-suc, take-add, take-length}
use Rattle.blob_model.specs.Content.{Update, size_of}
use Rattle.blob_model.specs.Limits.{Bounds}
use Rattle.blob_model.specs.Store.{Blob, blob_at, size_now}
use Rattle.blob_model.specs.Answer.{Test, first_refusal, not_numbered, already}
use Rattle.blob_model.specs.History.{store_of}
use Rattle.blob_model.specs.declared.call.Refusal.{Refusal}
use Rattle.page_store.specs.House.{House}
use Rattle.page_store.specs.Stored.{Cut, bytes_of_pages}
use Rattle.tree_geom.specs.declared.touch.Touch.{Touch}
use Rattle.tree_geom.specs.Geometry.{no_touch, touched_by}
use Rattle.range_log.specs.declared.open.OpenTouch.{OpenTouch}
use Rattle.range_log.specs.Log.{size_at}
use Rattle.range_log.specs.Open.{open_at}
use Rattle.range_log.specs.Extents.{Extent, IsLog, extent_at, size_after, touches}
use Rattle.range_log.specs.Updates.{update_at, extent_of, extents}
use Rattle.range_log.proofs.Bytes.{size_is, length-extents, extent_is, bounds_hold}
use Rattle.range_log.proofs.Grown.{touch-touches}
use Rattle.range_log.proofs.Growth.{rows_stay, extents_grow, extent_of_front}
use Rattle.snapshot.specs.Versions.{Version, IsVersion}
use Rattle.border_hints.specs.Numbered.{NumberedUpdate, log_with, own_touch, IsTicketAmong}
use Rattle.publisher.specs.Windows.{Numbered, published_of, version_of, waiting_of, opens_from}
use Rattle.publisher.proofs.Growing.{touches_first}
use Rattle.version_manager.specs.declared.waiting.WaitingUpdate.{WaitingUpdate}
use Rattle.version_manager.specs.Desks.{DeskState, updates_in, updates_or_none, finished_or_not, opens_below, IsTicketOf, IsUnfinished}
use Rattle.version_manager.specs.DeskInvariant.{Keeps, IsWaitingUpdate}
use Rattle.version_manager.proofs.BlobsTests.{first_hit}
use Rattle.blob_model.proofs.Marks.{by_test}
use Rattle.version_manager.proofs.BlobsSizes.{opens_touches, opens_first}
use Rattle.version_manager.proofs.Blobs.{leads, published_few, waiting_count, open_size, log_size, replayable_taken}
use Rattle.version_manager.proofs.BlobsNext.{front}

-- ---- the first of the waiting updates
pub opens_taken : (n v : ℕ) (ts : List Touch) → take n (opens_from v ts) ≡ opens_from v (take n ts)
opens_taken zero v ts = refl
opens_taken (suc n) v [] = refl
opens_taken (suc n) v (t ∷ ts) = ap (λ l. record { version = v; touch = t } ∷ l) (opens_taken n (v + 1) ts)

-- those below a version are the first
module _ (version v : ℕ) (o : OpenTouch) (is : o.version ≡ v) (opens : List OpenTouch) (rest : opens_below version opens ≡ take (version - (v + 1)) opens) where
  below_more : (n : ℕ) → n ≡ version - v → opens_below version (o ∷ opens) ≡ take n (o ∷ opens)
  below_more zero e =
      let none : version - (v + 1) ≡ 0 = omega arith in
      let out : nat_lt o.version version ≡ false = le-ltb o.version version (omega (arith, is)) in
      ap (λ (b : Bool). if b then o ∷ opens_below version opens else opens_below version opens) out ∙ rest ∙ ap (λ m. take m opens) none
  below_more (suc n) e =
      let next : version - (v + 1) ≡ n = omega arith in
      let first : nat_lt o.version version ≡ true = lt-ltb o.version version (omega (arith, is)) in
      ap (λ (b : Bool). if b then o ∷ opens_below version opens else opens_below version opens) first ∙ ap (λ l. o ∷ l) (rest ∙ ap (λ m. take m opens) next)

pub below_taken : (version v : ℕ) (ts : List Touch) → opens_below version (opens_from v ts) ≡ take (version - v) (opens_from v ts)
below_taken version v [] = sym (take-nil (version - v))
below_taken version v (t ∷ ts) = below_more version v record { version = v; touch = t } refl (opens_from (v + 1) ts) (below_taken version (v + 1) ts) (version - v) refl

pub drop-taken : {X : Type 0} (n m : ℕ) (xs : List X) → drop n (take m xs) ≡ take (m - n) (drop n xs)
drop-taken zero m xs = let e : m - 0 ≡ m = omega arith in sym (ap (λ k. take k xs) e)
drop-taken (suc n) zero xs = let e : zero - suc n ≡ 0 = omega arith in sym (ap (λ k. take k (drop (suc n) xs)) e)
drop-taken (suc n) (suc m) [] = sym (take-nil (suc m - suc n))
drop-taken (suc n) (suc m) (x ∷ xs) = let e : suc m - suc n ≡ m - n = omega arith in drop-taken n m xs ∙ sym (ap (λ k. take k (drop n xs)) e)

size_at-taken : (k : ℕ) (log : List Touch) → size_at (take k log) k ≡ size_at log k
size_at-taken zero log = refl
size_at-taken (suc j) log = ap (λ (t : Touch). t.size) (get_or-take (suc j) log j no_touch (omega arith))

-- ---- the first of the updates
extents_taken : (us : List Update) (v : ℕ) → v ≤ length us → extents (take v us) ≡ take v (extents us)
extents_taken us v le =
    let xs : List Extent = extents (take v us) in
    let rest = extents_grow (take v us) (drop v us) in
    let whole : extents us ≡ xs ++ rest.0 = ap extents (sym (take-append-drop v us)) ∙ rest.1 in
    let count : length xs ≡ v = length-extents (take v us) ∙ length-take-le v us le in
    sym (ap (take v) whole ∙ take-append-le v xs rest.0 (omega arith) ∙ ap (λ n. take n xs) (sym count) ∙ take-length xs)

extent_taken : (us : List Update) (i : ℕ) → i < length us → extent_at (extents (take (suc i) us)) (suc i) ≡ extent_of us (suc i)
extent_taken us i lt =
    let xs : List Update = take (suc i) us in
    let count : length xs ≡ suc i = length-take-le (suc i) us lt in
    extent_is xs i (omega arith) ∙ sym (extent_of_front xs (drop (suc i) us) i (omega arith)) ∙ ap (λ l. extent_of l (suc i)) (take-append-drop (suc i) us)

-- what the hints of a version tell: the log below it and its size, where the version is number i from 0
pub record TellBelow (us : List Update) (i : ℕ) (s : Version) (opens : List OpenTouch) : Type 0 where
  pub first : 0 < length opens → (open_at opens 0).version ≡ length s.rows + 1
  pub count : i ≡ length s.rows + length opens
  pub log : IsLog s.page_size (log_with s opens)
  pub size : size_at (log_with s opens) i ≡ size_of us i

module _ (limits : Bounds) (w : Numbered) (b : Blob) (k : Keeps limits w b) (even : length w.rows ≡ length w.log) (i : ℕ) (above : published_of w ≤ i) (upto : i ≤ length w.log) where
  abbrev n : ℕ
  n = published_of w

  abbrev us : List Update
  us = b.updates

  abbrev opens' : List OpenTouch
  opens' = take (i - n) (waiting_of w)

  taken_log : (j : ℕ) → j ≤ length us → touches w.page_size (extents (take j us)) ≡ take j w.log
  taken_log j le = ap (touches w.page_size) (extents_taken us j le) ∙ touches_first rows_stay w.page_size j (extents us) (omega (arith, length-extents us)) ∙ ap (take j) (sym k.stands.log)

  opens_count : length opens' ≡ i - n
  opens_count = length-take-le (i - n) (waiting_of w) (omega (arith, waiting_count limits w b k even, above, upto))

  module _ (is : IsVersion (version_of w)) where
    below : log_with (version_of w) opens' ≡ take i w.log
    below =
        let at : n + (i - n) ≡ i = omega (arith, above) in
        let T : OpenTouch → Touch = λ o. o.touch in
        let waits : map T opens' ≡ take (i - n) (drop n w.log) = sym (take-map T (i - n) (waiting_of w)) ∙ ap (take (i - n)) (opens_touches (n + 1) (drop n w.log)) in
        ap (λ l. l ++ map T opens') (front limits w b k even is)
        ∙ ap (λ l. take n w.log ++ l) waits
        ∙ sym (take-add n (i - n) w.log)
        ∙ ap (λ m. take m w.log) at

    tell_here : TellBelow us i (version_of w) opens'
    tell_here =
        let count = leads limits w b k even in
        let le : i ≤ length us = omega (arith, upto, k.stands.counted) in
        record {
          first = λ some.
              let e : take (i - n) (waiting_of w) ≡ opens_from (n + 1) (take (i - n) (drop n w.log)) = opens_taken (i - n) (n + 1) (drop n w.log) in
              ap (λ l. (open_at l 0).version) e ∙ opens_first (n + 1) (take (i - n) (drop n w.log)) (omega (arith, some, ap length e)) ∙ ap (λ m. m + 1) (sym count);
          count = omega (arith, count, opens_count, above);
          log = (extents (take i us), bounds_hold (take i us) (replayable_taken us i le k.stands.replayable), below ∙ sym (taken_log i le));
          size = ap (λ l. size_at l i) below ∙ size_at-taken i w.log ∙ log_size limits w b k i le;
        }

    pub tell_below : (s : Version) (opens : List OpenTouch) → s ≡ version_of w → opens ≡ opens' → TellBelow us i s opens
    tell_below s opens e f =
        let P : Version → Type 0 = λ x. TellBelow us i x opens in
        let Q : List OpenTouch → Type 0 = λ l. TellBelow us i (version_of w) l in
        subst P (sym e) (subst Q (sym f) tell_here)

-- those of the next version tell the whole log
pub tell_all : (limits : Bounds) (w : Numbered) (b : Blob) (s : Version) (opens : List OpenTouch) → Keeps limits w b → length w.rows ≡ length w.log → s ≡ version_of w → opens ≡ waiting_of w → IsVersion s
    → TellBelow b.updates (length w.log) s opens
tell_all limits w b s opens k even e f is =
    let few : length (waiting_of w) ≤ length w.log - published_of w = omega (arith, waiting_count limits w b k even) in
    tell_below limits w b k even (length w.log) (published_few limits w b k even) (omega arith) (subst IsVersion e is) s opens e (f ∙ sym (take_all (length w.log - published_of w) (waiting_of w) few))

pub size_all : (limits : Bounds) (w : Numbered) (b : Blob) (s : Version) (opens : List OpenTouch) → Keeps limits w b → length w.rows ≡ length w.log → s ≡ version_of w → opens ≡ waiting_of w → IsVersion s
    → (v : ℕ) → v ≡ length w.log → size_at (log_with s opens) v ≡ size_now b
size_all limits w b s opens k even e f is v at = ap (size_at (log_with s opens)) at ∙ (tell_all limits w b s opens k even e f is).size ∙ ap (size_of b.updates) (sym k.stands.counted)

-- ---- an update that waits, number i from 0
module _ (limits : Bounds) (w : Numbered) (b : Blob) (k : Keeps limits w b) (even : length w.rows ≡ length w.log) (i : ℕ) (above : published_of w ≤ i) (within : i < length w.log) where
  abbrev own : Extent
  own = extent_of b.updates (suc i)

  lt : i < length b.updates
  lt = omega (arith, k.stands.counted)

  pub begins : (own.at ≤ size_of b.updates i) × (1 ≤ own.len)
  begins = k.stands.replayable i lt

  pub size_next : size_of b.updates (suc i) ≡ max (size_of b.updates i) (own.at + own.len)
  size_next =
      let E : List Extent = extents b.updates in
      let with' : ℕ → Extent → ℕ = λ m x. max m (x.at + x.len) in
      sym (size_is b.updates (suc i) k.stands.replayable lt)
      ∙ ap (λ m. with' m (extent_at E (suc i))) (size_is b.updates i k.stands.replayable (omega (arith, lt)))
      ∙ ap (with' (size_of b.updates i)) (extent_is b.updates i lt)

  touch_is : get_or w.log i no_touch ≡ touched_by w.page_size own.at own.len (size_of b.updates (suc i))
  touch_is =
      let E : List Extent = extents b.updates in
      let made : Extent → ℕ → Touch = λ y m. touched_by w.page_size y.at y.len m in
      ap (λ l. get_or l i no_touch) k.stands.log
      ∙ touch-touches w.page_size E i (omega (arith, length-extents b.updates, lt))
      ∙ ap (λ y. made y (size_after E (suc i))) (extent_is b.updates i lt)
      ∙ ap (made own) (size_is b.updates (suc i) k.stands.replayable lt)

  pub waits_before : i - published_of w < length (waiting_of w)
  waits_before = omega (arith, waiting_count limits w b k even, above, within)

  -- the size after it, as it waits
  pub waits_size : (open_at (waiting_of w) (i - published_of w)).touch.size ≡ size_of b.updates (suc i)
  waits_size =
      let at : published_of w + (i - published_of w) ≡ i = omega (arith, above) in
      open_size limits w b k even (i - published_of w) waits_before ∙ ap (λ j. size_of b.updates (suc j)) at

  module _ (is : IsVersion (version_of w)) where
    pub stands_again : (t : NumberedUpdate) → t.snapshot ≡ version_of w → t.waiting ≡ take (i - published_of w) (waiting_of w) → t.version ≡ suc i → t.at ≡ own.at → t.len ≡ own.len → t.size ≡ size_of b.updates (suc i) → IsTicketAmong t (extents (take (suc i) b.updates))
    stands_again t snapshot waiting version at len size =
        let page : t.snapshot.page_size ≡ w.page_size = ap (λ (s : Version). s.page_size) snapshot in
        let touch : own_touch t ≡ get_or w.log i no_touch =
        ap (λ q. touched_by q t.at t.len t.size) page
        ∙ ap (λ m. touched_by w.page_size m t.len t.size) at
        ∙ ap (λ m. touched_by w.page_size own.at m t.size) len
        ∙ ap (touched_by w.page_size own.at own.len) size
        ∙ sym touch_is in
        let log : log_with t.snapshot t.waiting ≡ take i w.log = ap (λ s. log_with s t.waiting) snapshot ∙ ap (log_with (version_of w)) waiting ∙ below limits w b k even i above (omega (arith, within)) is in
        record {
          in_bounds = bounds_hold (take (suc i) b.updates) (replayable_taken b.updates (suc i) lt k.stands.replayable);
          touches =
              ap (λ q. touches q (extents (take (suc i) b.updates))) page
              ∙ taken_log limits w b k even i above (omega (arith, within)) (suc i) lt
              ∙ take-suc w.log i no_touch within
              ∙ ap (λ l. l ++ get_or w.log i no_touch ∷ []) (sym log)
              ∙ ap (λ x. log_with t.snapshot t.waiting ++ x ∷ []) (sym touch);
          own =
              ap (extent_at (extents (take (suc i) b.updates))) version
              ∙ extent_taken b.updates i lt
              ∙ ap (λ m. record { at = m; len = own.len }) (sym at)
              ∙ ap (λ m. record { at = t.at; len = m }) (sym len);
        }

-- ---- the ticket, of the desk
pub is_ticket_again : (d : DeskState) (t : NumberedUpdate) (us : List Update) (v p : ℕ) (houses : List House) (u : WaitingUpdate) → updates_in d t.blob ≡ us → t.version ≡ v → t.snapshot.page_size ≡ d.page_size → IsWaitingUpdate p houses us v u
    → t.caller ≡ u.caller → t.pages ≡ arc_value u.pages → IsTicketAmong t (extents (take v us)) → IsTicketOf d t
is_ticket_again d t us v p houses u is version page own caller pages stands =
    let at : update_at (updates_in d t.blob) t.version ≡ update_at us v = ap (λ (l : List Update). update_at l t.version) is ∙ ap (update_at us) version in
    let taken : take t.version (updates_in d t.blob) ≡ take v us = ap (λ (l : List Update). take t.version l) is ∙ ap (λ n. take n us) version in
    let S : List Update → Type 0 = λ l. IsTicketAmong t (extents l) in
    record {
      page_size = page;
      numbered = omega (arith, own.numbered, version, ap length is);
      caller = ap (λ (x : Update). x.caller) at ∙ sym own.caller ∙ sym caller;
      stands = subst S (sym taken) stands;
      bytes = ap (λ (q : Cut). bytes_of_pages q.pages) pages ∙ own.bytes ∙ sym (ap (λ (x : Update). x.bytes) at);
    }

-- what nothing refuses
pub none_passes : (t : Test) (ts : List Test) → None ≡ first_refusal (t ∷ ts) → (t.refuses ≡ false) × (None ≡ first_refusal ts)
none_passes t ts e = by_test _ t.refuses
    (λ hit. absurd (none-some t.refusal (e ∙ sym (first_hit t ts hit))))
    (λ pass. (pass, e ∙ ap (λ (b : Bool). if b then Some t.refusal else first_refusal ts) pass))

-- what one test refuses
pub some_hits : (t : Test) (r : Refusal) → Some r ≡ first_refusal (t ∷ []) → t.refuses ≡ true
some_hits t r e = by_test _ t.refuses (λ hit. hit) (λ pass. absurd (none-some r (sym (e ∙ ap (λ (b : Bool). if b then Some t.refusal else None) pass))))

pub is_waiting : (d : DeskState) (blob v : ℕ) (b : Blob) → blob_at (store_of d.limits d.history) blob ≡ Some b → 1 ≤ v → v ≤ length b.updates → None ≡ first_refusal (not_numbered b v ∷ already b v ∷ []) → IsUnfinished d blob v
is_waiting d blob v b at some within free =
    let marks = none_passes (already b v) [] (none_passes (not_numbered b v) (already b v ∷ []) free).1 in
    record {
      some = some;
      numbered = omega (arith, within, ap (λ o. length (updates_or_none o)) at);
      unfinished = ap (λ o. finished_or_not o v) at ∙ marks.0;
    }
