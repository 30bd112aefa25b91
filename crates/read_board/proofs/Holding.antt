-- What refreshes hold of a store stays as it goes on, and makes them rise.
use Rattle.std.proofs.Common.{◌≡◌, ℕ, zero, suc, ◌<◌, ◌≤◌, List, [], ◌∷◌, ◌++◌, length, take, Option, Some, None, refl, ap, sym, ◌∙◌, subst, arith, slice_get, get_or}
use Rattle.std.specs.Prelude.{slice_index_or}
use Rattle.std.proofs.lemmas.List.{map-append, take-append-le}
use Rattle.std.proofs.lemmas.Option.{slice_get_within, get_or_from_slice_get}
use mathlib.Core.List.{IsPrefix}
use Rattle.blob_model.specs.Content.{Update, content_from}
use Rattle.blob_model.specs.declared.call.Place.TheVariants.{WriteAt}
use Rattle.blob_model.specs.declared.call.Event.{Event}
use Rattle.blob_model.specs.Store.{Blob, blob_at, published}
use Rattle.blob_model.specs.History.{store_of}
use Rattle.blob_model.specs.Laws.{Stays, OldVersionsStay}
use Rattle.range_log.specs.Extents.{Extent, extent_at, no_extent}
use Rattle.range_log.specs.Updates.{update_at, extents, no_update}
use Rattle.range_log.specs.Laws.{ExtentsGrow, ExtentsAre}
use Rattle.node_store.specs.UpdateRows.{UpdateRow}
use Rattle.snapshot.specs.Versions.{row_at, updates, bytes_of}
use Rattle.snapshot.specs.Laws.{TellUpdates}
use Rattle.snapshot.proofs.Lists.{length-updates, update_told, update_at_front}
use Rattle.turn_lock.specs.History.{Begins}
use Rattle.version_manager.specs.Desks.{updates_or_none, published_or_none, updates_in, published_in}
use Rattle.version_manager.specs.Log.{desk_at, events}
use Rattle.version_manager.specs.declared.journal.DeskFixed.{DeskFixed}
use Rattle.read_board.specs.declared.refresh.Refresh.{Refresh}
use Rattle.read_board.specs.Refreshes.{version_of, MayFollow}
use Rattle.read_board.specs.Refreshing.{IsThere, Holds, AllHold}

-- ---- lists
pub get_taken : {A : Type 0} (n k : ℕ) (xs : List A) (d : A) → k < n → slice_index_or (take n xs) k d ≡ slice_index_or xs k d
get_taken zero k xs d lt = absurd (omega arith)
get_taken (suc n) k [] d lt = refl
get_taken (suc n) zero (x ∷ xs) d lt = refl
get_taken (suc n) (suc k) (x ∷ xs) d lt = get_taken n k xs d (omega arith)

short_of : {A : Type 0} (n : ℕ) (xs : List A) → n ≤ length (take n xs) → n ≤ length xs
short_of zero xs le = omega arith
short_of (suc n) [] le = le
short_of (suc n) (x ∷ xs) le = let rest = short_of n xs (omega arith) in omega arith

-- a list whose items are the other's first is its beginning
prefix_by : {A : Type 0} (xs ys : List A) (d : A) → length xs ≤ length ys → ((k : ℕ) → k < length xs → slice_index_or xs k d ≡ slice_index_or ys k d) → IsPrefix xs ys
prefix_by [] ys d le same = (ys, refl)
prefix_by (x ∷ xs) [] d le same = absurd (omega arith)
prefix_by (x ∷ xs) (y ∷ ys) d le same =
    let first : x ≡ y = same 0 (omega arith) in
    let rest = prefix_by xs ys d (omega arith) (λ k lt. same (suc k) (omega arith)) in
    (rest.0, cc (first, rest.1))

-- ---- what rows tell
told_at : List Update → ℕ → Update
told_at us k = record { caller = 0; place = WriteAt (extent_at (extents us) k).at; bytes = (update_at us k).bytes }

module _ (are : ExtentsAre) (p : ℕ) (us : List Update) where
  pub few_told : (rows : List UpdateRow) → TellUpdates p us rows → length rows ≤ length us
  few_told rows t =
      let count : length (take (length rows) (extents us)) ≡ length rows = sym (ap length t.fall) ∙ are (updates rows) ∙ length-updates rows in
      let short = short_of (length rows) (extents us) (omega (arith, count)) in
      omega (arith, short, are us)

  update_is : (rows : List UpdateRow) → TellUpdates p us rows → (k : ℕ) → k < length rows → update_at (updates rows) (suc k) ≡ told_at us (suc k)
  unfolding told_at
  update_is rows t k lt =
      let row = row_at rows (suc k) in
      let own = t.own.each (suc k) (omega arith) (omega arith) in
      let place : (extent_at (extents (updates rows)) (suc k)).at ≡ (extent_at (extents us) (suc k)).at =
      ap (λ (xs : List Extent). (extent_at xs (suc k)).at) t.fall ∙ ap (λ (x : Extent). x.at) (get_taken (length rows) k (extents us) no_extent lt)
      in
      let at : row.offset ≡ (extent_at (extents us) (suc k)).at = own.offset ∙ place in
      let bytes : bytes_of row ≡ (update_at us (suc k)).bytes = own.bytes ∙ t.bytes (suc k) (omega arith) in
      update_told rows k lt ∙ cc (at, bytes)

  -- of two rows of the same updates the fewer tell a beginning
  pub told_prefix : (a b : List UpdateRow) → TellUpdates p us a → TellUpdates p us b → length a ≤ length b → IsPrefix (updates a) (updates b)
  told_prefix a b ta tb le =
      prefix_by (updates a) (updates b) no_update (omega (arith, length-updates a, length-updates b, le))
      (λ k lt. update_is a ta k (omega (arith, length-updates a)) ∙ sym (update_is b tb k (omega (arith, length-updates a, le))))

  -- and they tell them among more updates too
  pub told_longer : ExtentsGrow → (later : List Update) (rows : List UpdateRow) → TellUpdates p us rows → TellUpdates p (us ++ later) rows
  told_longer grow later rows t =
      let n = length rows in
      let few = few_told rows t in
      let (rest, is) = grow us later in
      record {
        fall = t.fall ∙ (sym (take-append-le n (extents us) rest (omega (arith, few, are us))) ∙ ap (take n) (sym is));
        bytes = λ k le. t.bytes k le ∙ ap (λ (u : Update). u.bytes) (sym (update_at_front us later k (omega (arith, few))));
        leave = λ v le. t.leave v le ∙ ap (λ (l : List Update). content_from [] l) (sym (take-append-le v us later (omega (arith, few))));
        replayable = t.replayable;
        own = t.own;
      }

-- ---- what a blob becomes
pub record Grown (f : DeskFixed) (log log' : List (ℕ × Event)) (blob : ℕ) : Type 0 where
  pub later : List Update
  pub updates : updates_in (desk_at f log') blob ≡ updates_in (desk_at f log) blob ++ later
  pub published : published_in (desk_at f log) blob ≤ published_in (desk_at f log') blob

grown_case : (a b : Option Blob) → ((old : Blob) → a ≡ Some old → (new : Blob) × (b ≡ Some new) × Stays old new)
    → (later : List Update) × (updates_or_none b ≡ updates_or_none a ++ later) × (published_or_none a ≤ published_or_none b)
grown_case None b stay = (updates_or_none b, refl, omega arith)
grown_case (Some old) b stay =
    let (new, is, stays) = stay old refl in
    (stays.later, ap updates_or_none is ∙ stays.updates, subst (λ (o : Option Blob). published old ≤ published_or_none o) (sym is) stays.published)

pub grown : OldVersionsStay → (f : DeskFixed) (log log' : List (ℕ × Event)) (blob : ℕ) → Begins log log' → Grown f log log' blob
grown stay f log log' blob begins =
    let (more, is) = begins in
    let all : events log' ≡ events log ++ events more = ap events is ∙ map-append (λ (x : ℕ × Event). x.1) log more in
    let at : List Event → Option Blob = λ h. blob_at (store_of f.limits h) blob in
    let (later, updates, published) = grown_case (at (events log)) (at (events log'))
    (λ old here.
    let (new, there, stays) = stay f.limits (events log) (events more) blob old here in
    (new, ap at all ∙ there, stays))
    in
    record { later = later; updates = updates; published = published }

pub still_there : OldVersionsStay → (f : DeskFixed) (log log' : List (ℕ × Event)) (blob : ℕ) → Begins log log' → IsThere f log blob → IsThere f log' blob
still_there stay f log log' blob begins (b, here) =
    let (more, is) = begins in
    let all : events log' ≡ events log ++ events more = ap events is ∙ map-append (λ (x : ℕ × Event). x.1) log more in
    let (new, there, stays) = stay f.limits (events log) (events more) blob b here in
    (new, ap (λ (h : List Event). blob_at (store_of f.limits h) blob) all ∙ there)

module _ (stay : OldVersionsStay) (grow : ExtentsGrow) (are : ExtentsAre) (f : DeskFixed) (log log' : List (ℕ × Event)) (begins : Begins log log') where
  -- what a refresh holds it holds on
  pub holds_on : (r : Refresh) → Holds f log r → Holds f log' r
  holds_on r h =
      let g = grown stay f log log' r.blob begins in
      record {
        there = still_there stay f log log' r.blob begins h.there;
        published = omega (arith, h.published, g.published);
        tells = subst (λ (us : List Update). TellUpdates f.page_size us r.snapshot.rows) (sym g.updates) (told_longer are f.page_size (updates_in (desk_at f log) r.blob) grow g.later r.snapshot.rows h.tells);
      }

  pub all_hold_on : (rs : List Refresh) → AllHold f log rs → AllHold f log' rs
  all_hold_on rs all k x lt = holds_on (get_or rs k x) (all k x lt)

-- a refresh of the same updates with no lower version comes after those of its blob
pub may_follow : ExtentsAre → (f : DeskFixed) (log : List (ℕ × Event)) (rs : List Refresh) (r : Refresh) → AllHold f log rs → Holds f log r
    → ((a : Refresh) (i : ℕ) → slice_get rs i ≡ Some a → a.blob ≡ r.blob → version_of a ≤ version_of r) → MayFollow rs r
may_follow are f log rs r all holds below i a at same =
    let h : Holds f log a = subst (Holds f log) (get_or_from_slice_get rs i a a at) (all i a (slice_get_within rs i a at)) in
    let ta : TellUpdates f.page_size (updates_in (desk_at f log) r.blob) a.snapshot.rows = subst (λ (blob : ℕ). TellUpdates f.page_size (updates_in (desk_at f log) blob) a.snapshot.rows) same h.tells in
    told_prefix are f.page_size (updates_in (desk_at f log) r.blob) a.snapshot.rows r.snapshot.rows ta holds.tells (below a i at same)
