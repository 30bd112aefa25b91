-- In a world that allowed steps lead to each blob is sound: no version is larger than the limit, and what is woven is the row's.
use Rattle.std.proofs.Common.{◌≡◌, ◌⊎◌, ℕ, ◌+◌, ◌≤◌, ◌<◌, zero, suc, Bool, false, List, [], ◌∷◌, ◌++◌, length, take, drop, arith, inl, inr, refl, ap, sym, subst, ◌∙◌}
use Rattle.std.specs.Prelude.{◌==◌, ◌||◌, nat_lt, Some, max}
use Rattle.std.proofs.lemmas.Bool.Decides.{nat_tests}
use Rattle.std.proofs.lemmas.Bool.{cases_lt, or_parts}
use Rattle.std.proofs.lemmas.List.{length-append, length-take-le, take-append-drop}
use Rattle.blob_model.specs.Limits.{Bounds, IsWithin}
use Rattle.blob_model.specs.Content.{Update, size_of, offset_of}
use Rattle.blob_model.specs.Store.{Store, Blob, blob_at, with_blob, and_blob, and_update, finish, branch_of, assigned, size_now, size_with, waiting}
use Rattle.blob_model.specs.Answer.{answer}
use Rattle.blob_model.specs.History.{is_refused}
use Rattle.blob_model.specs.declared.call.Place.{Place}
use Rattle.blob_model.specs.declared.call.Call.TheVariants as Calls
use Rattle.tree_geom.specs.declared.touch.Touch.{Touch}
use Rattle.tree_geom.specs.Geometry.{touched_by}
use Rattle.range_log.specs.Log.{touch_at, size_at}
use Rattle.range_log.specs.Extents.{Extent, InBounds, size_after}
use Rattle.range_log.specs.Updates.{extents, Replayable, extent_of, update_at}
use Rattle.range_log.specs.Laws.{ExtentsStand}
use Rattle.range_log.proofs.Grown.{touch-touches}
use Rattle.range_log.proofs.Bytes.{length-extents, extent_is}
use Rattle.blob_core.specs.World.{World, empty_world, log_of, bytes_of_pages}
use Rattle.blob_core.specs.Steps.{IsAllowed, IsNumberedIn, AllAllowed, after, world_after}
use Rattle.blob_core.specs.Standing.{IsSound, WeavesRow, ReachedStays}
use Rattle.blob_core.specs.declared.step.Step.{Step}
use Rattle.blob_core.specs.declared.step.Step.TheVariants as Moves
use Rattle.blob_core.proofs.Lists.{joined_some}
use Rattle.blob_core.proofs.Growing.{Cited, size_in_log, update_next, replay_next, size_same}
use Rattle.blob_core.proofs.Finding.{RowsKnown, woven_folded_is, woven_is}
use Rattle.blob_core.proofs.Taken.{create_done, assign_done, finish_done, branch_done, more_was, with_was}
use Rattle.blob_core.proofs.Keeping.{Stands, BlobStands, UpdateStands, rows_known, in_bounds, published_within, empty_stands, none_only}
use Rattle.blob_core.proofs.Running.{stands_after, step_stands}
use Rattle.blob_core.proofs.Promising.{steps_hold}
use Rattle.blob_core.proofs.Refusing.{assign_refused}

-- ---- sizes
none_small : (most v : ℕ) → v ≤ 0 → size_of [] v ≤ most
none_small most zero le = omega arith
none_small most (suc v) le = absurd (omega arith)

-- the size after one of the updates
pub size_step : (stand : ExtentsStand) (us : List Update) (k : ℕ) → Replayable us → k < length us
    → size_of us (suc k) ≡ max (size_of us k) (offset_of (update_at us (suc k)).place (size_of us k) + length (update_at us (suc k)).bytes)
size_step stand us k ok lt =
    let sizes = (stand us ok).2 in
    let here : size_after (extents us) (suc k) ≡ size_of us (suc k) = sizes (suc k) (omega arith) in
    let before : size_after (extents us) k ≡ size_of us k = sizes k (omega arith) in
    let next : Extent → ℕ → ℕ = λ x n. max n (x.at + x.len) in
    sym here
    ∙ ap (λ (x : Extent). next x (size_after (extents us) k)) (extent_is us k lt)
    ∙ ap (λ (n : ℕ). next (extent_of us (suc k)) n) before

-- what it touches
pub touch_step : (stand : ExtentsStand) (p : ℕ) (us : List Update) (k : ℕ) → Replayable us → k < length us
    → touch_at (log_of p us) (suc k) ≡ touched_by p (offset_of (update_at us (suc k)).place (size_of us k)) (length (update_at us (suc k)).bytes) (size_of us (suc k))
touch_step stand p us k ok lt =
    let of : Extent → ℕ → Touch = λ x n. touched_by p x.at x.len n in
    touch-touches p (extents us) k (omega (arith, lt, length-extents us))
    ∙ ap (λ (x : Extent). of x (size_after (extents us) (suc k))) (extent_is us k lt)
    ∙ ap (λ (n : ℕ). of (extent_of us (suc k)) n) ((stand us ok).2 (suc k) (omega arith))

-- the size of a version, by what the updates touch
pub log_size : (stand : ExtentsStand) (p : ℕ) (us : List Update) (k : ℕ) → Replayable us → k ≤ length us → size_at (log_of p us) k ≡ size_of us k
log_size stand p us k ok le = size_in_log p us k le ∙ (stand us ok).2 k le

abbrev last_size : Update → ℕ → ℕ
last_size u n = max n (offset_of u.place n + length u.bytes)

-- the size after one update more
size_next : (c : Cited) (us : List Update) (u : Update) → Replayable (us ++ u ∷ []) → size_of (us ++ u ∷ []) (suc (length us)) ≡ last_size u (size_of us (length us))
size_next c us u ok =
    let lt : length us < length (us ++ u ∷ []) = omega (arith, length-append us (u ∷ [])) in
    size_step c.stand (us ++ u ∷ []) (length us) ok lt
    ∙ ap (λ (x : Update). last_size x (size_of (us ++ u ∷ []) (length us))) (update_next us u)
    ∙ ap (λ (n : ℕ). last_size u n) (size_same us (u ∷ []) (length us) (omega arith))

-- no version of a blob is larger than the limit, and there are no more than the limit
abbrev SizesFit : ℕ → List Update → Type 0
SizesFit most us = (v : ℕ) → v ≤ length us → size_of us v ≤ most

record UpdatesFit (limits : Bounds) (us : List Update) : Type 0 where
  sizes : SizesFit limits.max_size us
  few : length us ≤ limits.max_versions

record Bounded (limits : Bounds) (s : Store) : Type 0 where
  same : s.limits ≡ limits
  fits : (blob : ℕ) (b : Blob) → blob_at s blob ≡ Some b → UpdatesFit limits b.updates

-- ---- what the steps keep
bounded_on : (limits : Bounds) (s t : Store) (at : ℕ) (new : Blob) → Bounded limits s → t.limits ≡ s.limits → UpdatesFit limits new.updates
    → ((id : ℕ) (b : Blob) → blob_at t id ≡ Some b → ((id ≡ at) × (new ≡ b)) ⊎ (blob_at s id ≡ Some b)) → Bounded limits t
bounded_on limits s t at new bound same small was = record {
  same = same ∙ bound.same;
  fits = λ id b is. elim (was id b is) [ inl here ↦ rw here.1 at small | inr old ↦ bound.fits id b old ];
}

test_small : (a b : ℕ) → nat_lt a b ≡ false → b ≤ a
test_small a b e = grind (arith, nat_tests)

-- an update that is taken leaves a size within the limit, and no more updates than the limit
update_fits : (limits : Bounds) (s : Store) (caller blob : ℕ) (place : Place) (bytes : List ℕ) (b : Blob) → Bounded limits s → blob_at s blob ≡ Some b
    → is_refused (answer s caller (Calls.Assign blob place bytes)).1 ≡ false → (size_with b place bytes ≤ limits.max_size) × (assigned b < limits.max_versions)
update_fits limits s caller blob place bytes b bound is taken =
    let others : Bool = assigned b == s.limits.max_versions || (waiting b == s.limits.max_open || false) in
    let past = or_parts (nat_lt (size_now b) (offset_of place (size_now b))) (nat_lt s.limits.max_size (size_with b place bytes) || others) (sym (assign_refused s caller blob place bytes b is) ∙ taken) in
    let big = or_parts (nat_lt s.limits.max_size (size_with b place bytes)) others past.1 in
    let many = or_parts (assigned b == s.limits.max_versions) (waiting b == s.limits.max_open || false) big.1 in
    let small : size_with b place bytes ≤ s.limits.max_size = test_small s.limits.max_size (size_with b place bytes) big.0 in
    let few : assigned b ≤ limits.max_versions = (bound.fits blob b is).few in
    (rw bound.same at small, (let apart = rw bound.same at many.0 in grind (arith, nat_tests, apart, few)))

fits_next : (c : Cited) (most : ℕ) (us : List Update) (u : Update) → Replayable (us ++ u ∷ []) → SizesFit most us → last_size u (size_of us (length us)) ≤ most → SizesFit most (us ++ u ∷ [])
fits_next c most us u ok fits small v le =
    elim (cases_lt (length us) v) [
      | inl after ↦
          (let here : v ≡ suc (length us) = omega (arith, length-append us (u ∷ [])) in
          rw here (omega (arith, size_next c us u ok)))
      | inr before ↦ omega (arith, size_same us (u ∷ []) v before, fits v before)
    ]

fits_front : (most : ℕ) (us : List Update) (n : ℕ) → n ≤ length us → SizesFit most us → SizesFit most (take n us)
fits_front most us n le fits v within =
    let count : length (take n us) ≡ n = length-take-le n us le in
    let same : size_of us v ≡ size_of (take n us) v = rw (take-append-drop n us) at (size_same (take n us) (drop n us) v within) in
    omega (arith, fits v (omega arith), same)

bounded_step : (c : Cited) (p : ℕ) (limits : Bounds) (w : World) (step : Step) → 1 ≤ p → Stands p w → Bounded limits w.store → IsAllowed p w step → Bounded limits (after p w step).store
bounded_step c p limits w (Moves.Create caller) pos s bound ok =
    let new : Blob = record { updates = []; finished = [] } in
    subst (Bounded limits) (sym (create_done w.store caller ok))
    (bounded_on limits w.store (and_blob w.store new) (suc (length w.store.blobs)) new bound refl (record { sizes = λ v le. none_small limits.max_size v le; few = omega arith }) (more_was w.store new))
bounded_step c p limits w (Moves.Assign caller blob place pages) pos s bound ok =
    let bytes : List ℕ = bytes_of_pages w.pages pages in
    let (b, is, fits, store) = assign_done w.store caller blob place bytes ok.1 in
    let u : Update = record { caller = caller; place = place; bytes = bytes } in
    let replay : Replayable (b.updates ++ u ∷ []) = replay_next b.updates u (s.blobs blob b is).replay fits (joined_some p w.pages s.pages pages ok.0) in
    let small = update_fits limits w.store caller blob place bytes b bound is ok.1 in
    subst (Bounded limits) (sym store)
    (bounded_on limits w.store (with_blob w.store blob (and_update b u)) blob (and_update b u) bound refl
    (record { sizes = fits_next c limits.max_size b.updates u replay (bound.fits blob b is).sizes small.0; few = omega (arith, length-append b.updates (u ∷ []), small.1) })
    (with_was w.store blob b (and_update b u) is))
bounded_step c p limits w (Moves.Finish caller blob version) pos s bound ok =
    let (b, is, store) = finish_done w.store caller blob version ok.0 in
    subst (Bounded limits) (sym store)
    (bounded_on limits w.store (with_blob w.store blob (finish b version)) blob (finish b version) bound refl (bound.fits blob b is) (with_was w.store blob b (finish b version) is))
bounded_step c p limits w (Moves.Branch caller blob version) pos s bound ok =
    let (b, is, le, store) = branch_done w.store caller blob version ok in
    let within : version ≤ assigned b = omega (arith, published_within p w blob b (s.blobs blob b is)) in
    let few : length (take version b.updates) ≤ limits.max_versions = omega (arith, length-take-le version b.updates within, (bound.fits blob b is).few) in
    subst (Bounded limits) (sym store)
    (bounded_on limits w.store (and_blob w.store (branch_of b version)) (suc (length w.store.blobs)) (branch_of b version) bound refl
    (record { sizes = fits_front limits.max_size b.updates version within (bound.fits blob b is).sizes; few = few }) (more_was w.store (branch_of b version)))
bounded_step c p limits w step pos s bound ok = bound

bounded_after : (c : Cited) (p : ℕ) (limits : Bounds) (w : World) (steps : List Step) → 1 ≤ p → Stands p w → Bounded limits w.store → AllAllowed p w steps
    → Bounded limits (world_after p w steps).store
bounded_after c p limits w [] pos s bound ok = bound
bounded_after c p limits w (step ∷ steps) pos s bound ok =
    bounded_after c p limits (after p w step) steps pos (step_stands c p w step pos s ok.0) (bounded_step c p limits w step pos s bound ok.0) ok.1

-- ---- a world that is reached
weaves_row : (c : Cited) (p : ℕ) (w : World) (blob : ℕ) (b : Blob) → 1 ≤ p → BlobStands p w blob b → (k : ℕ) → IsNumberedIn w blob k b → WeavesRow p w blob b k
weaves_row c p w blob b pos bs k own =
    let u : UpdateStands p w blob b k = bs.updates k own.some own.upto in
    let ok : InBounds (extents b.updates) = in_bounds c b.updates bs.replay in
    let known : RowsKnown p w blob b.updates u.kept.published = rows_known p w blob b u.kept.published bs u.front in
    record {
      kept = u.kept;
      there = rw own.own at u.there;
      bytes = u.bytes;
      folded = λ i. woven_folded_is c p w blob b u.kept k pos ok known u.before u.waiting own.upto i;
      nodes = λ r has. woven_is c p w blob b u.kept k r pos ok known u.before u.waiting own.upto has.aligned;
    }

sound : (c : Cited) (p : ℕ) (limits : Bounds) (w : World) → IsWithin limits → 1 ≤ p → Stands p w → Bounded limits w.store → (blob : ℕ) (b : Blob) → blob_at w.store blob ≡ Some b
    → IsSound p w blob b
sound c p limits w within pos s bound blob b is =
    let bs : BlobStands p w blob b = s.blobs blob b is in
    record {
      replay = bs.replay;
      marks = bs.marks;
      front = published_within p w blob b bs;
      few = omega (arith, (bound.fits blob b is).few, within.versions);
      fits = λ v le. omega (arith, (bound.fits blob b is).sizes v le, within.size);
      weaves = λ k own. weaves_row c p w blob b pos bs k own;
    }

pub reached_stays : (c : Cited) → ReachedStays
reached_stays c p w r =
    let empty : World = empty_world r.limits in
    let last : World = world_after p empty r.steps in
    let none : Bounded r.limits empty.store = record { same = refl; fits = λ blob b e. absurd (none_only (blob == 0) b e) } in
    let s : Stands p last = stands_after c p empty r.steps r.some (empty_stands p r.limits) r.allowed in
    let bound : Bounded r.limits last.store = bounded_after c p r.limits empty r.steps r.some (empty_stands p r.limits) none r.allowed in
    rw r.is
    (record {
      blobs = λ blob b is. sound c p r.limits last r.within r.some s bound blob b is;
      reads = (steps_hold c p r.limits r.steps r.some r.allowed).reads;
    })
