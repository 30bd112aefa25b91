-- Prefixes of finished updates, and the lists that waiting updates make.
use Rattle.std.proofs.Common.{◌≡◌, ℕ, zero, suc, ◌+◌, ◌<◌, ◌≤◌, Bool, true, false, List, [], ◌∷◌, ◌++◌, length, map, arith, refl, ap, get_or, set, is_some}
use Rattle.std.specs.Prelude.{replicate}
use Rattle.blob_model.specs.Content.{Update, size_of}
use Rattle.blob_model.specs.Store.{true_prefix}
use Rattle.tree_geom.specs.declared.touch.Touch.{Touch}
use Rattle.tree_geom.specs.Geometry.{no_touch}
use Rattle.range_log.specs.declared.open.OpenTouch.{OpenTouch}
use Rattle.range_log.specs.Open.{no_open}
use Rattle.range_log.specs.Updates.{extents, Replayable}
use Rattle.range_log.specs.Extents.{Extent, size_after}
use Rattle.range_log.proofs.Bytes.{size_is}
use Rattle.node_store.specs.UpdateRows.{UpdateRow}
use Rattle.publisher.specs.Windows.{opens_from}
use Rattle.publisher.specs.WindowInvariant.{present}

pub prefix_more : (bs : List Bool) → true_prefix (bs ++ false ∷ []) ≡ true_prefix bs
prefix_more [] = refl
prefix_more (true ∷ bs) = ap (λ n. 1 + n) (prefix_more bs)
prefix_more (false ∷ bs) = refl

pub prefix_set : (bs : List Bool) (i : ℕ) → true_prefix bs ≤ true_prefix (set bs i true)
prefix_set [] i = omega arith
prefix_set (true ∷ bs) zero = omega arith
prefix_set (true ∷ bs) (suc i) = omega (arith, prefix_set bs i)
prefix_set (false ∷ bs) i = omega arith

pub prefix_true : (bs : List Bool) (i : ℕ) → i < true_prefix bs → get_or bs i false ≡ true
prefix_true [] i lt = absurd (omega arith)
prefix_true (true ∷ bs) zero lt = refl
prefix_true (true ∷ bs) (suc i) lt = prefix_true bs i (omega arith)
prefix_true (false ∷ bs) i lt = absurd (omega arith)

pub prefix_whole : (n : ℕ) → true_prefix (replicate n true) ≡ n
prefix_whole zero = refl
prefix_whole (suc n) = omega (arith, prefix_whole n)

pub all_present : (rows : List UpdateRow) → map is_some (present rows) ≡ replicate (length rows) true
all_present [] = refl
all_present (r ∷ rs) = ap (λ l. true ∷ l) (all_present rs)

-- ---- waiting updates
pub opens_count : (v : ℕ) (ts : List Touch) → length (opens_from v ts) ≡ length ts
opens_count v [] = refl
opens_count v (t ∷ ts) = ap (λ n. suc n) (opens_count (v + 1) ts)

pub opens_touches : (v : ℕ) (ts : List Touch) → map (λ (o : OpenTouch). o.touch) (opens_from v ts) ≡ ts
opens_touches v [] = refl
opens_touches v (t ∷ ts) = ap (λ l. t ∷ l) (opens_touches (v + 1) ts)

pub opens_touch : (v : ℕ) (ts : List Touch) (i : ℕ) → (get_or (opens_from v ts) i no_open).touch ≡ get_or ts i no_touch
opens_touch v [] i = refl
opens_touch v (t ∷ ts) zero = refl
opens_touch v (t ∷ ts) (suc i) = opens_touch (v + 1) ts i

pub opens_first : (v : ℕ) (ts : List Touch) → 0 < length (opens_from v ts) → (get_or (opens_from v ts) 0 no_open).version ≡ v
opens_first v [] lt = absurd (omega arith)
opens_first v (t ∷ ts) lt = refl

-- ---- sizes
after_grows : (xs : List Extent) (v n : ℕ) → size_after xs v ≤ size_after xs (n + v)
after_grows xs v zero = let e : zero + v ≡ v = omega arith in omega (arith, ap (size_after xs) e)
after_grows xs v (suc n) =
    let e : suc n + v ≡ suc (n + v) = omega arith in
    omega (arith, after_grows xs v n, ap (size_after xs) e)

-- a later version is no smaller
pub sizes_grow : (us : List Update) (v n : ℕ) → Replayable us → n + v ≤ length us → size_of us v ≤ size_of us (n + v)
sizes_grow us v n ok le =
    omega (arith, after_grows (extents us) v n, size_is us v ok (omega arith), size_is us (n + v) ok le)
