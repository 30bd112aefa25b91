-- A store's blobs stay, whatever events come.
use Rattle.std.proofs.Common.{◌≡◌, ◌≢◌, ℕ, ◌+◌, ◌-◌, ◌≤◌, ◌==◌, zero, suc, Bool, true, false, if◌then◌else◌, List, [], ◌∷◌, ◌++◌, length, refl, sym, ◌∙◌, ap, subst, append_assoc, append-nil, arith}
use Rattle.std.specs.Prelude.{Option, Some, None, slice_get, slice_set}
use Rattle.std.proofs.lemmas.List.{take-append-le}
use Rattle.std.proofs.lemmas.Bool.Decides.{nat_tests}
use Rattle.blob_model.specs.Content.{Update, content, content_from}
use Rattle.blob_model.specs.Store.{Store, Blob, blob_at, with_blob, and_blob, and_update, finish, published, true_prefix}
use Rattle.blob_model.specs.Answer.{answer, refuse, Answered}
use Rattle.blob_model.specs.History.{store_from, caller_of, call_of}
use Rattle.blob_model.specs.Laws.{Stays}
use Rattle.blob_model.specs.declared.call.Event.{Event}
use Rattle.blob_model.specs.declared.call.Event.TheVariants as Events
use Rattle.blob_model.specs.declared.call.Refusal.{Refusal}
use Rattle.blob_model.specs.declared.call.Refusal.TheVariants as Refusals

-- ---- lists
pub get-set_same : (xs : List Blob) (i : ℕ) (x y : Blob) → slice_get xs i ≡ Some y → slice_get (slice_set xs i x) i ≡ Some x
get-set_same [] i x y e = (let no : ⊥ = cc in absurd no)
get-set_same (z ∷ xs) zero x y e = refl
get-set_same (z ∷ xs) (suc i) x y e = get-set_same xs i x y e

pub get-set_other : (xs : List Blob) (i j : ℕ) (x y : Blob) → j ≢ i → slice_get xs j ≡ Some y → slice_get (slice_set xs i x) j ≡ Some y
get-set_other [] i j x y apart e = e
get-set_other (z ∷ xs) zero zero x y apart e = absurd (apart refl)
get-set_other (z ∷ xs) zero (suc j) x y apart e = e
get-set_other (z ∷ xs) (suc i) zero x y apart e = e
get-set_other (z ∷ xs) (suc i) (suc j) x y apart e = get-set_other xs i j x y (λ same. apart (ap (λ (n : ℕ). suc n) same)) e

pub get-append : (xs ys : List Blob) (j : ℕ) (y : Blob) → slice_get xs j ≡ Some y → slice_get (xs ++ ys) j ≡ Some y
get-append [] ys j y e = (let no : ⊥ = cc in absurd no)
get-append (x ∷ xs) ys zero y e = e
get-append (x ∷ xs) ys (suc j) y e = get-append xs ys j y e

pub front_fewer : (b : Bool) (m n : ℕ) → m ≤ n → (if b then 1 + m else 0) ≤ (if b then 1 + n else 0)
front_fewer true m n le = omega arith
front_fewer false m n le = omega arith

pub front_all : (b : Bool) (n : ℕ) → (if b then 1 + n else 0) ≤ 1 + n
front_all true n = omega arith
front_all false n = omega arith

pub true_prefix-set : (bs : List Bool) (i : ℕ) → true_prefix bs ≤ true_prefix (slice_set bs i true)
true_prefix-set [] i = omega arith
true_prefix-set (b ∷ bs) zero = front_all b (true_prefix bs)
true_prefix-set (b ∷ bs) (suc i) = front_fewer b _ _ (true_prefix-set bs i)

pub true_prefix-append : (bs cs : List Bool) → true_prefix bs ≤ true_prefix (bs ++ cs)
true_prefix-append [] cs = omega arith
true_prefix-append (b ∷ bs) cs = front_fewer b _ _ (true_prefix-append bs cs)

-- ---- blobs
content-stays : (us later : List Update) (version : ℕ) → version ≤ length us → content (us ++ later) version ≡ content us version
content-stays us later version within = ap (λ (l : List Update). content_from [] l) (take-append-le version us later within)

stays : (old new : Blob) (later : List Update) → new.updates ≡ old.updates ++ later → published old ≤ published new → Stays old new
stays old new later e p = record {
  later = later;
  updates = e;
  content = λ version within. ap (λ (us : List Update). content us version) e ∙ content-stays old.updates later version within;
  published = p;
}

Stays-refl : (b : Blob) → Stays b b
Stays-refl b = stays b b [] (sym (append-nil b.updates)) (omega arith)

Stays-trans : (a b c : Blob) → Stays a b → Stays b c → Stays a c
Stays-trans a b c p q = stays a c (p.later ++ q.later)
    (q.updates ∙ (ap (λ (us : List Update). us ++ q.later) p.updates ∙ append_assoc a.updates p.later q.later))
    (omega (arith, p.published, q.published))

Stays-update : (b : Blob) (u : Update) → Stays b (and_update b u)
Stays-update b u = stays b (and_update b u) (u ∷ []) refl (true_prefix-append b.finished (false ∷ []))

Stays-finish : (b : Blob) (version : ℕ) → Stays b (finish b version)
Stays-finish b version = stays b (finish b version) [] (sym (append-nil b.updates)) (true_prefix-set b.finished (version - 1))

-- ---- stores
-- the blob of that id is there afterwards, and stays
StaysAt : Store → ℕ → Blob → Type 0
StaysAt s id old = (new : Blob) × (blob_at s id ≡ Some new) × Stays old new

kept_same : (s : Store) (id : ℕ) (old : Blob) → blob_at s id ≡ Some old → StaysAt s id old
unfolding StaysAt
kept_same s id old e = (old, e, Stays-refl old)

-- a blob of the store is an item of its list
pub item_of : (xs : List Blob) (none : Bool) (i : ℕ) (b : Blob) → (if none then None else slice_get xs i) ≡ Some b → (none ≡ false) × (slice_get xs i ≡ Some b)
item_of xs true i b e = let no : ⊥ = cc in absurd no
item_of xs false i b e = (refl, e)

kept_more : (s : Store) (x : Blob) (id : ℕ) (old : Blob) → blob_at s id ≡ Some old → StaysAt (and_blob s x) id old
unfolding StaysAt
kept_more s x id old e =
    let at = item_of s.blobs (id == 0) (id - 1) old e in
    let more : slice_get (s.blobs ++ x ∷ []) (id - 1) ≡ Some old = get-append s.blobs (x ∷ []) (id - 1) old at.1 in
    (old, rw at.0 more, Stays-refl old)

pub some_is : (o : Option Blob) (a b : Blob) → o ≡ Some a → o ≡ Some b → a ≡ b
some_is o a b p q = cc

apart_from : (id other : ℕ) → id - 1 ≡ other - 1 → (id == 0) ≡ false → (other == 0) ≡ false → (id == other) ≡ false → ⊥
apart_from id other e some there apart = grind (arith, nat_tests)

kept_with : (s : Store) (other : ℕ) (before after : Blob) → blob_at s other ≡ Some before → Stays before after → (id : ℕ) (old : Blob) → blob_at s id ≡ Some old →
    (same : Bool) → (id == other) ≡ same → StaysAt (with_blob s other after) id old
unfolding StaysAt
kept_with s other before after is stay id old e true same =
    let here : id ≡ other = grind (arith, nat_tests) in
    let was : slice_get s.blobs (id - 1) ≡ Some before = ap (λ (i : ℕ). slice_get s.blobs (i - 1)) here ∙ (item_of s.blobs (other == 0) (other - 1) before is).1 in
    let at = item_of s.blobs (id == 0) (id - 1) old e in
    let is_old : before ≡ old = some_is (slice_get s.blobs (id - 1)) before old was at.1 in
    let now : slice_get (slice_set s.blobs (other - 1) after) (id - 1) ≡ Some after =
    ap (λ (i : ℕ). slice_get (slice_set s.blobs (other - 1) after) (i - 1)) here ∙ get-set_same s.blobs (other - 1) after before (item_of s.blobs (other == 0) (other - 1) before is).1 in
    (after, rw at.0 now, subst (λ (b : Blob). Stays b after) is_old stay)
kept_with s other before after is stay id old e false same =
    let at = item_of s.blobs (id == 0) (id - 1) old e in
    let there = item_of s.blobs (other == 0) (other - 1) before is in
    let apart : (id - 1) ≢ (other - 1) = λ (e : id - 1 ≡ other - 1). apart_from id other e at.0 there.0 same in
    let now : slice_get (slice_set s.blobs (other - 1) after) (id - 1) ≡ Some old = get-set_other s.blobs (other - 1) (id - 1) after old apart at.1 in
    (old, rw at.0 now, Stays-refl old)

unless_kept : (s : Store) (o : Option Refusal) (done : Answered) (id : ℕ) (old : Blob) → blob_at s id ≡ Some old → StaysAt done.0 id old →
    StaysAt (let a : Answered = elim o [ Some r ↦ refuse s r | None ↦ done ] in a).0 id old
unless_kept s (Some r) done id old e k = kept_same s id old e
unless_kept s None done id old e k = k

in_blob_kept : (s : Store) (other : ℕ) (o : Option Blob) (f : Blob → Answered) (id : ℕ) (old : Blob) → blob_at s other ≡ o → blob_at s id ≡ Some old →
    ((b : Blob) → blob_at s other ≡ Some b → StaysAt (f b).0 id old) → StaysAt (let a : Answered = elim o [ None ↦ refuse s (Refusals.NoBlob other) | Some b ↦ f b ] in a).0 id old
in_blob_kept s other None f id old at e k = kept_same s id old e
in_blob_kept s other (Some b) f id old at e k = k b at

event_kept : (s : Store) (e : Event) (id : ℕ) (old : Blob) → blob_at s id ≡ Some old → StaysAt (answer s (caller_of e) (call_of e)).0 id old
event_kept s (Events.Create caller) id old is = unless_kept s _ _ id old is (kept_more s _ id old is)
event_kept s (Events.Assign caller blob place bytes) id old is =
    in_blob_kept s blob (blob_at s blob) _ id old refl is (λ b at. unless_kept s _ _ id old is (kept_with s blob b _ at (Stays-update b _) id old is (id == blob) refl))
event_kept s (Events.Finish caller blob version) id old is =
    in_blob_kept s blob (blob_at s blob) _ id old refl is (λ b at. unless_kept s _ _ id old is (kept_with s blob b _ at (Stays-finish b version) id old is (id == blob) refl))
event_kept s (Events.Branch caller blob version) id old is =
    in_blob_kept s blob (blob_at s blob) _ id old refl is (λ b at. unless_kept s _ _ id old is (kept_more s _ id old is))

pub store_kept : (s : Store) (more : List Event) (id : ℕ) (old : Blob) → blob_at s id ≡ Some old → (new : Blob) × (blob_at (store_from s more) id ≡ Some new) × Stays old new
unfolding StaysAt
store_kept s [] id old e = (old, e, Stays-refl old)
store_kept s (x ∷ xs) id old e =
    let (mid, at, stay) = event_kept s x id old e in
    let (new, is, later) = store_kept (answer s (caller_of x) (call_of x)).0 xs id mid at in
    (new, is, Stays-trans old mid new stay later)

pub store_from-append : (s : Store) (xs ys : List Event) → store_from s (xs ++ ys) ≡ store_from (store_from s xs) ys
store_from-append s [] ys = refl
store_from-append s (x ∷ xs) ys = store_from-append (answer s (caller_of x) (call_of x)).0 xs ys
