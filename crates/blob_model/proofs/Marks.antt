-- Which versions of a store's blobs are finished, as events come.
use Rattle.std.proofs.Common.{◌≡◌, ℕ, ◌+◌, ◌-◌, ◌<◌, ◌≤◌, ◌==◌, ◌&&◌, ◌||◌, nat_lt, Bool, true, false, if◌then◌else◌, List, [], ◌∷◌, ◌++◌, length, set, zero, suc, refl, sym, ◌∙◌, ap, subst, arith, length-append}
use Rattle.std.specs.Prelude.{Option, Some, None, slice_get}
use Rattle.std.proofs.Math.ListN.{length-set}
use Rattle.std.proofs.lemmas.List.{length-take-le, length-replicate, get_or_append_left, get_or-set_same, get_or-set_other}
use Rattle.std.proofs.lemmas.Option.{none-some, same_Some, slice_get_within}
use Rattle.std.proofs.lemmas.Bool.Decides.{nat_tests}
use Rattle.blob_model.specs.Content.{Update}
use Rattle.blob_model.specs.Limits.{Bounds}
use Rattle.blob_model.specs.Store.{Store, Blob, blob_at, empty_store, with_blob, and_blob, and_update, is_finished, finish, branch_of, true_prefix, published}
use Rattle.blob_model.specs.Answer.{Answered, answer, refuse, first_refusal, too_many_blobs, offset_past_size, blob_too_big, too_many_versions, too_many_open, already}
use Rattle.blob_model.specs.History.{caller_of, call_of, store_from, store_of, finishes}
use Rattle.blob_model.specs.Laws.{FinishedByEvents, PublishedAreNumbered}
use Rattle.blob_model.specs.declared.call.Event.{Event}
use Rattle.blob_model.specs.declared.call.Event.TheVariants as Events
use Rattle.blob_model.specs.declared.call.Outcome.TheVariants as Outcomes
use Rattle.blob_model.specs.declared.call.Refusal.{Refusal}
use Rattle.blob_model.specs.declared.call.Refusal.TheVariants as Refusals
use Rattle.blob_model.proofs.Stays.{store_from-append}

-- ---- lists
pub get-set_same : {X : Type 0} (xs : List X) (i : ℕ) (x y : X) → slice_get xs i ≡ Some x → slice_get (set xs i y) i ≡ Some y
get-set_same [] i x y h = absurd (none-some x h)
get-set_same (a ∷ xs) zero x y h = refl
get-set_same (a ∷ xs) (suc i) x y h = get-set_same xs i x y h

pub get-set_other : {X : Type 0} (xs : List X) (i j : ℕ) (y : X) → (j ≡ i → ⊥) → slice_get (set xs i y) j ≡ slice_get xs j
get-set_other [] i j y ne = refl
get-set_other (a ∷ xs) zero zero y ne = absurd (ne refl)
get-set_other (a ∷ xs) zero (suc j) y ne = refl
get-set_other (a ∷ xs) (suc i) zero y ne = refl
get-set_other (a ∷ xs) (suc i) (suc j) y ne = get-set_other xs i j y (λ e. ne (ap suc e))

pub get-push_other : {X : Type 0} (xs : List X) (i : ℕ) (y : X) → (i ≡ length xs → ⊥) → slice_get (xs ++ y ∷ []) i ≡ slice_get xs i
get-push_other [] zero y ne = absurd (ne refl)
get-push_other [] (suc i) y ne = refl
get-push_other (x ∷ xs) zero y ne = refl
get-push_other (x ∷ xs) (suc i) y ne = get-push_other xs i y (λ e. ne (ap suc e))

pub item_under : {X : Type 0} (none : Bool) (o : Option X) (x : X) → (if none then None else o) ≡ Some x → (none ≡ false) × (o ≡ Some x)
item_under true o x h = absurd (none-some x h)
item_under false o x h = (refl, h)

pub by_test : (P : Type 0) (t : Bool) → (t ≡ true → P) → (t ≡ false → P) → P
by_test P true f g = f refl
by_test P false f g = g refl

pub blob_at-with : (s : Store) (blob : ℕ) (b b' : Blob) → blob_at s blob ≡ Some b → blob_at (with_blob s blob b') blob ≡ Some b'
blob_at-with s blob b b' h =
    let at = item_under (blob == 0) (slice_get s.blobs (blob - 1)) b h in
    rw at.0 (get-set_same s.blobs (blob - 1) b b' at.1)

-- ---- each blob has as many marks as updates
pub IsEven : Blob → Type 0
IsEven b = length b.finished ≡ length b.updates

pub AllEven : List Blob → Type 0
AllEven [] = Unit {0}
AllEven (b ∷ bs) = IsEven b × AllEven bs

even_get : (bs : List Blob) (i : ℕ) (b : Blob) → AllEven bs → slice_get bs i ≡ Some b → IsEven b
unfolding IsEven AllEven
even_get [] i b h e = absurd (none-some b e)
even_get (x ∷ bs) zero b h e = let same : x ≡ b = same_Some x b e in subst IsEven same h.0
even_get (x ∷ bs) (suc i) b h e = even_get bs i b h.1 e

even_set : (bs : List Blob) (i : ℕ) (b : Blob) → AllEven bs → IsEven b → AllEven (set bs i b)
unfolding IsEven AllEven
even_set [] i b h e = tt
even_set (x ∷ bs) zero b h e = (e, h.1)
even_set (x ∷ bs) (suc i) b h e = (h.0, even_set bs i b h.1 e)

even_push : (bs : List Blob) (b : Blob) → AllEven bs → IsEven b → AllEven (bs ++ b ∷ [])
unfolding IsEven AllEven
even_push [] b h e = (e, tt)
even_push (x ∷ bs) b h e = (h.0, even_push bs b h.1 e)

pub even_at : (s : Store) (blob : ℕ) (b : Blob) → AllEven s.blobs → blob_at s blob ≡ Some b → IsEven b
even_at s blob b h e = even_get s.blobs (blob - 1) b h (item_under (blob == 0) (slice_get s.blobs (blob - 1)) b e).1

even_update : (b : Blob) (u : Update) → IsEven b → IsEven (and_update b u)
unfolding IsEven
even_update b u e = length-append b.finished (false ∷ []) ∙ ap (λ (n : ℕ). n + 1) e ∙ sym (length-append b.updates (u ∷ []))

even_finish : (b : Blob) (version : ℕ) → IsEven b → IsEven (finish b version)
unfolding IsEven
even_finish b version e = length-set b.finished (version - 1) true ∙ e

pub prefix_within : (bs : List Bool) → true_prefix bs ≤ length bs
prefix_within [] = omega arith
prefix_within (true ∷ bs) = let more = prefix_within bs in omega (arith, more)
prefix_within (false ∷ bs) = omega arith

even_branch : (b : Blob) (version : ℕ) → IsEven b → version ≤ published b → IsEven (branch_of b version)
unfolding IsEven
even_branch b version e within =
    let few : version ≤ length b.updates = omega (arith, prefix_within b.finished, e, within) in
    length-replicate version true ∙ sym (length-take-le version b.updates few)

-- ---- refused or not
unless_either : (s : Store) (f : Option Refusal) (done : Answered) (P : Answered → Type 0) → ((r : Refusal) → P (refuse s r)) → (f ≡ None → P done) →
    P (elim f [ Some r ↦ refuse s r | None ↦ done ])
unless_either s None done P p q = q refl
unless_either s (Some r) done P p q = p r

there_or_not : (s : Store) (blob : ℕ) (o : Option Blob) (f : Blob → Answered) (P : Answered → Type 0) → (o ≡ None → P (refuse s (Refusals.NoBlob blob))) → ((b : Blob) → o ≡ Some b → P (f b)) →
    P (elim o [ None ↦ refuse s (Refusals.NoBlob blob) | Some b ↦ f b ])
there_or_not s blob None f P p q = p refl
there_or_not s blob (Some b) f P p q = q b refl

passed : (t : Bool) (r : Refusal) (o : Option Refusal) → (if t then Some r else o) ≡ None → t ≡ false
passed true r o e = let no : ⊥ = cc in absurd no
passed false r o e = refl

abbrev HasEven : Answered → Type 0
HasEven a = AllEven a.0.blobs

-- an event leaves as many marks as updates
pub event_even : (s : Store) (e : Event) → AllEven s.blobs → AllEven (answer s (caller_of e) (call_of e)).0.blobs
unfolding IsEven
event_even s (Events.Create caller) h =
    unless_either s (first_refusal (too_many_blobs s ∷ [])) (and_blob s (record { updates = []; finished = [] }), Outcomes.Blob (length s.blobs + 1)) (λ (a : Answered). HasEven a)
    (λ r. h) (λ free. even_push s.blobs (record { updates = []; finished = [] }) h refl)
event_even s (Events.Assign caller blob place bytes) h =
    there_or_not s blob (blob_at s blob) _ (λ (a : Answered). HasEven a) (λ r. h) (λ b here.
    unless_either s (first_refusal (offset_past_size b place ∷ blob_too_big s b place bytes ∷ too_many_versions s b ∷ too_many_open s b ∷ [])) _ (λ (a : Answered). HasEven a) (λ r. h)
    (λ free. even_set s.blobs (blob - 1) _ h (even_update b _ (even_at s blob b h here))))
event_even s (Events.Finish caller blob version) h =
    there_or_not s blob (blob_at s blob) _ (λ (a : Answered). HasEven a) (λ r. h) (λ b here.
    unless_either s (first_refusal (already b version ∷ [])) _ (λ (a : Answered). HasEven a) (λ r. h)
    (λ free. even_set s.blobs (blob - 1) _ h (even_finish b version (even_at s blob b h here))))
event_even s (Events.Branch caller blob version) h =
    there_or_not s blob (blob_at s blob) _ (λ (a : Answered). HasEven a) (λ r. h) (λ b here.
    unless_either s (if nat_lt (published b) version then Some (Refusals.NotPublished version (published b)) else first_refusal (too_many_blobs s ∷ [])) _ (λ (a : Answered). HasEven a) (λ r. h)
    (λ free. let t = passed (nat_lt (published b) version) _ _ free in
    let within : version ≤ published b = grind (arith, nat_tests) in
    even_push s.blobs (branch_of b version) h (even_branch b version (even_at s blob b h here) within)))

from_even : (s : Store) (es : List Event) → AllEven s.blobs → AllEven (store_from s es).blobs
from_even s [] h = h
from_even s (e ∷ es) h = from_even (answer s (caller_of e) (call_of e)).0 es (event_even s e h)

pub no_blobs : AllEven []
unfolding AllEven
no_blobs = tt

pub even_is : (b : Blob) → IsEven b → length b.finished ≡ length b.updates
unfolding IsEven
even_is b e = e

pub marks_fit : (limits : Bounds) (history : List Event) (id : ℕ) (b : Blob) → blob_at (store_of limits history) id ≡ Some b → length b.finished ≡ length b.updates
marks_fit limits history id b is = even_is b (even_at (store_of limits history) id b (from_even (empty_store limits) history no_blobs) is)

-- ---- one version
-- the version is one of the blob's, and finished or not as m tells
record IsMarked (s : Store) (id version : ℕ) (m : Bool) : Type 0 where
  b : Blob
  at : blob_at s id ≡ Some b
  within : version ≤ length b.finished
  mark : is_finished b version ≡ m

or_false : (m : Bool) → (m || false) ≡ m
or_false true = refl
or_false false = refl

or_or : (a b c : Bool) → ((a || (b || false)) || c) ≡ (a || (b || c))
or_or true b c = refl
or_or false true c = refl
or_or false false c = refl

same_mark : (s : Store) (id version : ℕ) (m m' : Bool) → m' ≡ m → IsMarked s id version m → IsMarked s id version m'
same_mark s id version m m' e k = record { b = k.b; at = k.at; within = k.within; mark = k.mark ∙ sym e }

marked_more : (s : Store) (id version : ℕ) (m : Bool) (x : Blob) → IsMarked s id version m → IsMarked (and_blob s x) id version m
marked_more s id version m x k =
    let i = item_under (id == 0) (slice_get s.blobs (id - 1)) k.b k.at in
    let inside : id - 1 < length s.blobs = slice_get_within s.blobs (id - 1) k.b i.1 in
    let apart : id - 1 ≡ length s.blobs → ⊥ = λ e. omega arith in
    record { b = k.b; at = rw i.0 (get-push_other s.blobs (id - 1) x apart ∙ i.1); within = k.within; mark = k.mark }

pub apart_from : (id other : ℕ) → id - 1 ≡ other - 1 → (id == 0) ≡ false → (other == 0) ≡ false → (id == other) ≡ false → ⊥
apart_from id other e some there apart = grind (arith, nat_tests)

-- where one blob is replaced
marked_with : (s : Store) (other : ℕ) (before after : Blob) → blob_at s other ≡ Some before → (id version : ℕ) (m m' : Bool) → IsMarked s id version m
    → ((other == id) ≡ false → m' ≡ m)
    → ((other == id) ≡ true → version ≤ length before.finished → is_finished before version ≡ m → (version ≤ length after.finished) × (is_finished after version ≡ m'))
    → IsMarked (with_blob s other after) id version m'
marked_with s other before after is id version m m' k stays goes =
    by_test _ (other == id)
    (λ t.
    let here : id ≡ other = grind (arith, nat_tests) in
    let was : k.b ≡ before = same_Some k.b before (sym k.at ∙ ap (λ (i : ℕ). blob_at s i) here ∙ is) in
    let now = goes t (subst (λ (b : Blob). version ≤ length b.finished) was k.within) (ap (λ (b : Blob). is_finished b version) (sym was) ∙ k.mark) in
    record { b = after; at = ap (λ (i : ℕ). blob_at (with_blob s other after) i) here ∙ blob_at-with s other before after is; within = now.0; mark = now.1 })
    (λ t.
    let i = item_under (id == 0) (slice_get s.blobs (id - 1)) k.b k.at in
    let j = item_under (other == 0) (slice_get s.blobs (other - 1)) before is in
    let flip : (id == other) ≡ false = grind (arith, nat_tests) in
    let apart : id - 1 ≡ other - 1 → ⊥ = λ e. apart_from id other e i.0 j.0 flip in
    record { b = k.b; at = rw i.0 (get-set_other s.blobs (other - 1) (id - 1) after apart ∙ i.1); within = k.within; mark = k.mark ∙ sym (stays t) })

finished_more : (b : Blob) (u : Update) (version : ℕ) → 1 ≤ version → version ≤ length b.finished → is_finished (and_update b u) version ≡ is_finished b version
finished_more b u version some within =
    let t : (version == 0) ≡ false = grind (arith, nat_tests) in
    rw t (get_or_append_left b.finished (false ∷ []) false (version - 1) (omega arith))

pub finished_same : (b : Blob) (version : ℕ) → 1 ≤ version → version ≤ length b.finished → is_finished (finish b version) version ≡ true
finished_same b version some within =
    let t : (version == 0) ≡ false = grind (arith, nat_tests) in
    rw t (get_or-set_same b.finished (version - 1) true false (omega arith))

finished_beside : (b : Blob) (other version : ℕ) → 1 ≤ version → is_finished b other ≡ false → (other == version) ≡ false → is_finished (finish b other) version ≡ is_finished b version
finished_beside b other version some fresh ne =
    let t : (version == 0) ≡ false = grind (arith, nat_tests) in
    let first : (other == 0) ≡ false = by_test _ (other == 0) (λ z. let no : true ≡ false = rw z at fresh in cc) (λ z. z) in
    let places : version - 1 ≡ other - 1 → ⊥ = λ same. grind (arith, nat_tests) in
    rw t (get_or-set_other b.finished (other - 1) (version - 1) true false places)

-- ---- one event
abbrev Marks : ℕ → ℕ → Bool → Answered → Type 0
Marks id version m a = IsMarked a.0 id version m

-- a finish that is refused in the blob finds the version finished
again : (id on version ended : ℕ) (m m' : Bool) (b : Blob) → ((on == id) ≡ true → is_finished b version ≡ m) → is_finished b ended ≡ true → m' ≡ (m || (((on == id) && (ended == version)) || false)) → m' ≡ m
again id on version ended true m' b is already e = e
again id on version ended false m' b is already e = by_test _ (on == id)
    (λ t. by_test _ (ended == version)
    (λ v. let same : ended ≡ version = grind (arith, nat_tests) in
    let no : true ≡ false = sym already ∙ ap (λ (n : ℕ). is_finished b n) same ∙ is t in cc)
    (λ v. e ∙ (rw t (rw v refl))))
    (λ t. e ∙ (rw t refl))

refused_already : (t : Bool) (r : Refusal) (x : Refusal) → (if t then Some r else None) ≡ Some x → t ≡ true
refused_already true r x e = refl
refused_already false r x e = let no : ⊥ = cc in absurd no

unless_known : (s : Store) (f : Option Refusal) (done : Answered) (P : Answered → Type 0) → ((r : Refusal) → f ≡ Some r → P (refuse s r)) → (f ≡ None → P done) →
    P (elim f [ Some r ↦ refuse s r | None ↦ done ])
unless_known s None done P p q = q refl
unless_known s (Some r) done P p q = p r refl

or_true : (m : Bool) → (m || true) ≡ true
or_true true = refl
or_true false = refl

mark_of : (s : Store) (on id version : ℕ) (m : Bool) (b : Blob) → blob_at s on ≡ Some b → IsMarked s id version m → (on == id) ≡ true → is_finished b version ≡ m
mark_of s on id version m b at k t =
    let here : id ≡ on = grind (arith, nat_tests) in
    let was : k.b ≡ b = same_Some k.b b (sym k.at ∙ ap (λ (i : ℕ). blob_at s i) here ∙ at) in
    ap (λ (x : Blob). is_finished x version) (sym was) ∙ k.mark

missing : (s : Store) (on id version : ℕ) (m : Bool) → IsMarked s id version m → blob_at s on ≡ None → (on == id) ≡ true → ⊥
missing s on id version m k none t =
    let here : on ≡ id = grind (arith, nat_tests) in
    none-some k.b (sym none ∙ ap (λ (i : ℕ). blob_at s i) here ∙ k.at)

event_marked : (s : Store) (e : Event) (id version : ℕ) (m : Bool) → 1 ≤ version → IsMarked s id version m → IsMarked (answer s (caller_of e) (call_of e)).0 id version (m || finishes id version (e ∷ []))
event_marked s (Events.Create caller) id version m some k =
    same_mark _ id version m _ (or_false m) (unless_either s (first_refusal (too_many_blobs s ∷ [])) (and_blob s (record { updates = []; finished = [] }), Outcomes.Blob (length s.blobs + 1)) (Marks id version m)
    (λ r. k) (λ free. marked_more s id version m (record { updates = []; finished = [] }) k))
event_marked s (Events.Assign caller on place bytes) id version m some k =
    same_mark _ id version m _ (or_false m) (there_or_not s on (blob_at s on) _ (Marks id version m) (λ r. k) (λ b at.
    unless_either s (first_refusal (offset_past_size b place ∷ blob_too_big s b place bytes ∷ too_many_versions s b ∷ too_many_open s b ∷ [])) _ (Marks id version m) (λ r. k) (λ free.
    let u : Update = record { caller = caller; place = place; bytes = bytes } in
    marked_with s on b (and_update b u) at id version m m k (λ t. refl) (λ t within is. (omega (arith, within, length-append b.finished (false ∷ [])), finished_more b u version some within ∙ is)))))
event_marked s (Events.Finish caller on ended) id version m some k =
    let m' : Bool = m || (((on == id) && (ended == version)) || false) in
    let stays : (on == id) ≡ false → m' ≡ m = λ t. rw t (or_false m) in
    there_or_not s on (blob_at s on) _ (Marks id version m')
    (λ r. same_mark s id version m m' (by_test _ (on == id) (λ t. absurd (missing s on id version m k r t)) stays) k)
    (λ b at. unless_known s (first_refusal (already b ended ∷ [])) _ (Marks id version m')
    (λ r is. same_mark s id version m m' (again id on version ended m m' b (λ t. mark_of s on id version m b at k t) (refused_already (is_finished b ended) _ r is) refl) k)
    (λ free. let fresh : is_finished b ended ≡ false = passed (is_finished b ended) _ _ free in
    marked_with s on b (finish b ended) at id version m m' k stays (λ t within is. (
      omega (arith, within, length-set b.finished (ended - 1) true),
      by_test _ (ended == version)
          (λ v. let same : ended ≡ version = grind (arith, nat_tests) in
          ap (λ (n : ℕ). is_finished (finish b n) version) same ∙ finished_same b version some within ∙ sym (rw t (rw v (or_true m))))
          (λ v. finished_beside b ended version some fresh v ∙ is ∙ sym (rw t (rw v (or_false m)))),
    ))))
event_marked s (Events.Branch caller on ended) id version m some k =
    same_mark _ id version m _ (or_false m) (there_or_not s on (blob_at s on) _ (Marks id version m) (λ r. k) (λ b at.
    unless_either s (if nat_lt (published b) ended then Some (Refusals.NotPublished ended (published b)) else first_refusal (too_many_blobs s ∷ [])) _ (Marks id version m) (λ r. k) (λ free. marked_more s id version m _ k)))

-- events one after another
more_events : (id version : ℕ) (m : Bool) (e : Event) (es : List Event) → (m || finishes id version (e ∷ es)) ≡ ((m || finishes id version (e ∷ [])) || finishes id version es)
more_events id version m (Events.Create caller) es = ap (λ (x : Bool). x || finishes id version es) (sym (or_false m))
more_events id version m (Events.Assign caller on place bytes) es = ap (λ (x : Bool). x || finishes id version es) (sym (or_false m))
more_events id version m (Events.Finish caller on ended) es = sym (or_or m ((on == id) && (ended == version)) (finishes id version es))
more_events id version m (Events.Branch caller on ended) es = ap (λ (x : Bool). x || finishes id version es) (sym (or_false m))

from_marked : (s : Store) (es : List Event) (id version : ℕ) (m : Bool) → 1 ≤ version → IsMarked s id version m → IsMarked (store_from s es) id version (m || finishes id version es)
from_marked s [] id version m some k = same_mark s id version m _ (or_false m) k
from_marked s (e ∷ es) id version m some k =
    let next = event_marked s e id version m some k in
    let rest = from_marked (answer s (caller_of e) (call_of e)).0 es id version (m || finishes id version (e ∷ [])) some next in
    same_mark _ id version _ _ (more_events id version m e es) rest

pub finished_by : FinishedByEvents
finished_by limits history more id version old new is is_new within = by_test _ (version == 0)
    (λ t. rw t refl)
    (λ t.
    let some : 1 ≤ version = grind (arith, nat_tests) in
    let s : Store = store_of limits history in
    let even = marks_fit limits history id old is in
    let k = from_marked s more id version (is_finished old version) some (record { b = old; at = is; within = omega (arith, even, within); mark = refl }) in
    let there : blob_at (store_of limits (history ++ more)) id ≡ Some k.b = ap (λ (x : Store). blob_at x id) (store_from-append (empty_store limits) history more) ∙ k.at in
    let same : new ≡ k.b = same_Some new k.b (sym is_new ∙ there) in
    ap (λ (b : Blob). is_finished b version) same ∙ k.mark)

pub published_within : PublishedAreNumbered
published_within limits history id b is =
    let even = marks_fit limits history id b is in
    omega (arith, prefix_within b.finished, even)
