-- What stays as a history goes on.
use Rattle.std.proofs.Common.{◌≡◌, ℕ, ◌-◌, ◌<◌, ◌≤◌, ◌==◌, Bool, true, false, if◌then◌else◌, List, [], ◌∷◌, ◌++◌, length, take, get_or, zero, suc, refl, sym, ◌∙◌, ap, subst, arith, length-append}
use Rattle.std.specs.Prelude.{Option, Some, None, slice_get}
use Rattle.std.proofs.lemmas.List.{get_or_append_left, take-append-le, get_or-set_other}
use Rattle.std.proofs.lemmas.Option.{same_Some, slice_get_within}
use Rattle.std.proofs.lemmas.Bool.Decides.{nat_tests}
use Rattle.blob_model.specs.Limits.{Bounds}
use Rattle.blob_model.specs.Content.{Update}
use Rattle.blob_model.specs.Store.{Store, Blob, blob_at, empty_store, with_blob, and_blob, and_update, is_finished, finish}
use Rattle.blob_model.specs.Answer.{Answered, answer, refuse}
use Rattle.blob_model.specs.History.{caller_of, call_of, store_of}
use Rattle.blob_model.specs.Laws.{OldVersionsStay}
use Rattle.blob_model.specs.declared.call.Call.TheVariants as Calls
use Rattle.blob_model.specs.declared.call.Event.{Event}
use Rattle.blob_model.specs.declared.call.Event.TheVariants as Events
use Rattle.blob_model.specs.declared.call.Refusal.{Refusal}
use Rattle.blob_model.specs.declared.call.Refusal.TheVariants as Refusals
use Rattle.range_log.specs.Updates.{update_at, extents, no_update}
use Rattle.border_hints.specs.Numbered.{IsTicketAmong}
use Rattle.version_manager.specs.Desks.{updates_or_none, updates_in, finished_or_not}
use Rattle.version_manager.specs.Laws.{TicketsStay, UnfinishedStay}
use Rattle.blob_model.proofs.Marks.{get-set_other, get-push_other, item_under, blob_at-with, by_test, apart_from}
use Rattle.blob_model.proofs.Stays.{store_from-append}

-- ---- tickets
same_update : (us later : List Update) (v : ℕ) → v ≤ length us → update_at (us ++ later) v ≡ update_at us v
same_update us later zero le = refl
same_update us later (suc k) le = get_or_append_left us later no_update k (omega arith)

-- the updates of a blob go on from what they were
Longer : List Update → List Update → Type 0
Longer old new = (later : List Update) × (new ≡ old ++ later)

longer : OldVersionsStay → (limits : Bounds) (h more : List Event) (blob : ℕ) (o : Option Blob) → blob_at (store_of limits h) blob ≡ o
    → Longer (updates_or_none o) (updates_or_none (blob_at (store_of limits (h ++ more)) blob))
unfolding Longer
longer stay limits h more blob None is = (_, refl)
longer stay limits h more blob (Some b) is =
    let (new, at, stays) = stay limits h more blob b is in
    (stays.later, ap updates_or_none at ∙ stays.updates)

pub tickets : OldVersionsStay → TicketsStay
unfolding Longer
tickets stay d d' more t limits page history ticket =
    let us = updates_in d t.blob in
    let v = t.version in
    let (later, more_is) = longer stay d.limits d.history more t.blob (blob_at (store_of d.limits d.history) t.blob) refl in
    let O : Bounds → List Event → List Update = λ b l. updates_or_none (blob_at (store_of b l) t.blob) in
    let is : updates_in d' t.blob ≡ us ++ later = ap (λ (b : Bounds). O b d'.history) limits ∙ ap (λ (l : List Event). O d.limits l) history ∙ more_is in
    let same : update_at (updates_in d' t.blob) v ≡ update_at us v = ap (λ (l : List Update). update_at l v) is ∙ same_update us later v ticket.numbered in
    let taken : take v (updates_in d' t.blob) ≡ take v us = ap (λ (l : List Update). take v l) is ∙ take-append-le v us later ticket.numbered in
    let S : List Update → Type 0 = λ l. IsTicketAmong t (extents l) in
    record {
      page_size = ticket.page_size ∙ sym page;
      numbered = omega (arith, ticket.numbered, ap length is, length-append us later);
      caller = ap (λ (u : Update). u.caller) same ∙ ticket.caller;
      stands = subst S (sym taken) ticket.stands;
      bytes = ticket.bytes ∙ sym (ap (λ (u : Update). u.bytes) same);
    }

-- ---- unfinished versions
record IsOpen (s : Store) (blob version : ℕ) : Type 0 where
  b : Blob
  at : blob_at s blob ≡ Some b
  numbered : version ≤ length b.updates
  waits : is_finished b version ≡ false

open_more : (s : Store) (blob version : ℕ) (x : Blob) → IsOpen s blob version → IsOpen (and_blob s x) blob version
open_more s blob version x o =
    let i = item_under (blob == 0) (slice_get s.blobs (blob - 1)) o.b o.at in
    let within : blob - 1 < length s.blobs = slice_get_within s.blobs (blob - 1) o.b i.1 in
    let apart : blob - 1 ≡ length s.blobs → ⊥ = λ e. omega arith in
    record { b = o.b; at = rw i.0 (get-push_other s.blobs (blob - 1) x apart ∙ i.1); numbered = o.numbered; waits = o.waits }

-- where one blob is replaced
open_with : (s : Store) (other : ℕ) (before after : Blob) → blob_at s other ≡ Some before → (blob version : ℕ) → IsOpen s blob version
    → (blob ≡ other → version ≤ length before.updates → is_finished before version ≡ false → (version ≤ length after.updates) × (is_finished after version ≡ false)) → IsOpen (with_blob s other after) blob version
open_with s other before after is blob version o goes =
    by_test _ (blob == other)
    (λ t.
    let here : blob ≡ other = grind (arith, nat_tests) in
    let was : o.b ≡ before = same_Some o.b before (sym o.at ∙ ap (λ (i : ℕ). blob_at s i) here ∙ is) in
    let now = goes here (subst (λ (b : Blob). version ≤ length b.updates) was o.numbered) (ap (λ (b : Blob). is_finished b version) (sym was) ∙ o.waits) in
    record { b = after; at = ap (λ (i : ℕ). blob_at (with_blob s other after) i) here ∙ blob_at-with s other before after is; numbered = now.0; waits = now.1 })
    (λ t.
    let i = item_under (blob == 0) (slice_get s.blobs (blob - 1)) o.b o.at in
    let j = item_under (other == 0) (slice_get s.blobs (other - 1)) before is in
    let apart : blob - 1 ≡ other - 1 → ⊥ = λ e. apart_from blob other e i.0 j.0 t in
    record { b = o.b; at = rw i.0 (get-set_other s.blobs (other - 1) (blob - 1) after apart ∙ i.1); numbered = o.numbered; waits = o.waits })

-- ---- marks
more_false : (bs : List Bool) (i : ℕ) → get_or bs i false ≡ false → get_or (bs ++ false ∷ []) i false ≡ false
more_false [] zero e = refl
more_false [] (suc i) e = refl
more_false (b ∷ bs) zero e = e
more_false (b ∷ bs) (suc i) e = more_false bs i e

waits_more : (b : Blob) (u : Update) (version : ℕ) → 1 ≤ version → is_finished b version ≡ false → is_finished (and_update b u) version ≡ false
waits_more b u version some e =
    let t : (version == 0) ≡ false = grind (arith, nat_tests) in
    rw t (more_false b.finished (version - 1) (rw t at e))

waits_beside : (b : Blob) (version other : ℕ) → 1 ≤ version → is_finished b other ≡ false → (version ≡ other → ⊥) → is_finished b version ≡ false → is_finished (finish b other) version ≡ false
waits_beside b version other some fresh apart e =
    let t : (version == 0) ≡ false = grind (arith, nat_tests) in
    let first : (other == 0) ≡ false = by_test _ (other == 0) (λ z. let no : true ≡ false = rw z at fresh in cc) (λ z. z) in
    let places : version - 1 ≡ other - 1 → ⊥ = λ same. apart (grind (arith, nat_tests)) in
    rw t (get_or-set_other b.finished (other - 1) (version - 1) true false places ∙ (rw t at e))

-- ---- one event
unless_open : (s : Store) (blob version : ℕ) (o : Option Refusal) (done : Answered) → IsOpen s blob version → (o ≡ None → IsOpen done.0 blob version)
    → IsOpen (let a : Answered = elim o [ Some r ↦ refuse s r | None ↦ done ] in a).0 blob version
unless_open s blob version (Some r) done h k = h
unless_open s blob version None done h k = k refl

in_blob_open : (s : Store) (blob version other : ℕ) (o : Option Blob) (f : Blob → Answered) → blob_at s other ≡ o → IsOpen s blob version → ((b : Blob) → blob_at s other ≡ Some b → IsOpen (f b).0 blob version)
    → IsOpen (let a : Answered = elim o [ None ↦ refuse s (Refusals.NoBlob other) | Some b ↦ f b ] in a).0 blob version
in_blob_open s blob version other None f at h k = h
in_blob_open s blob version other (Some b) f at h k = k b at

fresh_one : (t : Bool) (r : Refusal) → (if t then Some r else None) ≡ None → t ≡ false
fresh_one true r e = let no : ⊥ = cc in absurd no
fresh_one false r e = refl

event_open : (s : Store) (e : Event) (blob version : ℕ) → 1 ≤ version → (call_of e ≡ Calls.Finish blob version → ⊥) → IsOpen s blob version → IsOpen (answer s (caller_of e) (call_of e)).0 blob version
event_open s (Events.Create caller) blob version some other h = unless_open s blob version _ _ h (λ free. open_more s blob version _ h)
event_open s (Events.Assign caller on place bytes) blob version some other h =
    in_blob_open s blob version on (blob_at s on) _ refl h (λ b at. unless_open s blob version _ _ h (λ free.
    let u : Update = record { caller = caller; place = place; bytes = bytes } in
    open_with s on b (and_update b u) at blob version h (λ here within waits. (omega (arith, within, length-append b.updates (u ∷ [])), waits_more b u version some waits))))
event_open s (Events.Finish caller on ended) blob version some other h =
    in_blob_open s blob version on (blob_at s on) _ refl h (λ b at. unless_open s blob version _ _ h (λ free.
    open_with s on b (finish b ended) at blob version h (λ here within waits.
    let apart : version ≡ ended → ⊥ = λ same. other (ap (λ (n : ℕ). Calls.Finish n ended) (sym here) ∙ ap (λ (n : ℕ). Calls.Finish blob n) (sym same)) in
    (within, waits_beside b version ended some (fresh_one (is_finished b ended) (Refusals.Already ended) free) apart waits))))
event_open s (Events.Branch caller on at_version) blob version some other h =
    in_blob_open s blob version on (blob_at s on) _ refl h (λ b at. unless_open s blob version _ _ h (λ free. open_more s blob version _ h))

-- ---- desks
open_of : (s : Store) (blob version : ℕ) (o : Option Blob) → blob_at s blob ≡ o → 1 ≤ version → version ≤ length (updates_or_none o) → finished_or_not o version ≡ false → IsOpen s blob version
open_of s blob version None at some within waits = absurd (omega arith)
open_of s blob version (Some b) at some within waits = record { b = b; at = at; numbered = within; waits = waits }

pub unfinished : UnfinishedStay
unfinished d d' event blob version limits history other u =
    let s = store_of d.limits d.history in
    let o = event_open s event blob version u.some other (open_of s blob version (blob_at s blob) refl u.some u.numbered u.unfinished) in
    let O : Bounds → List Event → Option Blob = λ b l. blob_at (store_of b l) blob in
    let is : O d'.limits d'.history ≡ Some o.b =
    ap (λ (b : Bounds). O b d'.history) limits ∙ ap (λ (l : List Event). O d.limits l) history ∙ ap (λ (x : Store). blob_at x blob) (store_from-append (empty_store d.limits) d.history (event ∷ [])) ∙ o.at in
    record {
      some = u.some;
      numbered = omega (arith, o.numbered, ap (λ x. length (updates_or_none x)) is);
      unfinished = ap (λ x. finished_or_not x version) is ∙ o.waits;
    }
