-- A version that isn't finished was numbered in its own blob.
use Rattle.std.proofs.Common.{◌≡◌, ℕ, ◌-◌, ◌==◌, ◌<◌, ◌≤◌, suc, zero, Bool, true, false, List, [], ◌∷◌, ◌++◌, length, refl, sym, ap, subst, ◌∙◌, arith, inl, inr, length-append}
use Rattle.std.specs.Prelude.{Option, Some, None, slice_get, slice_set, slice_index_or, replicate, if◌then◌else◌}
use Rattle.std.proofs.Math.ListN.{length-set}
use Rattle.std.proofs.lemmas.Bool.Decides.{nat_tests}
use Rattle.blob_model.specs.Content.{Update}
use Rattle.blob_model.specs.Limits.{Bounds}
use Rattle.blob_model.specs.Store.{Store, Blob, blob_at, with_blob, and_blob, and_update, finish, branch_of, is_finished, empty_store}
use Rattle.blob_model.specs.Answer.{answer}
use Rattle.blob_model.specs.History.{store_from, store_of, caller_of, call_of, IsAccepted, IsLegalFrom}
use Rattle.blob_model.specs.declared.call.Event.{Event}
use Rattle.blob_model.specs.declared.call.Event.TheVariants as Events
use Rattle.branching.specs.Parents.{origin_of}
use Rattle.branching.specs.declared.Parent.{Parent}
use Rattle.branching.proofs.Parents.{origin_older, origin_past, origin_own}
use Rattle.blob_core.proofs.Lists.{mark_next}
use Rattle.blob_core.proofs.Taken.{create_done, assign_done, finish_done, branch_done, more_was, with_was, blob_some}
use Rattle.version_manager.specs.Origins.{parents_after, parents_from, parents_of, origin_in}
use Rattle.version_manager.specs.declared.journal.DeskFixed.{DeskFixed}
use Rattle.version_manager.specs.Desks.{IsUnfinished, updates_or_none, finished_or_not}
use Rattle.version_manager.specs.Log.{IsLog, events, desk_at}
use Rattle.version_manager.proofs.Origins.{from_append, origin_from}
use Rattle.world_acts.specs.Turns.{WaitingAreOwn}
use Rattle.std.proofs.lemmas.List.{map-append}

-- ---- marks
mark_set : (ms : List Bool) (k i : ℕ) → slice_index_or (slice_set ms k true) i false ≡ false → slice_index_or ms i false ≡ false
mark_set [] k i e = e
mark_set (m ∷ ms) zero zero e = absurd (let no : ⊥ = cc in no)
mark_set (m ∷ ms) zero (suc i) e = e
mark_set (m ∷ ms) (suc k) zero e = e
mark_set (m ∷ ms) (suc k) (suc i) e = mark_set ms k i e

mark_all : (n i : ℕ) → slice_index_or (replicate n true) i false ≡ false → n ≤ i
mark_all zero i e = omega arith
mark_all (suc n) zero e = absurd (let no : ⊥ = cc in no)
mark_all (suc n) (suc i) e = let rest = mark_all n i e in omega (arith, rest)

abbrev marked : Bool → Bool → Bool
marked none m = if none then true else m

more_unfinished : (b : Blob) (u : Update) (v : ℕ) → is_finished (and_update b u) v ≡ false → is_finished b v ≡ false
more_unfinished b u v e = sym (ap (λ (m : Bool). marked (v == 0) m) (mark_next b.finished (v - 1))) ∙ e

unmarked : (none : Bool) (m : Bool) → marked none m ≡ false → (none ≡ false) × (m ≡ false)
unmarked true m e = absurd (let no : ⊥ = cc in no)
unmarked false m e = (refl, e)

set_unfinished : (b : Blob) (at v : ℕ) → is_finished (finish b at) v ≡ false → is_finished b v ≡ false
set_unfinished b at v e =
    let d = unmarked (v == 0) (slice_index_or (slice_set b.finished (at - 1) true) (v - 1) false) e in
    rw d.0 (mark_set b.finished (at - 1) (v - 1) d.1)

branch_unfinished : (b : Blob) (at v : ℕ) → is_finished (branch_of b at) v ≡ false → at < v
branch_unfinished b at v e =
    let d = unmarked (v == 0) (slice_index_or (replicate at true) (v - 1) false) e in
    let le : at ≤ v - 1 = mark_all at (v - 1) d.1 in
    let some : 1 ≤ v = grind (arith, nat_tests, d.0) in
    omega (arith, le, some)

-- ---- what each event keeps
pub record Owns (s : Store) (parents : List (Option Parent)) : Type 0 where
  pub count : length parents ≡ length s.blobs
  pub own : (blob version : ℕ) (b : Blob) → blob_at s blob ≡ Some b → is_finished b version ≡ false → origin_of parents blob version ≡ blob

owns_more : (s : Store) (x : Blob) (parents : List (Option Parent)) (next : Option Parent) → Owns s parents
    → ((version : ℕ) → is_finished x version ≡ false → origin_of (next ∷ parents) (suc (length s.blobs)) version ≡ suc (length s.blobs)) → Owns (and_blob s x) (next ∷ parents)
owns_more s x parents next o new = record {
  count = omega (arith, o.count, length-append s.blobs (x ∷ []));
  own = λ blob version b is e. elim (more_was s x blob b is) [
    | inl here ↦ rw here.0 (new version (rw here.1 e))
    | inr old ↦ origin_older next parents blob version (omega (arith, o.count, (blob_some s blob b old).1)) ∙ o.own blob version b old e
  ];
}

owns_with : (s : Store) (at : ℕ) (before x : Blob) (parents : List (Option Parent)) → blob_at s at ≡ Some before → Owns s parents
    → ((version : ℕ) → is_finished x version ≡ false → is_finished before version ≡ false) → Owns (with_blob s at x) parents
owns_with s at before x parents there o was = record {
  count = o.count ∙ sym (length-set s.blobs (at - 1) x);
  own = λ blob version b is e. elim (with_was s at before x there blob b is) [
    | inl here ↦ rw here.0 (o.own at version before there (was version (rw here.1 e)))
    | inr old ↦ o.own blob version b old e
  ];
}

owns_next : (s : Store) (parents : List (Option Parent)) (e : Event) → Owns s parents → IsAccepted s e → Owns (answer s (caller_of e) (call_of e)).0 (parents_after parents e)
owns_next s parents (Events.Create caller) o ok =
    subst (λ (t : Store). Owns t (None ∷ parents)) (sym (create_done s caller ok.accepted))
    (owns_more s (record { updates = []; finished = [] }) parents None o (λ version e. origin_past parents (suc (length s.blobs)) version (omega (arith, o.count))))
owns_next s parents (Events.Assign caller blob place bytes) o ok =
    let (b, is, fits, done) = assign_done s caller blob place bytes ok.accepted in
    let u : Update = record { caller = caller; place = place; bytes = bytes } in
    subst (λ (t : Store). Owns t parents) (sym done) (owns_with s blob b (and_update b u) parents is o (λ version e. more_unfinished b u version e))
owns_next s parents (Events.Finish caller blob version) o ok =
    let (b, is, done) = finish_done s caller blob version ok.accepted in
    subst (λ (t : Store). Owns t parents) (sym done) (owns_with s blob b (finish b version) parents is o (λ v e. set_unfinished b version v e))
owns_next s parents (Events.Branch caller blob version) o ok =
    let (b, is, le, done) = branch_done s caller blob version ok.accepted in
    let q : Parent = record { blob = blob; version = version } in
    subst (λ (t : Store). Owns t (Some q ∷ parents)) (sym done)
    (owns_more s (branch_of b version) parents (Some q) o
    (λ v e. origin_own q parents (suc (length s.blobs)) v (omega (arith, o.count)) (branch_unfinished b version v e)))

owns_from : (s : Store) (parents : List (Option Parent)) (es : List Event) → Owns s parents → IsLegalFrom s es → Owns (store_from s es) (parents_from parents es)
owns_from s parents [] o legal = o
owns_from s parents (e ∷ es) o legal = owns_from (answer s (caller_of e) (call_of e)).0 (parents_after parents e) es (owns_next s parents e o legal.0) legal.1

none_there : (id : ℕ) (t : Bool) (b : Blob) → (if t then None else slice_get [] id) ≡ Some b → ⊥
none_there id true b e = cc
none_there id false b e = cc

-- of every legal history
pub owns : (limits : Bounds) (history : List Event) → IsLegalFrom (empty_store limits) history → Owns (store_of limits history) (parents_of history)
owns limits history legal =
    owns_from (empty_store limits) [] history (record { count = refl; own = λ blob version b is e. refl }) legal

-- ---- in a desk's history
own_by : (s : Store) (parents : List (Option Parent)) (more : List Event) (blob version : ℕ) (o : Option Blob) → Owns s parents → blob_at s blob ≡ o → 1 ≤ version
    → version ≤ length (updates_or_none o) → finished_or_not o version ≡ false → origin_of (parents_from parents more) blob version ≡ blob
own_by s parents more blob version None owns is some le e = absurd (omega (arith, some, le))
own_by s parents more blob version (Some b) owns is some le e =
    origin_from parents more blob version (omega (arith, owns.count, (blob_some s blob b is).1)) ∙ owns.own blob version b is e

pub waiting_own : (f : DeskFixed) (history more : List (ℕ × Event)) (blob version : ℕ) → IsLog f history → IsUnfinished (desk_at f history) blob version
    → origin_in (events (history ++ more)) blob version ≡ blob
waiting_own f history more blob version log u =
    let s : Store = store_of f.limits (events history) in
    ap (λ (l : List Event). origin_in l blob version) (map-append (λ (x : ℕ × Event). x.1) history more)
    ∙ ap (λ (l : List (Option Parent)). origin_of l blob version) (from_append [] (events history) (events more))
    ∙ own_by s (parents_of (events history)) (events more) blob version (blob_at s blob) (owns f.limits (events history) log.legal) refl u.some u.numbered u.unfinished

pub waiting_are_own : WaitingAreOwn
waiting_are_own f history more t log u = record { some = u.some; own = waiting_own f history more t.blob t.version log u }
