-- The numbering of an update.
use Rattle.std.proofs.Common.{◌≡◌, ℕ, ◌+◌, ◌-◌, ◌<◌, ◌≤◌, ◌==◌, Bool, false, List, [], ◌∷◌, ◌++◌, length, map, take, get_or, set, zero, suc, refl, sym, ◌∙◌, ap, subst, arith, length-append, Global}
use Rattle.std.specs.Prelude.{Option, Some, None, is_some}
use Rattle.std.proofs.Math.Seq.{take-length}
use Rattle.std.proofs.lemmas.List.{get_or_push, length-map}
use Rattle.std.proofs.lemmas.Bool.Decides.{nat_tests}
use Rattle.blob_model.specs.Limits.{Bounds}
use Rattle.blob_model.specs.Content.{Update, offset_of}
use Rattle.blob_model.specs.Store.{Store, Blob, blob_at, assigned, size_now, size_with, and_update, with_blob, is_finished}
use Rattle.blob_model.specs.Answer.{Answered, answer, first_refusal, unless_refused, refuse, offset_past_size, blob_too_big, too_many_versions, too_many_open}
use Rattle.blob_model.specs.History.{store_of}
use Rattle.blob_model.specs.declared.call.Place.{Place}
use Rattle.blob_model.specs.declared.call.Call.TheVariants as Calls
use Rattle.blob_model.specs.declared.call.Event.{Event}
use Rattle.blob_model.specs.declared.call.Event.TheVariants as Events
use Rattle.blob_model.specs.declared.call.Outcome.TheVariants as Outcomes
use Rattle.blob_model.specs.declared.call.Refusal.{Refusal}
use Rattle.blob_model.specs.declared.call.Refusal.TheVariants as Refusals
use Rattle.range_log.specs.Updates.{update_at, extents, no_update}
use Rattle.std.specs.declared.sync.Arc.{Arc}
use Rattle.std.specs.Arc.{arc_value}
use Rattle.page_store.specs.declared.stored.Pages.{Pages}
use Rattle.page_store.specs.House.{House}
use Rattle.page_store.specs.Stored.{Cut, bytes_of_pages}
use Rattle.version_manager.specs.declared.entry.Change.TheVariants as Changes
use Rattle.version_manager.specs.declared.entry.Entry.{Entry}
use Rattle.version_manager.specs.declared.waiting.WaitingUpdate.{WaitingUpdate}
use Rattle.version_manager.specs.Entries.{event_of}
use Rattle.border_hints.specs.Numbered.{NumberedUpdate, IsTicketAmong}
use Rattle.publisher.specs.Windows.{Numbered, WindowState}
use Rattle.version_manager.specs.Desks.{DeskState, updates_or_none, updates_in, finished_or_not, OnRefused, IsTicketOf, IsUnfinished, refusal_in}
use Rattle.version_manager.specs.declared.fault.DeskFault.{DeskFault}
use Rattle.version_manager.specs.declared.fault.DeskFault.TheVariants.{Refused, NoMemory}
use Rattle.version_manager.specs.DeskInvariant.{Keeps, AreWaiting, KeepsDesk, update_tests}
use Rattle.version_manager.proofs.Stores.{store_after, legal_after, unless_none, unless_some, in_blob_here, in_blob_none, store_limits}
use Rattle.blob_model.proofs.Marks.{blob_at-with}
use Rattle.version_manager.proofs.Desks.{pushed_event, absent, window_of, replaced, IsHere}

-- ---- the entry of a numbering
pub numbered_event : (old room new : List Entry) (caller blob : ℕ) (place : Place) (pages : Arc Pages Global) (q : Cut) → room ≡ old
    → new ≡ room ++ record { caller = caller; change = Changes.Assign blob place pages } ∷ [] → arc_value pages ≡ q
    → map event_of new ≡ map event_of old ++ Events.Assign caller blob place (bytes_of_pages q.pages) ∷ []
numbered_event old room new caller blob place pages q same e is =
    let entry : Entry = record { caller = caller; change = Changes.Assign blob place pages } in
    pushed_event old new entry (e ∙ ap (λ (l : List Entry). l ++ entry ∷ []) same) ∙ ap (λ (x : Cut). map event_of old ++ Events.Assign caller blob place (bytes_of_pages x.pages) ∷ []) is

-- ---- a ticket of the last update
last_update : (us : List Update) (u : Update) (v : ℕ) → v ≡ length us + 1 → update_at (us ++ u ∷ []) v ≡ u
last_update us u v e =
    let n : v ≡ suc (length us) = omega (arith, e) in
    ap (λ (k : ℕ). update_at (us ++ u ∷ []) k) n ∙ get_or_push us u no_update (length us) refl

all_taken : (us : List Update) (u : Update) (v : ℕ) → v ≡ length us + 1 → take v (us ++ u ∷ []) ≡ us ++ u ∷ []
all_taken us u v e =
    let n : v ≡ length (us ++ u ∷ []) = omega (arith, e, length-append us (u ∷ [])) in
    ap (λ (k : ℕ). take k (us ++ u ∷ [])) n ∙ take-length (us ++ u ∷ [])

pub is_ticket : (d : DeskState) (t : NumberedUpdate) (us : List Update) (u : Update) → updates_in d t.blob ≡ us ++ u ∷ [] → t.version ≡ length us + 1 → t.snapshot.page_size ≡ d.page_size
    → u.caller ≡ t.caller → bytes_of_pages t.pages.pages ≡ u.bytes → IsTicketAmong t (extents (us ++ u ∷ [])) → IsTicketOf d t
is_ticket d t us u is version page caller bytes stands =
    let v : ℕ = t.version in
    let last : update_at (updates_in d t.blob) v ≡ u = ap (λ (l : List Update). update_at l v) is ∙ last_update us u v version in
    let taken : take v (updates_in d t.blob) ≡ us ++ u ∷ [] = ap (λ (l : List Update). take v l) is ∙ all_taken us u v version in
    let S : List Update → Type 0 = λ l. IsTicketAmong t (extents l) in
    record {
      page_size = page;
      numbered = omega (arith, version, ap length is, length-append us (u ∷ []));
      caller = ap (λ (x : Update). x.caller) last ∙ caller;
      stands = subst S (sym taken) stands;
      bytes = bytes ∙ sym (ap (λ (x : Update). x.bytes) last);
    }

past_false : (bs : List Bool) (i : ℕ) → length bs ≤ i → get_or (bs ++ false ∷ []) i false ≡ false
past_false [] zero le = refl
past_false [] (suc i) le = refl
past_false (b ∷ bs) zero le = absurd (omega arith)
past_false (b ∷ bs) (suc i) le = past_false bs i (omega arith)

pub is_unfinished : (d : DeskState) (blob v : ℕ) (b : Blob) (u : Update) → blob_at (store_of d.limits d.history) blob ≡ Some (and_update b u) → v ≡ length b.updates + 1 → length b.finished ≡ length b.updates → IsUnfinished d blob v
is_unfinished d blob v b u at is even =
    let some : (v == 0) ≡ false = grind (arith, nat_tests) in
    let open_yet : is_finished (and_update b u) v ≡ false = rw some (past_false b.finished (v - 1) (omega (arith, is, even))) in
    let long : length (updates_in d blob) ≡ length (b.updates ++ u ∷ []) = ap (λ o. length (updates_or_none o)) at in
    record {
      some = omega (arith, is);
      numbered = omega (arith, is, long, length-append b.updates (u ∷ []));
      unfinished = ap (λ o. finished_or_not o v) at ∙ open_yet;
    }

-- the refusal of an answer, by the first of the reasons
told : (s : Store) (o : Option Refusal) (done : Answered) → refusal_in done.1 ≡ None → refusal_in (let a : Answered = elim o [ Some r ↦ refuse s r | None ↦ done ] in a).1 ≡ o
told s (Some r) done e = refl
told s None done e = e

module _ {limits : Bounds} {p : ℕ} {houses : List House} {h : List Event} {ws : List (WindowState WaitingUpdate)} (kept : KeepsDesk limits p houses h ws) (caller blob : ℕ) (place : Place) (bytes : List ℕ) where
  abbrev pub own_update : Update
  own_update = record { caller = caller; place = place; bytes = bytes }

  abbrev pub own_event : Event
  own_event = Events.Assign caller blob place bytes

  assigning : Blob → Answered
  assigning b =
      let s : Store = store_of limits h in
      unless_refused s
      (offset_past_size b place ∷ blob_too_big s b place bytes ∷ too_many_versions s b ∷ too_many_open s b ∷ [])
      (with_blob s blob (and_update b own_update), Outcomes.Assigned (assigned b + 1) (offset_of place (size_now b)) (size_with b place bytes))

  pub assign_absent : (1 ≤ blob → length ws < blob) → (answer (store_of limits h) caller (Calls.Assign blob place bytes)).1 ≡ Outcomes.Refused (Refusals.NoBlob blob)
  unfolding assigning
  assign_absent past = ap (λ (a : Answered). a.1) (in_blob_none (store_of limits h) blob assigning (absent kept blob past))

  module _ (x : IsHere kept blob) where
    tests_is : first_refusal (update_tests (store_of limits h).limits x.b place bytes) ≡ first_refusal (update_tests limits x.b place bytes)
    tests_is = ap (λ (l : Bounds). first_refusal (update_tests l x.b place bytes)) (store_limits limits h)

    assign_at : answer (store_of limits h) caller (Calls.Assign blob place bytes) ≡ assigning x.b
    unfolding assigning
    assign_at = in_blob_here (store_of limits h) blob x.b assigning x.at

    assign_refused : (r : Refusal) → first_refusal (update_tests limits x.b place bytes) ≡ Some r → (answer (store_of limits h) caller (Calls.Assign blob place bytes)).1 ≡ Outcomes.Refused r
    unfolding assigning
    assign_refused r e = ap (λ (a : Answered). a.1) (assign_at ∙ unless_some (store_of limits h) (update_tests (store_of limits h).limits x.b place bytes) _ r (tests_is ∙ e))

    -- what it is refused for, if it is
    pub assign_told : refusal_in (answer (store_of limits h) caller (Calls.Assign blob place bytes)).1 ≡ first_refusal (update_tests limits x.b place bytes)
    unfolding assigning
    assign_told =
        ap (λ (a : Answered). refusal_in a.1) assign_at
        ∙ told (store_of limits h) (first_refusal (update_tests (store_of limits h).limits x.b place bytes)) (with_blob (store_of limits h) blob (and_update x.b own_update), Outcomes.Assigned (assigned x.b + 1) (offset_of place (size_now x.b)) (size_with x.b place bytes)) refl
        ∙ tests_is

    pub assign_fault : (fault : DeskFault) → OnRefused fault (λ r. first_refusal (update_tests limits x.b place bytes) ≡ Some r)
        → OnRefused fault (λ r. (answer (store_of limits h) caller (Calls.Assign blob place bytes)).1 ≡ Outcomes.Refused r)
    assign_fault (Refused r) e = assign_refused r e
    assign_fault NoMemory e = tt

    module _ (free : first_refusal (update_tests limits x.b place bytes) ≡ None) where
      assign_is : answer (store_of limits h) caller (Calls.Assign blob place bytes)
          ≡ (with_blob (store_of limits h) blob (and_update x.b own_update), Outcomes.Assigned (assigned x.b + 1) (offset_of place (size_now x.b)) (size_with x.b place bytes))
      unfolding assigning
      assign_is = assign_at ∙ unless_none (store_of limits h) (update_tests (store_of limits h).limits x.b place bytes) _ (tests_is ∙ free)

      pub assign_outcome : (answer (store_of limits h) caller (Calls.Assign blob place bytes)).1 ≡ Outcomes.Assigned (assigned x.b + 1) (offset_of place (size_now x.b)) (size_with x.b place bytes)
      assign_outcome = ap (λ (a : Answered). a.1) assign_is

      assign_after : store_of limits (h ++ own_event ∷ []) ≡ with_blob (store_of limits h) blob (and_update x.b own_update)
      assign_after = store_after limits h own_event _ _ assign_is

      pub assign_keeps : 1 ≤ length bytes → 1 ≤ blob → (w : WindowState WaitingUpdate) → Keeps limits w.numbered (and_update x.b own_update) → AreWaiting p houses (x.b.updates ++ own_update ∷ []) w
          → w.numbered.blob ≡ blob → w.numbered.page_size ≡ p → KeepsDesk limits p houses (h ++ own_event ∷ []) (set ws (blob - 1) w)
      assign_keeps many some w k waits id page =
          replaced kept own_event blob (and_update x.b own_update) w some (legal_after limits h own_event _ _ assign_is kept.legal many refl) assign_after
          (window_of limits p houses blob (and_update x.b own_update) w id page k waits)

      pub assign_there : blob_at (store_of limits (h ++ own_event ∷ [])) blob ≡ Some (and_update x.b own_update)
      assign_there = ap (λ (s : Store). blob_at s blob) assign_after ∙ blob_at-with (store_of limits h) blob x.b (and_update x.b own_update) x.at

-- ---- as many marks as updates
pub even_of : (limits : Bounds) (b : Blob) (w : Numbered) → Keeps limits w b → length w.rows ≡ length w.log → length b.finished ≡ length b.updates
even_of limits b w k even = ap length k.finished ∙ length-map w.rows is_some ∙ even ∙ sym k.stands.counted
