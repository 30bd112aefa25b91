-- A load's stages, by what its sessions did and what came back of them, and how it ends once its store is closed.
use Rattle.std.proofs.Common.{◌≡◌, ◌⊎◌, inr, ℕ, zero, suc, ◌+◌, ◌-◌, ◌^◌, ◌<◌, ◌≤◌, List, [], ◌∷◌, ◌++◌, length, refl, sym, ap, subst, ◌∙◌, append-nil, arith, ◌≢◌, inl}
use Rattle.std.specs.Prelude.{Contains, Result, Ok, Err, Option, Some, None, slice_index_or, sum_by}
use Rattle.std.proofs.lemmas.List.Sums.{get_or-le-sum_by}
use Rattle.std.proofs.lemmas.Bool.{cases_lt}
use Rattle.blob_model.specs.Limits.{Bounds, greatest}
use Rattle.blob_model.specs.History.{events_by, store_of, IsLegal}
use Rattle.blob_model.specs.declared.call.Event.{Event}
use Rattle.faults.specs.Counts.{RoseBy}
use Rattle.turn_lock.specs.History.{entries_by, Begins, IsUngiven, LacksUngiven}
use Rattle.turn_lock.specs.Shown.{OwnerView}
use Rattle.version_manager.specs.declared.journal.DeskFixed.{DeskFixed}
use Rattle.version_manager.specs.Log.{tagged, events}
use Rattle.version_manager.specs.Laws.{EntriesAreEvents}
use Rattle.request_form.specs.Session.{Session}
use Rattle.request_form.specs.Replies.{page_faults}
use Rattle.request_form.specs.declared.form.Fault.{Fault}
use Rattle.client_session.specs.Sessions.{StoreState, SessionState, session_of}
use Rattle.store_sessions.specs.Made.{IsNewSession}
use Rattle.workload_law.specs.declared.plan.LoadPlan.{LoadPlan}
use Rattle.workload_law.specs.declared.plan.Summary.{Summary}
use Rattle.workload_law.specs.Load.{IsSized, IsLoadPage, opened_with, HasDone, HasBegun, opening, IsLoad, IsUnderway}
use Rattle.workload_law.specs.Laws.{IsReadBack, LoadsReadBack}
use Rattle.workload_law.specs.Sessions.{FinishesItsOwn}
use Rattle.workload_law.specs.Ends.{IsOutside}
use Rattle.workload_law.specs.Closing.{OwnsStay, IdleOwnsAll, OperationHindered, SeenAlone, NobodysAreNone, OpeningsAreFirst, NothingElseHindersOpenings, NothingElseHinders}
use Rattle.workload_run.specs.Updates.{told_faults}
use Rattle.workload_run.specs.Callers.{IsFresh, CameBack, Told}
use Rattle.workload_run.specs.Work.{HasEndedEarly, WorkEnds}
use Rattle.workload_run.specs.Making.{HasDoneOwn}
use Rattle.workload_run.specs.Opening.{OpeningEnds}
use Rattle.workload_run.specs.Stages.{IsOpened, IsHalfOpened, OpensAs, HaveCome, HaveDone, HaveStopped, TellsSummary, HasLooked, LooksAs, ClosesAs, AreFinishedByOwn}
use Rattle.workload_run.specs.Look.{SummaryEnds}
use Rattle.workload_run.specs.Workers.{WorkerState, AreKept, counted_by, stop_or, AreReady, AreWorkable, HaveRun, AreBack, first_stop}
use Rattle.workload_law.proofs.OwnEvents.{none_parts}
use Rattle.workload_run.proofs.Looks.{mid_same}
use Rattle.workload_run.proofs.Returns.{fresh_at, fresh_new, own_is, own_finishes, TookBack, tags_old, stays_by, keeps_own, none_by, came_back, owns_back, tags_of_front, events_append}

-- ---- the opening

module _ {D : Type 0} (are : EntriesAreEvents) (idle : IdleOwnsAll) (stay : OwnsStay) (plan : LoadPlan) {faults : D → ℕ} {store : StoreState} (limits : store.fixed.limits ≡ greatest)
    {old new : OwnerView Event DeskFixed} {s : SessionState D} (s' : SessionState D) (fresh : IsNewSession faults store old s) (caller : s'.caller ≡ s.caller) (took : TookBack s'.caller s'.log old new)
    (none_made : old.made ≡ 0) (made : new.made ≡ 1) (out : new.out ≡ 0) where
  fresh_zero : IsFresh 0 (session_of s)
  fresh_zero = subst (λ (n : ℕ). IsFresh n (session_of s)) none_made (fresh_new are (tags_old are took) limits fresh)

  one : s'.caller ≡ 1
  one = caller ∙ fresh_zero.caller

  first_back : CameBack 1 (events s'.log) (events new.seen)
  first_back = subst (λ (c : ℕ). CameBack c (events s'.log) (events new.seen)) one (came_back are s'.caller s'.log new.seen took.tags took.begins_log took.own)

  first_owns : (own : List Event) → HasDoneOwn (session_of s) own (session_of s') → FinishesItsOwn greatest (events new.seen) 1
  first_owns own did = owns_back stay greatest 1 (events s'.log) (events new.seen) first_back (own_finishes idle 0 (session_of s) (session_of s') fresh_zero own did)

  pub opens_as : (told : Told) → OpeningEnds plan told (session_of s) (session_of s') → OpensAs plan store.fixed.page_size told new
  opens_as (Ok done) ends =
      let own : List Event = opened_with plan ends.version in
      record {
        made = made;
        out = out;
        kept = subst (λ (c : ℕ). Contains new.kept c) one (keeps_own are took);
        version = ends.version;
        opened = first_back.same ∙ own_is idle 0 (session_of s) (session_of s') fresh_zero own ends.did;
        own = first_owns own ends.did;
      }
  opens_as (Err fault) ends =
      let half : IsHalfOpened plan s.store.fixed.page_size fault new =
      record {
        made = made;
        out = out;
        own = first_owns ends.own ends.did;
        first = ends.first;
        seen = events s'.log;
        more = first_back.later;
        split = first_back.begins;
        hindered = ends.hindered;
      }
      in
      (out, inr (subst (λ (t : StoreState). IsHalfOpened plan t.fixed.page_size fault new) fresh.of_store half))

-- ---- one worker

has_begun : (plan : LoadPlan) (worker : ℕ) (s s' : Session) (told : Told) → WorkEnds plan worker told s s' → HasBegun plan worker (events_by (worker + 1) s'.seen)
has_begun plan worker s s' (Ok done) ends = ([], subst (λ (l : List Event). HasDone plan worker plan.ops l) (sym (append-nil (events_by (worker + 1) s'.seen))) ends.done)
has_begun plan worker s s' (Err fault) ends = ends.begun

has_owned : (plan : LoadPlan) (worker : ℕ) (s s' : Session) (told : Told) → WorkEnds plan worker told s s' → FinishesItsOwn greatest s'.seen (worker + 1)
has_owned plan worker s s' (Ok done) ends = ends.own
has_owned plan worker s s' (Err fault) ends = ends.own

-- ---- the first that stopped

-- a worker came to its end
abbrev pub at_end : Told
at_end = Ok tt

none_first : (told : Told) (later : Option Fault) → stop_or told later ≡ None → told ≡ at_end
none_first (Ok done) later none = refl
none_first (Err fault) later none = absurd (let no : Some fault ≡ None = none in cc)

none_stopped : (told : Told) (later : Option Fault) → stop_or told later ≡ None → later ≡ None
none_stopped (Ok done) later none = none
none_stopped (Err fault) later none = absurd (let no : Some fault ≡ None = none in cc)

module _ {D : Type 0} where
  abbrev told_at : List (WorkerState D) → ℕ → WorkerState D → Told
  told_at workers place d = (slice_index_or workers place d).told

  -- that one didn't come to its end
  pub record StoppedAt (workers : List (WorkerState D)) (fault : Fault) : Type 0 where
    pub place : ℕ
    pub within : place < length workers
    pub told : (d : WorkerState D) → told_at workers place d ≡ Err fault

  stopped_in : (worker : WorkerState D) (workers : List (WorkerState D)) (fault : Fault) (told : Told) → worker.told ≡ told → stop_or told (first_stop workers) ≡ Some fault
      → ((first_stop workers ≡ Some fault) → StoppedAt workers fault) → StoppedAt (worker ∷ workers) fault
  stopped_in worker workers fault (Ok done) is stop later = let at = later stop in record { place = suc at.place; within = omega (arith, at.within); told = at.told }
  stopped_in worker workers fault (Err other) is stop later =
      let same : other ≡ fault = (let e : Some other ≡ Some fault = stop in cc) in
      record { place = 0; within = omega arith; told = λ d. is ∙ ap (λ (f : Fault). Err f) same }

  pub stopped_at : (workers : List (WorkerState D)) (fault : Fault) → first_stop workers ≡ Some fault → StoppedAt workers fault
  stopped_at [] fault stop = absurd (let no : None ≡ Some fault = stop in cc)
  stopped_at (worker ∷ workers) fault stop = stopped_in worker workers fault worker.told refl stop (stopped_at workers fault)

  pub all_done : (workers : List (WorkerState D)) → first_stop workers ≡ None → (place : ℕ) (d : WorkerState D) → place < length workers → told_at workers place d ≡ at_end
  all_done [] none place d within = absurd (omega (arith, within))
  all_done (worker ∷ workers) none zero d within = none_first worker.told (first_stop workers) none
  all_done (worker ∷ workers) none (suc place) d within = all_done workers (none_stopped worker.told (first_stop workers) none) place d (omega (arith, within))

-- ---- all workers

-- what holds of the worker at each place holds of each worker
pub of_each : (P : ℕ → Type 0) (count : ℕ) → ((place : ℕ) → place < count → P (place + 1)) → (worker : ℕ) → 1 ≤ worker → worker ≤ count → P worker
of_each P count each zero some last = absurd (omega (arith, some))
of_each P count each (suc place) some last = let is : place + 1 ≡ suc place = omega arith in subst P is (each place (omega (arith, last)))

some_of : {X : Type 0} (xs : List X) → 0 < length xs → X
some_of [] some = absurd (omega (arith, some))
some_of (x ∷ xs) some = x

module _ {D : Type 0} (are : EntriesAreEvents) (faults : D → ℕ) (plan : LoadPlan) (sized : IsSized plan) (store : StoreState) (limits : store.fixed.limits ≡ greatest) (log : List (ℕ × Event))
    (tags_first : log ≡ tagged (events log)) (old : List (WorkerState D)) (count : length old ≡ plan.workers) (ready : AreReady faults store log old) where
  pub workable : AreWorkable plan old
  workable place d within =
      let o = slice_index_or old place d in
      let r = ready place d within in
      record {
        sized = sized;
        some = omega (arith, r.number);
        last = omega (arith, r.number, within, count);
        fresh =
            fresh_at o.session are o.number r.caller (ap (λ (t : StoreState). t.fixed.limits) r.of_store ∙ limits)
            (subst (λ (l : List (ℕ × Event)). l ≡ tagged (events l)) (sym r.seen) tags_first) (subst (λ (l : List (ℕ × Event)). entries_by (o.number + 1) l ≡ []) (sym r.seen) r.none) r.none_held r.limit;
      }

  first_worker : WorkerState D
  first_worker = some_of old (omega (arith, sized.some_workers, count))

  pub fresh_first : (worker : ℕ) → 1 ≤ worker → worker ≤ plan.workers → events_by (worker + 1) (events log) ≡ []
  fresh_first =
      of_each (λ worker. events_by (worker + 1) (events log) ≡ []) plan.workers
      (λ place within.
      let r = ready place first_worker (omega (arith, within, count)) in
      none_by are log (place + 1 + 1) tags_first (subst (λ (n : ℕ). entries_by (n + 1) log ≡ []) r.number r.none))

  -- a page that a worker lost was counted by its doors
  pub counted_stop : (new : List (WorkerState D)) → length new ≡ length old → HaveRun faults plan old new → (fault : Fault) → first_stop new ≡ Some fault
      → sum_by (counted_by faults) new < 2 ^ 64 - 1 → page_faults fault ≤ sum_by (counted_by faults) new
  counted_stop new same_count run fault stop less =
      let at = stopped_at new fault stop in
      let d = first_worker in
      let there : at.place < length old = omega (arith, at.within, same_count) in
      let o = slice_index_or old at.place d in
      let w = slice_index_or new at.place d in
      let none : sum_by faults o.session.doors ≡ 0 = (ready at.place d there).no_fault in
      let part : counted_by faults w ≤ sum_by (counted_by faults) new = get_or-le-sum_by (counted_by faults) new at.place d at.within in
      let rose : RoseBy (page_faults fault) (sum_by faults o.session.doors) (counted_by faults w) =
      subst (λ (t : Told). RoseBy (told_faults t) (sum_by faults o.session.doors) (counted_by faults w)) (at.told d) (run at.place d there).rose in
      let rises : sum_by faults o.session.doors + page_faults fault ≤ counted_by faults w = rose.by (omega (arith, part, less)) in
      omega (arith, rises, none, part)

-- all passes of a load's first session and of its workers came back
pub all_kept : (kept : List ℕ) (workers : ℕ) → Contains kept 1 → ((place : ℕ) → place < workers → Contains kept (place + 1 + 1)) → (caller : ℕ) → 1 ≤ caller → caller ≤ workers + 1 → Contains kept caller
all_kept kept workers first each zero some last = absurd (omega (arith, some))
all_kept kept workers first each (suc zero) some last = first
all_kept kept workers first each (suc (suc place)) some last =
    let is : place + 1 + 1 ≡ suc (suc place) = omega arith in subst (λ (n : ℕ). Contains kept n) is (each place (omega (arith, last)))

-- ---- the last look

module _ {D : Type 0} (are : EntriesAreEvents) (idle : IdleOwnsAll) (plan : LoadPlan) (sized : IsSized plan) {faults : D → ℕ} {store : StoreState} (limits : store.fixed.limits ≡ greatest)
    {old new : OwnerView Event DeskFixed} {s : SessionState D} (s' : SessionState D) (fresh : IsNewSession faults store old s) (took : TookBack s'.caller s'.log old new) (made : new.made ≡ old.made + 1) (out : new.out ≡ old.out) where
  fresh_last : IsFresh old.made (session_of s)
  fresh_last = fresh_new are (tags_old are took) limits fresh

  seen_first : (session_of s).seen ≡ events old.seen
  seen_first = ap (λ (l : List (ℕ × Event)). events l) fresh.log

  looked : (told : Result Summary Fault) → SummaryEnds plan told (session_of s) (session_of s') → HasLooked plan store.fixed.page_size old told new
  looked told ends =
      let back : CameBack (old.made + 1) (events s'.log) (events new.seen) =
      subst (λ (c : ℕ). CameBack c (events s'.log) (events new.seen)) (ends.did.leaves.caller ∙ fresh.caller) (came_back are s'.caller s'.log new.seen took.tags took.begins_log took.own) in
      let later : List Event = events took.begins.0 in
      let split : events new.seen ≡ events old.seen ++ later = ap (λ (l : List (ℕ × Event)). events l) took.begins.1 ∙ events_append old.seen took.begins.0 in
      record {
        made = made;
        out = out;
        later = later;
        begins = split;
        same = stays_by are took;
        none = back.same ∙ own_is idle old.made (session_of s) (session_of s') fresh_last [] ends.did;
        tells = λ none read_back.
            let same : events new.seen ≡ events old.seen = split ∙ (ap (λ (l : List Event). events old.seen ++ l) none ∙ append-nil (events old.seen)) in
            -- nothing more was seen
            let saw_same : (session_of s').seen ≡ (session_of s).seen =
            mid_same (session_of s).seen (events s'.log) (events new.seen) ends.did.leaves.more back.later ends.did.leaves.seen back.begins (same ∙ sym seen_first) in
            subst (λ (t : StoreState). TellsSummary plan t.fixed.page_size told) fresh.of_store
            (ends.tells saw_same sized
            (subst (λ (h : List Event). IsReadBack plan (store_of (session_of s).fixed.limits h) (session_of s).caller) (sym seen_first)
            (subst (λ (b : Bounds). IsReadBack plan (store_of b (events old.seen)) (session_of s).caller) (sym fresh_last.limits)
            (subst (λ (c : ℕ). IsReadBack plan (store_of greatest (events old.seen)) c) (sym fresh_last.caller) read_back))));
      }

  pub looks_as : (told : Result Summary Fault) → SummaryEnds plan told (session_of s) (session_of s') → LooksAs plan store.fixed.page_size old told new
  looks_as (Ok summary) ends = looked (Ok summary) ends
  looks_as (Err fault) ends = (out, inr (looked (Err fault) ends))

-- ---- the whole crew

-- how its work ended, by the fault of the first that stopped
abbrev pub CrewEnds : LoadPlan → ℕ → List Event → Option Fault → OwnerView Event DeskFixed → Type 0
CrewEnds plan p first None owner = HaveDone plan first owner
CrewEnds plan p first (Some fault) owner = (owner.out ≡ 0) × (IsOutside (IsLoadPage plan p) fault ⊎ HaveStopped plan p first fault owner)

module _ {D : Type 0} (are : EntriesAreEvents) (stay : OwnsStay) (plan : LoadPlan) (sized : IsSized plan) (faults : D → ℕ) (store : StoreState) (limits : store.fixed.limits ≡ greatest)
    (first mid last : OwnerView Event DeskFixed) (opened : IsOpened plan first) (given : mid ≡ record first { made = first.made + plan.workers; out = first.out + plan.workers })
    (old new : List (WorkerState D)) (count : length old ≡ plan.workers) (same_count : length new ≡ length old) (ready : AreReady faults store first.seen old) (run : HaveRun faults plan old new)
    (tags : last.seen ≡ tagged (events last.seen)) (back : AreBack new last.seen) (before : (c : ℕ) → Contains mid.kept c → entries_by c last.seen ≡ entries_by c mid.seen)
    (kept_before : (c : ℕ) → Contains mid.kept c → Contains last.kept c) (kept : AreKept new last.kept) (made : last.made ≡ mid.made) (out : mid.out ≡ last.out + plan.workers)
    (begins : Begins mid.seen last.seen) where
  crew_begins : Begins first.seen last.seen
  crew_begins = subst (λ (o : OwnerView Event DeskFixed). Begins o.seen last.seen) given begins

  crew_tags : first.seen ≡ tagged (events first.seen)
  crew_tags = tags_of_front first.seen last.seen crew_begins tags

  crew_made : last.made ≡ plan.workers + 1
  crew_made = let is : mid.made ≡ first.made + plan.workers = ap (λ (o : OwnerView Event DeskFixed). o.made) given in omega (arith, made, is, opened.made)

  crew_out : last.out ≡ 0
  crew_out = let is : mid.out ≡ first.out + plan.workers = ap (λ (o : OwnerView Event DeskFixed). o.out) given in omega (arith, out, is, opened.out)

  crew_before : (c : ℕ) → Contains first.kept c → entries_by c last.seen ≡ entries_by c first.seen
  crew_before = subst (λ (o : OwnerView Event DeskFixed). (c : ℕ) → Contains o.kept c → entries_by c last.seen ≡ entries_by c o.seen) given before

  crew_first : CameBack 1 (events first.seen) (events last.seen)
  crew_first = came_back are 1 first.seen last.seen tags crew_begins (crew_before 1 opened.kept)

  abbrev some_worker : WorkerState D
  some_worker = first_worker are faults plan sized store limits first.seen crew_tags old count ready

  crew_kept : (caller : ℕ) → 1 ≤ caller → caller ≤ plan.workers + 1 → Contains last.kept caller
  crew_kept =
      all_kept last.kept plan.workers (kept_before 1 (subst (λ (o : OwnerView Event DeskFixed). Contains o.kept 1) (sym given) opened.kept))
      (λ place within.
      let there : place < length old = omega (arith, within, count) in
      subst (λ (n : ℕ). Contains last.kept (n + 1)) ((run place some_worker there).number ∙ (ready place some_worker there).number) (kept place some_worker (omega (arith, there, same_count))))

  module _ (place : ℕ) (d : WorkerState D) (within : place < length old) where
    abbrev old_at : WorkerState D
    old_at = slice_index_or old place d

    abbrev new_at : WorkerState D
    new_at = slice_index_or new place d

    came_at : CameBack (place + 1 + 1) (events new_at.session.log) (events last.seen)
    came_at =
        let b = back place d (omega (arith, within, same_count)) in
        subst (λ (n : ℕ). CameBack (n + 1) (events new_at.session.log) (events last.seen)) ((run place d within).number ∙ (ready place d within).number)
        (came_back are (new_at.number + 1) new_at.session.log last.seen tags b.0 b.1)

    ends_at : (told : Told) → new_at.told ≡ told → WorkEnds plan (place + 1) told (session_of old_at.session) (session_of new_at.session)
    ends_at told is =
        subst (λ (t : Told). WorkEnds plan (place + 1) t (session_of old_at.session) (session_of new_at.session)) is
        (subst (λ (n : ℕ). WorkEnds plan n new_at.told (session_of old_at.session) (session_of new_at.session)) (ready place d within).number (run place d within).ends)

    begun_at : HasBegun plan (place + 1) (events_by (place + 1 + 1) (events last.seen))
    begun_at =
        subst (λ (l : List Event). HasBegun plan (place + 1) l) (sym came_at.same)
        (has_begun plan (place + 1) (session_of old_at.session) (session_of new_at.session) new_at.told (ends_at new_at.told refl))

    owns_at : FinishesItsOwn greatest (events last.seen) (place + 1 + 1)
    owns_at =
        owns_back stay greatest (place + 1 + 1) (events new_at.session.log) (events last.seen) came_at
        (has_owned plan (place + 1) (session_of old_at.session) (session_of new_at.session) new_at.told (ends_at new_at.told refl))

    done_at : new_at.told ≡ at_end → HasDone plan (place + 1) plan.ops (events_by (place + 1 + 1) (events last.seen))
    done_at told = let ends : WorkEnds plan (place + 1) at_end (session_of old_at.session) (session_of new_at.session) = ends_at at_end told in subst (λ (l : List Event). HasDone plan (place + 1) plan.ops l) (sym came_at.same) ends.done

  have_come : HaveCome plan (events first.seen) last
  have_come = record {
    made = crew_made;
    out = crew_out;
    kept = crew_kept;
    opened = crew_first;
    fresh = fresh_first are faults plan sized store limits first.seen crew_tags old count ready;
    begun = of_each (λ worker. HasBegun plan worker (events_by (worker + 1) (events last.seen))) plan.workers (λ place within. begun_at place some_worker (omega (arith, within, count)));
    own = of_each (λ worker. FinishesItsOwn greatest (events last.seen) (worker + 1)) plan.workers (λ place within. owns_at place some_worker (omega (arith, within, count)));
  }

  crew_done : first_stop new ≡ None → HaveDone plan (events first.seen) last
  crew_done none = record {
    come = have_come;
    done =
        of_each (λ worker. HasDone plan worker plan.ops (events_by (worker + 1) (events last.seen))) plan.workers
        (λ place within.
        let there : place < length old = omega (arith, within, count) in
        done_at place some_worker there (all_done new none place some_worker (omega (arith, there, same_count))));
  }

  have_stopped : (fault : Fault) → first_stop new ≡ Some fault → HaveStopped plan store.fixed.page_size (events first.seen) fault last
  have_stopped fault stop =
      let at = stopped_at new fault stop in
      let d = some_worker in
      let there : at.place < length old = omega (arith, at.within, same_count) in
      let early : HasEndedEarly plan (at.place + 1) fault (session_of (old_at at.place d there).session) (session_of (new_at at.place d there).session) = ends_at at.place d there (Err fault) (at.told d) in
      let came = came_at at.place d there in
      let r = ready at.place d there in
      let seen = events (new_at at.place d there).session.log in
      record {
        come = have_come;
        worker = at.place + 1;
        some = omega arith;
        last = omega (arith, there, count);
        op = early.op;
        is_op = early.is_op;
        seen = seen;
        more = came.later;
        split = came.begins;
        later = early.later;
        hindered =
            subst (λ (t : StoreState). OperationHindered plan t.fixed.page_size (at.place + 1) early.op (events first.seen ++ early.later) seen fault) r.of_store
            (subst (λ (l : List (ℕ × Event)). OperationHindered plan (old_at at.place d there).session.store.fixed.page_size (at.place + 1) early.op (events l ++ early.later) seen fault) r.seen early.hindered);
      }

  pub crew_ends : (stop : Option Fault) → first_stop new ≡ stop → CrewEnds plan store.fixed.page_size (events first.seen) stop last
  crew_ends None none = crew_done none
  crew_ends (Some fault) stop = (crew_out, inr (have_stopped fault stop))

-- ---- callers

-- caller 1, a worker's, or another
data Whose (workers caller : ℕ) : Type 0 where
  the_first : caller ≡ 1 → Whose workers caller
  a_workers : (worker : ℕ) → 1 ≤ worker → worker ≤ workers → caller ≡ worker + 1 → Whose workers caller
  nobodys : (caller ≡ 0) ⊎ (workers + 1 < caller) → Whose workers caller

whose_later : (workers worker : ℕ) → (worker + 1 < workers + 1) ⊎ (workers + 1 ≤ worker + 1) → Whose workers (suc (suc worker))
whose_later workers worker (inl lt) = Whose.a_workers (suc worker) (omega arith) (omega (arith, lt)) (omega arith)
whose_later workers worker (inr le) = Whose.nobodys (inr (omega (arith, le)))

whose : (workers caller : ℕ) → Whose workers caller
whose workers zero = Whose.nobodys (inl refl)
whose workers (suc zero) = Whose.the_first refl
whose workers (suc (suc n)) = whose_later workers n (cases_lt (n + 1) (workers + 1))

-- nobody but caller 1 and the workers has an event there
abbrev OnlyTheirs : ℕ → List Event → Type 0
OnlyTheirs workers history = (caller : ℕ) → (caller ≡ 0) ⊎ (workers + 1 < caller) → events_by caller history ≡ []

-- ---- the opening

one_given : (other : ℕ) → other ≢ 1 → IsUngiven 1 other
one_given zero differs = inl refl
one_given (suc zero) differs = absurd (differs refl)
one_given (suc (suc n)) differs = inr (omega arith)

module _ (are : EntriesAreEvents) (plan : LoadPlan) (p : ℕ) (sized : IsSized plan) where
  pub half_opened : NothingElseHindersOpenings → (fault : Fault) (owner : OwnerView Event DeskFixed) → IsHalfOpened plan p fault owner
      → LacksUngiven owner.made owner.seen → IsLegal greatest (events owner.seen) → owner.seen ≡ tagged (events owner.seen) → IsOutside (IsLoadPage plan p) fault
  half_opened nothing fault owner half lacks legal tags =
      let others : (other : ℕ) → other ≢ 1 → events_by other (events owner.seen) ≡ [] =
      λ other differs. none_by are owner.seen other tags (lacks other (subst (λ (n : ℕ). IsUngiven n other) (sym half.made) (one_given other differs))) in
      nothing plan (events owner.seen) sized legal others half.own p half.first half.seen half.more fault half.split half.hindered

-- ---- the workers

module _ (alone : SeenAlone) (first_is : OpeningsAreFirst) (plan : LoadPlan) (first history : List Event) (version : ℕ) where
  -- what was seen first is the opening, and no more
  pub opening_is : events_by 1 first ≡ opened_with plan version → (later : List Event) → history ≡ first ++ later → IsLegal greatest history
      → ((other : ℕ) → other ≢ 1 → events_by other first ≡ []) → first ≡ opening plan
  opening_is opened later split legal others =
      let all : first ≡ opened_with plan version = sym (alone 1 first others) ∙ opened in
      let legal_all : IsLegal greatest (opened_with plan version ++ later) = subst (λ (h : List Event). IsLegal greatest h) (split ∙ ap (λ (l : List Event). l ++ later) all) legal in
      all ∙ ap (λ (v : ℕ). opened_with plan v) (first_is plan version later legal_all)

module _ (plan : LoadPlan) (first : List Event) (owner : OwnerView Event DeskFixed) (come : HaveCome plan first owner) where
  abbrev history_of : List Event
  history_of = events owner.seen

  others_first : OnlyTheirs plan.workers history_of → (other : ℕ) → other ≢ 1 → Whose plan.workers other → events_by other first ≡ []
  others_first only other differs (Whose.the_first is) = absurd (differs is)
  others_first only other differs (Whose.a_workers worker some last is) = ap (λ (c : ℕ). events_by c first) is ∙ come.fresh worker some last
  others_first only other differs (Whose.nobodys whose_not) =
      (none_parts other first come.opened.later (ap (λ (h : List Event). events_by other h) (sym come.opened.begins) ∙ only other whose_not)).0

  module _ (alone : SeenAlone) (first_is : OpeningsAreFirst) (only : OnlyTheirs plan.workers history_of) (legal : IsLegal greatest history_of) (version : ℕ)
      (opened : events_by 1 first ≡ opened_with plan version) where
    pub first_opening : first ≡ opening plan
    first_opening =
        opening_is alone first_is plan first history_of version opened come.opened.later come.opened.begins legal (λ other differs. others_first only other differs (whose plan.workers other))

    begins_with : history_of ≡ opening plan ++ come.opened.later
    begins_with = come.opened.begins ∙ ap (λ (l : List Event). l ++ come.opened.later) first_opening

    opened_is : events_by 1 history_of ≡ opening plan
    opened_is = come.opened.same ∙ (alone 1 first (λ other differs. others_first only other differs (whose plan.workers other)) ∙ first_opening)

    pub underway : IsUnderway plan history_of
    underway = record { later = come.opened.later; begins = begins_with; opened = opened_is; begun = come.begun; only = only }

    owns : OwnsStay → IdleOwnsAll → FinishesItsOwn greatest first 1 → (other : ℕ) → Whose plan.workers other → FinishesItsOwn greatest history_of other
    owns stay idle own other (Whose.the_first is) = subst (λ (c : ℕ). FinishesItsOwn greatest history_of c) (sym is) (owns_back stay greatest 1 first history_of come.opened own)
    owns stay idle own other (Whose.a_workers worker some last is) = subst (λ (c : ℕ). FinishesItsOwn greatest history_of c) (sym is) (come.own worker some last)
    owns stay idle own other (Whose.nobodys whose_not) = idle greatest other history_of (only other whose_not)

    -- nothing but the outside stopped a worker
    pub stopped : NothingElseHinders → OwnsStay → IdleOwnsAll → IsSized plan → FinishesItsOwn greatest first 1 → (p : ℕ) (fault : Fault) → HaveStopped plan p first fault owner → IsOutside (IsLoadPage plan p) fault
    stopped nothing stay idle sized own p fault stop =
        let hindered : OperationHindered plan p stop.worker stop.op (opening plan ++ stop.later) stop.seen fault =
        subst (λ (l : List Event). OperationHindered plan p stop.worker stop.op (l ++ stop.later) stop.seen fault) first_opening stop.hindered in
        nothing plan history_of sized legal underway (λ other. owns stay idle own other (whose plan.workers other)) p stop.worker stop.op stop.some stop.last stop.is_op stop.seen stop.more stop.later fault stop.split
        hindered

    pub is_load : HaveDone plan first owner → IsLoad plan history_of
    is_load all = record { later = come.opened.later; begins = begins_with; opened = opened_is; worked = all.done; only = only }

-- callers that weren't given have no event
pub only_theirs : EntriesAreEvents → (plan : LoadPlan) (owner : OwnerView Event DeskFixed) → owner.made ≡ plan.workers + 1 → LacksUngiven owner.made owner.seen → owner.seen ≡ tagged (events owner.seen)
    → OnlyTheirs plan.workers (events owner.seen)
only_theirs are plan owner made lacks tags caller whose_not =
    none_by are owner.seen caller tags (lacks caller (subst (λ (n : ℕ). IsUngiven n caller) (sym made) whose_not))

-- ---- the last look

module _ (plan : LoadPlan) (p : ℕ) (first : List Event) (old new : OwnerView Event DeskFixed) (told : Result Summary Fault) (all : HaveDone plan first old) (look : HasLooked plan p old told new) where
  abbrev old_history : List Event
  old_history = events old.seen

  abbrev new_history : List Event
  new_history = events new.seen

  last_or_later : (caller : ℕ) → (caller < plan.workers + 3) ⊎ (plan.workers + 3 ≤ caller) → plan.workers + 1 < caller → (caller ≡ old.made + 1) ⊎ (new.made < caller)
  last_or_later caller (inl le) lt = inl (omega (arith, le, lt, all.come.made))
  last_or_later caller (inr gt) lt = inr (omega (arith, gt, all.come.made, look.made))

  module _ (are : EntriesAreEvents) (lacks : LacksUngiven new.made new.seen) (tags : new.seen ≡ tagged (events new.seen)) where
    none_new : (caller : ℕ) → (caller ≡ old.made + 1) ⊎ (new.made < caller) → events_by caller new_history ≡ []
    none_new caller (inl is) = ap (λ (c : ℕ). events_by c new_history) is ∙ look.none
    none_new caller (inr lt) = none_by are new.seen caller tags (lacks caller (inr lt))

    only_new : OnlyTheirs plan.workers new_history
    only_new caller (inl is) = none_by are new.seen caller tags (lacks caller (inl is))
    only_new caller (inr lt) = none_new caller (last_or_later caller (cases_lt caller (plan.workers + 3)) lt)

    only_old : OnlyTheirs plan.workers old_history
    only_old caller whose_not = (none_parts caller old_history look.later (ap (λ (h : List Event). events_by caller h) (sym look.begins) ∙ only_new caller whose_not)).0

    same_for : (caller : ℕ) → Whose plan.workers caller → events_by caller new_history ≡ events_by caller old_history
    same_for caller (Whose.the_first is) = look.same caller (all.come.kept caller (omega (arith, is)) (omega (arith, is)))
    same_for caller (Whose.a_workers worker some last is) = look.same caller (all.come.kept caller (omega (arith, is)) (omega (arith, is, last)))
    same_for caller (Whose.nobodys whose_not) = only_new caller whose_not ∙ sym (only_old caller whose_not)

    none_later : NobodysAreNone → look.later ≡ []
    none_later no_others =
        no_others old_history look.later (λ caller. ap (λ (h : List Event). events_by caller h) (sym look.begins) ∙ same_for caller (whose plan.workers caller))

    same_history : NobodysAreNone → new_history ≡ old_history
    same_history no_others = look.begins ∙ (ap (λ (l : List Event). old_history ++ l) (none_later no_others) ∙ append-nil old_history)

    module _ (no_others : NobodysAreNone) (alone : SeenAlone) (first_is : OpeningsAreFirst) (read_back : LoadsReadBack) (sized : IsSized plan) (legal : IsLegal greatest new_history) (version : ℕ)
        (opened : events_by 1 first ≡ opened_with plan version) where
      legal_old : IsLegal greatest old_history
      legal_old = subst (λ (h : List Event). IsLegal greatest h) (same_history no_others) legal

      loaded_old : IsLoad plan old_history
      loaded_old = is_load plan first old all.come alone first_is only_old legal_old version opened all

      pub loaded : IsLoad plan new_history
      loaded = subst (λ (h : List Event). IsLoad plan h) (sym (same_history no_others)) loaded_old

      -- each had finished its own alone
      pub finished : OwnsStay → IdleOwnsAll → FinishesItsOwn greatest first 1 → AreFinishedByOwn plan new_history
      finished stay idle own caller some last =
          subst (λ (h : List Event). FinishesItsOwn greatest h caller) (sym (same_history no_others))
          (owns plan first old all.come alone first_is only_old legal_old version opened stay idle own caller (whose plan.workers caller))

      pub told_of : TellsSummary plan p told
      told_of = look.tells (none_later no_others) (read_back plan old_history (omega (arith, sized.workers)) legal_old loaded_old (old.made + 1))

-- ---- once the store is closed

module _ (are : EntriesAreEvents) (plan : LoadPlan) (p : ℕ) (sized : IsSized plan) where
  pub closes_unopened : NothingElseHindersOpenings → (fault : Fault) (owner : OwnerView Event DeskFixed) → IsOutside (IsLoadPage plan p) fault ⊎ IsHalfOpened plan p fault owner → ClosesAs plan p (Err fault) owner
  closes_unopened nothing fault owner (inl outside) lacks legal tags = outside
  closes_unopened nothing fault owner (inr half) lacks legal tags = half_opened are plan p sized nothing fault owner half lacks legal tags

  module _ (alone : SeenAlone) (first_is : OpeningsAreFirst) (mid : OwnerView Event DeskFixed) (opened : IsOpened plan mid) where
    pub closes_stopped : NothingElseHinders → OwnsStay → IdleOwnsAll → (fault : Fault) (owner : OwnerView Event DeskFixed) → IsOutside (IsLoadPage plan p) fault ⊎ HaveStopped plan p (events mid.seen) fault owner
        → ClosesAs plan p (Err fault) owner
    closes_stopped nothing stay idle fault owner (inl outside) lacks legal tags = outside
    closes_stopped nothing stay idle fault owner (inr stop) lacks legal tags =
        stopped plan (events mid.seen) owner stop.come alone first_is (only_theirs are plan owner stop.come.made lacks tags) legal opened.version opened.opened nothing stay idle sized opened.own p fault stop

    module _ (no_others : NobodysAreNone) (read_back : LoadsReadBack) (old new : OwnerView Event DeskFixed) (all : HaveDone plan (events mid.seen) old) where
      pub closes_looked : OwnsStay → IdleOwnsAll → (summary : Summary) → HasLooked plan p old (Ok summary) new → ClosesAs plan p (Ok summary) new
      closes_looked stay idle summary look lacks legal tags =
          let first : List Event = events mid.seen in (
            told_of plan p first old new (Ok summary) all look are lacks tags no_others alone first_is read_back sized legal opened.version opened.opened,
            loaded plan p first old new (Ok summary) all look are lacks tags no_others alone first_is read_back sized legal opened.version opened.opened,
            finished plan p first old new (Ok summary) all look are lacks tags no_others alone first_is read_back sized legal opened.version opened.opened stay idle opened.own,
          )

      pub closes_unseen : (fault : Fault) → IsOutside (IsLoadPage plan p) fault ⊎ HasLooked plan p old (Err fault) new → ClosesAs plan p (Err fault) new
      closes_unseen fault (inl outside) lacks legal tags = outside
      closes_unseen fault (inr look) lacks legal tags =
          told_of plan p (events mid.seen) old new (Err fault) all look are lacks tags no_others alone first_is read_back sized legal opened.version opened.opened
