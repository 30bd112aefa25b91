-- What becomes of the store's owner and of the doors as passes of a watch come back and its sessions end.
use Rattle.std.proofs.Common.{◌≡◌, ◌⊎◌, inl, inr, ⊎_elim, ℕ, ◌+◌, ◌≤◌, List, [], ◌∷◌, ◌++◌, length, refl, sym, ap, subst, ◌∙◌, append-nil, arith, Contains, ◌*◌}
use Rattle.std.specs.Prelude.{Result, Ok, Err, ◌↔◌}
use Rattle.std.proofs.lemmas.List.Elements.{Contains-push, Contains-push_cases}
use Rattle.std.proofs.Math.Nat.{suc-mul, zero-mul, add-mul}
use Rattle.blob_model.specs.Limits.{Bounds, greatest}
use Rattle.blob_model.specs.History.{events_by}
use Rattle.blob_model.specs.declared.call.Event.{Event}
use Rattle.blob_model.specs.declared.call.Event.TheVariants as Events
use Rattle.turn_lock.specs.History.{entries_by, Begins}
use Rattle.turn_lock.proofs.Histories.{begins_both}
use Rattle.version_manager.specs.Log.{tagged, events}
use Rattle.version_manager.specs.Laws.{EntriesAreEvents}
use Rattle.request_form.specs.declared.form.Fault.{Fault}
use Rattle.client_session.specs.Sessions.{StoreState, SessionState, IsOwnerOf, session_of}
use Rattle.store_sessions.specs.Made.{IsNewSession, IsRenewed}
use Rattle.workload_law.specs.Ends.{CreateHindered}
use Rattle.workload_law.specs.Closing.{OwnsStay}
use Rattle.workload_law.specs.Sessions.{FinishesItsOwn}
use Rattle.workload_run.specs.Making.{HasDoneOwn, HasNotMade, MakingEnds}
use Rattle.workload_run.specs.Callers.{CameBack}
use Rattle.workload_run.proofs.Returns.{TookBack, stays_by, own_by, keeps, keeps_own, none_by, came_back, owns_back, events_append}
use Rattle.workload_law.specs.declared.watch_plan.WatchPlan.{WatchPlan}
use Rattle.workload_law.specs.Watch.{HasBegun}
use Rattle.workload_run.specs.WatchStages.{Entries, Owner, IsOpened, IsCalled, IsUnopened, OpensAs, IsWatched, IsIdle, ComesBack, LeavesWatch}
use Rattle.page_store.specs.Calls.{Traffic, AllCameBack, no_door}
use Rattle.store_sessions.specs.Lent.{LentDoors}
use Rattle.store_sessions.proofs.Traffics.{traffic_both, came_back_around}
use Rattle.workload_run.specs.Doors.{DoorsEnd, EndDoors, MakesAsBefore, SessionsEnd}

-- ---- a pass that came back
module _ (are : EntriesAreEvents) {caller : ℕ} {log : Entries} {old new : Owner} (took : TookBack caller log old new) where
  pub comes_back : ComesBack old new
  comes_back = record { begins = took.begins; keeps = keeps are took; stays = stays_by are took }

-- an idle session's pass came back, once the writer's had
module _ (are : EntriesAreEvents) (stay : OwnsStay) {caller : ℕ} {log : Entries} {old new : Owner} (took : TookBack caller log old new) (third : 3 ≤ caller) (none : events_by caller (events log) ≡ []) where
  idle_now : ((c : ℕ) → 3 ≤ c → Contains old.kept c → events_by c (events old.seen) ≡ []) → (c : ℕ) → 3 ≤ c → Contains old.kept c ⊎ (caller ≡ c) → events_by c (events new.seen) ≡ []
  idle_now was c other (inl before) = stays_by are took c before ∙ was c other before
  idle_now was c other (inr this) = subst (λ (n : ℕ). events_by n (events new.seen) ≡ []) this (own_by are took ∙ none)

  pub watched_on : (plan : WatchPlan) (first : Entries) → IsWatched plan first old → IsWatched plan first new
  watched_on plan first w =
      let writer : CameBack 2 (events old.seen) (events new.seen) =
      record {
        later = events took.begins.0;
        begins = ap (λ (l : Entries). events l) took.begins.1 ∙ events_append old.seen took.begins.0;
        same = stays_by are took 2 w.kept_writer;
      }
      in
      record {
        begins = begins_both first old.seen new.seen w.begins took.begins;
        created_first = w.created_first;
        kept_first = keeps are took 1 w.kept_first;
        created = stays_by are took 1 w.kept_first ∙ w.created;
        fresh = w.fresh;
        kept_writer = keeps are took 2 w.kept_writer;
        begun = subst (λ (l : List Event). HasBegun plan l) (sym writer.same) w.begun;
        own = owns_back stay greatest 2 (events old.seen) (events new.seen) writer w.own;
        idle = λ c other k. idle_now w.idle c other (Contains-push_cases old.kept caller c (subst (λ (l : List ℕ). Contains l c) took.kept k));
      }

  pub leaves_watch : LeavesWatch old new
  leaves_watch = record { comes = comes_back are took; watched = watched_on }

-- the writer's pass came back, the first after the opening
module _ (are : EntriesAreEvents) (stay : OwnsStay) (log : Entries) (old new : Owner) (took : TookBack 2 log old new) (kept : old.kept ≡ 1 ∷ []) (created : events_by 1 (events old.seen) ≡ Events.Create 1 ∷ [])
    (fresh : events_by 2 (events old.seen) ≡ []) (own : FinishesItsOwn greatest (events log) 2) where
  one_kept : Contains old.kept 1
  one_kept = subst (λ (l : List ℕ). Contains l 1) (sym kept) (Contains-push [] 1)

  no_other : (c : ℕ) → 3 ≤ c → Contains (1 ∷ []) c ⊎ (2 ≡ c) → ⊥
  no_other c other (inl first) = ⊎_elim (λ (none : Contains [] c). omega (arith, none.1)) (λ (one : 1 ≡ c). omega (arith, one, other)) (Contains-push_cases [] 1 c first)
  no_other c other (inr two) = omega (arith, two, other)

  writer_came : CameBack 2 (events log) (events new.seen)
  writer_came = came_back are 2 log new.seen took.tags took.begins_log took.own

  pub writer_back : (plan : WatchPlan) → HasBegun plan (events_by 2 (events log)) → IsWatched plan old.seen new
  writer_back plan begun = record {
    begins = took.begins;
    created_first = created;
    kept_first = keeps are took 1 one_kept;
    created = stays_by are took 1 one_kept ∙ created;
    fresh = fresh;
    kept_writer = keeps_own are took;
    begun = subst (λ (l : List Event). HasBegun plan l) (sym writer_came.same) begun;
    own = owns_back stay greatest 2 (events log) (events new.seen) writer_came own;
    idle = λ c other k.
        absurd (no_other c other (Contains-push_cases (1 ∷ []) 2 c (subst (λ (l : List ℕ). Contains (l ++ 2 ∷ []) c) kept (subst (λ (l : List ℕ). Contains l c) took.kept k))));
  }

-- ---- the opening
module _ {D : Type 0} (are : EntriesAreEvents) (s s' : SessionState D) (old new : Owner) (took : TookBack s'.caller s'.log old new) (caller : s.caller ≡ 1) (seen : s.log ≡ []) (old_kept : old.kept ≡ []) (made : new.made ≡ 1) (out : new.out ≡ 0) where
  by_first : (own : List Event) → HasDoneOwn (session_of s) own (session_of s') → events_by 1 (events new.seen) ≡ own
  by_first own did =
      let one : s'.caller ≡ 1 = did.leaves.caller ∙ caller in
      let mine : events_by 1 (events s'.log) ≡ own =
      subst (λ (c : ℕ). events_by c (events s'.log) ≡ events_by c (events s.log) ++ own) caller did.leaves.mine ∙ ap (λ (l : Entries). events_by 1 (events l) ++ own) seen
      in
      subst (λ (c : ℕ). events_by c (events new.seen) ≡ events_by c (events s'.log)) one (own_by are took) ∙ mine

  pub opened : HasDoneOwn (session_of s) (Events.Create s.caller ∷ []) (session_of s') → IsOpened new
  opened did = record {
    made = made;
    out = out;
    kept = took.kept ∙ (ap (λ (l : List ℕ). l ++ s'.caller ∷ []) old_kept ∙ ap (λ (c : ℕ). c ∷ []) (did.leaves.caller ∙ caller));
    created = by_first (Events.Create s.caller ∷ []) did ∙ ap (λ (c : ℕ). Events.Create c ∷ []) caller;
  }

  pub unopened : s.store.fixed.limits ≡ greatest → (fault : Fault) → HasNotMade (session_of s) fault (session_of s') → IsUnopened fault new
  unopened limits fault lost = record {
    made = made;
    out = out;
    none = by_first [] lost.left;
    seen = s'.log;
    begins = took.begins_log;
    hindered = subst (λ (l : Entries). CreateHindered greatest 1 (events l) (events s'.log) fault) seen
        (subst (λ (c : ℕ). CreateHindered greatest c (events s.log) (events s'.log) fault) caller
        (subst (λ (b : Bounds). CreateHindered b s.caller (events s.log) (events s'.log) fault) limits lost.hindered));
  }

  pub opens_as : s.store.fixed.limits ≡ greatest → (told : Result (Unit {0}) Fault) → MakingEnds told (session_of s) (session_of s') → OpensAs told new
  opens_as limits (Ok done) ends = opened ends
  opens_as limits (Err fault) ends = (out, inr (unopened limits fault ends))

-- where something was entered, something is there
pub some_created : (log : Entries) → events_by 1 (events log) ≡ Events.Create 1 ∷ [] → 1 ≤ length log
some_created [] created = absurd (let no : [] ≡ Events.Create 1 ∷ [] = created in cc)
some_created (x ∷ xs) created = omega arith

-- ---- one after another
comes_both : {old mid new : Owner} → ComesBack old mid → ComesBack mid new → ComesBack old new
comes_both {old = old} {mid = mid} {new = new} one two = record {
  begins = begins_both old.seen mid.seen new.seen one.begins two.begins;
  keeps = λ c k. two.keeps c (one.keeps c k);
  stays = λ c k. two.stays c (one.keeps c k) ∙ one.stays c k;
}

pub leaves_both : {old mid new : Owner} → LeavesWatch old mid → LeavesWatch mid new → LeavesWatch old new
leaves_both one two = record { comes = comes_both one.comes two.comes; watched = λ plan first w. two.watched plan first (one.watched plan first w) }

-- nothing more was seen, and whoever came back meanwhile entered nothing
module _ (old new : Owner) (seen : new.seen ≡ old.seen) (keeps : (c : ℕ) → Contains old.kept c → Contains new.kept c)
    (none : (c : ℕ) → Contains new.kept c → Contains old.kept c ⊎ (events_by c (events new.seen) ≡ [])) where
  idle_still : (c : ℕ) → (Contains old.kept c → events_by c (events old.seen) ≡ []) → Contains old.kept c ⊎ (events_by c (events new.seen) ≡ []) → events_by c (events new.seen) ≡ []
  idle_still c was (inl before) = subst (λ (l : Entries). events_by c (events l) ≡ []) (sym seen) (was before)
  idle_still c was (inr nothing) = nothing

  pub leaves_seen : LeavesWatch old new
  leaves_seen = record {
    comes = record {
      begins = ([], seen ∙ sym (append-nil old.seen));
      keeps = keeps;
      stays = λ c k. ap (λ (l : Entries). events_by c (events l)) seen;
    };
    watched = λ plan first w. record {
      begins = subst (λ (l : Entries). Begins first l) (sym seen) w.begins;
      created_first = w.created_first;
      kept_first = keeps 1 w.kept_first;
      created = subst (λ (l : Entries). events_by 1 (events l) ≡ Events.Create 1 ∷ []) (sym seen) w.created;
      fresh = w.fresh;
      kept_writer = keeps 2 w.kept_writer;
      begun = subst (λ (l : Entries). HasBegun plan (events_by 2 (events l))) (sym seen) w.begun;
      own = subst (λ (l : Entries). FinishesItsOwn greatest (events l) 2) (sym seen) w.own;
      idle = λ c other k. idle_still c (w.idle c other) (none c k);
    };
  }

-- as further passes are made, nothing changes
pub leaves_given : (old new : Owner) → new.seen ≡ old.seen → new.kept ≡ old.kept → LeavesWatch old new
leaves_given old new seen kept =
    leaves_seen old new seen (λ c k. subst (λ (l : List ℕ). Contains l c) (sym kept) k) (λ c k. inl (subst (λ (l : List ℕ). Contains l c) kept k))

-- no session could be made
pub leaves_unmade : (are : EntriesAreEvents) (store : StoreState) (old new : Owner) → IsOwnerOf store new → new.seen ≡ old.seen → ((c : ℕ) → Contains old.kept c → Contains new.kept c)
    → ((c : ℕ) → Contains new.kept c → Contains old.kept c ⊎ (entries_by c new.seen ≡ [])) → LeavesWatch old new
leaves_unmade are store old new owner seen keeps none =
    leaves_seen old new seen keeps (λ c k. ⊎_elim (λ (before : Contains old.kept c). inl before) (λ (nothing : entries_by c new.seen ≡ []). inr (none_by are new.seen c owner.log.tags nothing)) (none c k))

-- a session that was just made, with a pass after the second
pub new_idle : {D : Type 0} {faults : D → ℕ} {store : StoreState} {owner : Owner} {s : SessionState D} → IsNewSession faults store owner s → EntriesAreEvents → owner.seen ≡ tagged (events owner.seen) → 2 ≤ owner.made → IsIdle store s
new_idle {s = s} new are tags two = record {
  of_store = new.of_store;
  caller = omega (arith, new.caller, two);
  none = none_by are s.log s.caller (subst (λ (l : Entries). l ≡ tagged (events l)) (sym new.log) tags) new.none;
}

-- and one that was made of another's doors
pub renewed_idle : {D : Type 0} {store : StoreState} {owner : Owner} {seen : Entries} {ended s : SessionState D} → IsRenewed store owner seen ended s → EntriesAreEvents → seen ≡ tagged (events seen)
    → 2 ≤ owner.made → IsIdle store s
renewed_idle {s = s} new are tags two = record {
  of_store = new.of_store;
  caller = omega (arith, new.caller, two);
  none = none_by are s.log s.caller (subst (λ (l : Entries). l ≡ tagged (events l)) (sym new.log) tags) new.none;
}

-- ---- a session ended, and another was to be made of its doors
module _ {D : Type 0} (are : EntriesAreEvents) (stay : OwnsStay) (store : StoreState) (s : SessionState D) (old new : Owner) (idle : IsIdle store s) where
  pub leaves_renewed : new.seen ≡ tagged (events new.seen) → new.kept ≡ old.kept ++ s.caller ∷ [] → Begins old.seen new.seen × Begins s.log new.seen → entries_by s.caller new.seen ≡ entries_by s.caller s.log
      → ((c : ℕ) → Contains old.kept c → entries_by c new.seen ≡ entries_by c old.seen) → LeavesWatch old new
  leaves_renewed tags kept begins own before =
      let took : TookBack s.caller s.log old new = record { tags = tags; kept = kept; begins = begins.0; begins_log = begins.1; own = own; before = before } in
      leaves_watch are stay took idle.caller idle.none

-- it couldn't be made
module _ {D : Type 0} (are : EntriesAreEvents) (stay : OwnsStay) (store : StoreState) (s : SessionState D) (old new : Owner) (idle : IsIdle store s) where
  pub leaves_unrenewed : IsOwnerOf store new → Begins old.seen new.seen × Begins s.log new.seen → entries_by s.caller new.seen ≡ entries_by s.caller s.log
      → ((c : ℕ) → Contains old.kept c → entries_by c new.seen ≡ entries_by c old.seen) → ((c : ℕ) → Contains (old.kept ++ s.caller ∷ []) c → Contains new.kept c)
      → ((c : ℕ) → Contains new.kept c → Contains (old.kept ++ s.caller ∷ []) c ⊎ (entries_by c new.seen ≡ [])) → LeavesWatch old new
  leaves_unrenewed owner begins own before keeps_all none =
      -- the owner, once the ended session's pass alone was back
      let ended : Owner = record old { seen = new.seen; kept = old.kept ++ s.caller ∷ [] } in
      leaves_both (leaves_renewed are stay store s old ended idle owner.log.tags refl begins own before) (leaves_unmade are store ended new owner refl keeps_all none)

-- the other callers' passes were made once the blob was
pub called : (old new : Owner) (readers : ℕ) → IsOpened old → new ≡ record old { made = old.made + 2 + readers; out = old.out + 2 + readers } → IsCalled new readers
called old new readers opened given = record {
  made = (let m = ap (λ (o : Owner). o.made) given in omega (arith, m, opened.made));
  out = (let m = ap (λ (o : Owner). o.out) given in omega (arith, m, opened.out));
  kept = ap (λ (o : Owner). o.kept) given ∙ opened.kept;
  created = ap (λ (o : Owner). events_by 1 (events o.seen)) given ∙ opened.created;
}

pub once : (p : ℕ) → 1 * p ≡ p
once p =
    let a = suc-mul 0 p in
    let b = zero-mul p in
    omega (arith, a, b)

-- one session more
one_more : (n p : ℕ) → (1 + n) * p ≡ p + n * p
one_more n p = let x = once p in let y = add-mul 1 n p in omega (arith, x, y)

-- a call in which it isn't said how many doors were made, and then the end of readers
pub came_and_ended : {M : Type 0} {hands_out takes_back : M → M → Type 0} {p readers : ℕ} {first mid last : M} → AllCameBack hands_out takes_back first mid
    → Traffic hands_out takes_back 0 (readers * p) mid last → DoorsEnd hands_out takes_back p readers first last
came_and_ended {hands_out = hands_out} {takes_back = takes_back} {p = p} {readers = readers} {first = first} {mid = mid} {last = last} (n, a) b = record {
  made = n;
  traffic = traffic_both hands_out takes_back n n 0 (readers * p) n (n + readers * p) first mid last (omega arith) refl a b;
}

module _ {M : Type 0} (hands_out takes_back : M → M → Type 0) (p : ℕ) where
  -- ---- the last session, and then the readers

  module _ (readers : ℕ) (first mid last : M) where
    pub read_and_ended : Traffic hands_out takes_back p p first mid → Traffic hands_out takes_back 0 (readers * p) mid last → Traffic hands_out takes_back p ((1 + readers) * p) first last
    read_and_ended a b = traffic_both hands_out takes_back p p 0 (readers * p) p ((1 + readers) * p) first mid last (omega arith) (sym (one_more readers p)) a b

  -- ---- the writer's session and the keeper's, and then what ends the readers

  module _ (readers : ℕ) (first one two last : M) (writer : Traffic hands_out takes_back 0 p first one) (keeper : Traffic hands_out takes_back 0 p one two) where
    both_ended : Traffic hands_out takes_back 0 (p + p) first two
    both_ended = traffic_both hands_out takes_back 0 p 0 p 0 (p + p) first one two refl refl writer keeper

    two_more : (2 + readers) * p ≡ p + p + readers * p
    two_more =
        let x = once p in
        let y = add-mul 2 readers p in
        let z = add-mul 1 1 p in
        omega (arith, x, y, z)

    doors_ended : DoorsEnd hands_out takes_back p readers two last → DoorsEnd hands_out takes_back p (2 + readers) first last
    doors_ended a =
        let e = two_more in
        record {
          made = a.made;
          traffic =
              traffic_both hands_out takes_back 0 (p + p) a.made (a.made + readers * p) a.made (a.made + (2 + readers) * p) first two last (omega arith) (omega (arith, e)) both_ended a.traffic;
        }

    pub crew_ended : Traffic hands_out takes_back 0 (readers * p) two last → DoorsEnd hands_out takes_back p (2 + readers) first last
    crew_ended a =
        let none : readers * p ≡ 0 + readers * p = omega arith in
        doors_ended (record { made = 0; traffic = subst (λ (k : ℕ). Traffic hands_out takes_back 0 k two last) none a })

    pub crew_told : {A E : Type 0} (told : Result A E) → EndDoors hands_out takes_back p readers two last told → EndDoors hands_out takes_back p (2 + readers) first last told
    crew_told (Ok summary) a =
        let e = two_more in
        let f = one_more readers p in
        let g = one_more (2 + readers) p in
        traffic_both hands_out takes_back 0 (p + p) p ((1 + readers) * p) p ((1 + (2 + readers)) * p) first two last (omega arith) (omega (arith, e, f, g)) both_ended a
    crew_told (Err fault) a = doors_ended a

  -- ---- the crew's sessions, one made after another

  pub crew_handed : (readers : ℕ) (first one two last : M) → Traffic hands_out takes_back p 0 first one → Traffic hands_out takes_back p 0 one two → Traffic hands_out takes_back (readers * p) 0 two last
      → Traffic hands_out takes_back ((2 + readers) * p) 0 first last
  crew_handed readers first one two last a b d =
      let x = once p in
      let y = add-mul 2 readers p in
      let z = add-mul 1 1 p in
      traffic_both hands_out takes_back (p + p) 0 (readers * p) 0 ((2 + readers) * p) 0 first two last (omega (arith, x, y, z)) refl
      (traffic_both hands_out takes_back p 0 p 0 (p + p) 0 first one two refl refl a b) d

  pub crew_back : (first one two next ended last : M) → Traffic hands_out takes_back p 0 first one → Traffic hands_out takes_back p 0 one two → AllCameBack hands_out takes_back two next
      → Traffic hands_out takes_back 0 p next ended → Traffic hands_out takes_back 0 p ended last → AllCameBack hands_out takes_back first last
  crew_back first one two next ended last a b all d e =
      came_back_around hands_out takes_back p first one ended last a (came_back_around hands_out takes_back p one two next ended b all d) e

  -- ---- the whole watch

  module _ (readers : ℕ) (first opened called last : M) (open_store : Traffic hands_out takes_back p p first opened) (crew : Traffic hands_out takes_back ((2 + readers) * p) 0 opened called) where
    until_called : Traffic hands_out takes_back (p + (2 + readers) * p) p first called
    until_called =
        let k : ℕ = (2 + readers) * p in
        traffic_both hands_out takes_back p p k 0 (p + k) p first opened called refl (omega arith) open_store crew

    all_came : DoorsEnd hands_out takes_back p (2 + readers) called last → AllCameBack hands_out takes_back first last
    all_came a =
        let k : ℕ = (2 + readers) * p in
        (p + k + a.made, traffic_both hands_out takes_back (p + k) p a.made (a.made + k) (p + k + a.made) (p + k + a.made) first called last refl (omega arith) until_called a.traffic)

    pub all_lent : {A E : Type 0} (told : Result A E) → EndDoors hands_out takes_back p (2 + readers) called last told → LentDoors hands_out takes_back ((4 + readers) * p) first last told
    all_lent (Ok summary) a =
        let k : ℕ = (2 + readers) * p in
        let three = one_more (2 + readers) p in
        let four = one_more (1 + (2 + readers)) p in
        let same : 1 + (1 + (2 + readers)) ≡ 4 + readers = omega arith in
        let all : (1 + (1 + (2 + readers))) * p ≡ (4 + readers) * p = ap (λ (n : ℕ). n * p) same in
        let out : p + k + p ≡ (4 + readers) * p = omega (arith, three, four, all) in
        let back : p + (1 + (2 + readers)) * p ≡ (4 + readers) * p = omega (arith, four, all) in
        traffic_both hands_out takes_back (p + k) p p ((1 + (2 + readers)) * p) ((4 + readers) * p) ((4 + readers) * p) first called last out back until_called a
    all_lent (Err fault) a = all_came a

module _ {M D : Type 0} (is_true : M → Type 0) (makes : M → ℕ → D → Type 0) where
  pub makes_so : (first last : M) → (is_true first ↔ is_true last) → ((n : ℕ) (door : D) → makes first n door ↔ makes last n door) → MakesAsBefore is_true makes first last
  makes_so first last truth plan = record { truth_stays = truth; plan_stays = plan }

  -- of so many sessions some are left, and the others ended
  pub record HaveEnded (hands_out takes_back : M → M → Type 0) (store : StoreState) (all left : ℕ) (old new : Owner) (first last : M) : Type 0 where
    pub ended : ℕ
    pub split : left + ended ≡ all
    pub end : SessionsEnd is_true makes hands_out takes_back store ended old new first last

module _ {M D : Type 0} {is_true : M → Type 0} {makes : M → ℕ → D → Type 0} where
  -- ---- the maker, call after call
  pub makes_still : {maker : M} → MakesAsBefore is_true makes maker maker
  makes_still = record { truth_stays = (λ t. t, λ t. t); plan_stays = λ n door. (λ h. h, λ h. h) }

  pub makes_both : {first mid last : M} → MakesAsBefore is_true makes first mid → MakesAsBefore is_true makes mid last → MakesAsBefore is_true makes first last
  makes_both a b = record {
    truth_stays = (λ t. b.truth_stays.0 (a.truth_stays.0 t), λ t. a.truth_stays.1 (b.truth_stays.1 t));
    plan_stays = λ n door. (λ h. (b.plan_stays n door).0 ((a.plan_stays n door).0 h), λ h. (a.plan_stays n door).1 ((b.plan_stays n door).1 h));
  }

  -- ---- sessions that end
  module _ {hands_out takes_back : M → M → Type 0} {store : StoreState} where
    none_ended : (owner : Owner) (maker : M) → SessionsEnd is_true makes hands_out takes_back store 0 owner owner maker maker
    none_ended owner maker = record { leaves = leaves_given owner owner refl refl; out = omega arith; traffic = rw (zero-mul store.providers) no_door; maker = makes_still }

    -- one ended
    pub one_ended : {old new : Owner} {first last : M} → LeavesWatch old new → old.out ≡ new.out + 1 → Traffic hands_out takes_back 0 store.providers first last → MakesAsBefore is_true makes first last
        → SessionsEnd is_true makes hands_out takes_back store 1 old new first last
    one_ended {first = first} {last = last} leaves out traffic maker = record {
      leaves = leaves;
      out = out;
      traffic = subst (λ (n : ℕ). Traffic hands_out takes_back 0 n first last) (sym (once store.providers)) traffic;
      maker = maker;
    }

    -- its doors were taken back
    pub taken : {old new : Owner} {first last : M} → SessionsEnd is_true makes hands_out takes_back store 1 old new first last → Traffic hands_out takes_back 0 store.providers first last
    taken {first = first} {last = last} end = subst (λ (n : ℕ). Traffic hands_out takes_back 0 n first last) (once store.providers) end.traffic

    pub all_left : (all : ℕ) (owner : Owner) (maker : M) → HaveEnded is_true makes hands_out takes_back store all all owner owner maker maker
    all_left all owner maker = record { ended = 0; split = omega arith; end = none_ended owner maker }

    pub one_less : {all left less : ℕ} {old between new : Owner} {first mid last : M} → left ≡ less + 1 → HaveEnded is_true makes hands_out takes_back store all left old between first mid → SessionsEnd is_true makes hands_out takes_back store 1 between new mid last
        → HaveEnded is_true makes hands_out takes_back store all less old new first last
    one_less {first = first} {mid = mid} {last = last} fewer had one =
        let p : ℕ = store.providers in
        record {
          ended = had.ended + 1;
          split = omega (arith, fewer, had.split);
          end = record {
            leaves = leaves_both had.end.leaves one.leaves;
            out = omega (arith, had.end.out, one.out);
            traffic = traffic_both hands_out takes_back 0 (had.ended * p) 0 (1 * p) 0 ((had.ended + 1) * p) first mid last refl (let e = add-mul had.ended 1 p in omega (arith, e)) had.end.traffic one.traffic;
            maker = makes_both had.end.maker one.maker;
          };
        }

    pub none_left : {all left : ℕ} {old new : Owner} {first last : M} → left ≡ 0 → HaveEnded is_true makes hands_out takes_back store all left old new first last → SessionsEnd is_true makes hands_out takes_back store all old new first last
    none_left {all = all} {old = old} {new = new} {first = first} {last = last} none had =
        let e : had.ended ≡ all = omega (arith, none, had.split) in
        subst (λ (n : ℕ). SessionsEnd is_true makes hands_out takes_back store n old new first last) e had.end
