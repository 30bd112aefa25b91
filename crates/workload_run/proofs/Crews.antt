-- Workers that are made one after another, and that end from the last to the first.
use Rattle.std.proofs.Common.{◌≡◌, inl, inr, ℕ, ◌+◌, ◌-◌, ◌^◌, ◌<◌, ◌≤◌, min, List, [], ◌∷◌, ◌++◌, length, length-append, take, drop, refl, sym, ap, subst, ◌∙◌, append_assoc, append-nil, arith, Contains}
use Rattle.std.specs.Prelude.{Option, Some, None, Ok, Err, slice_index_or, sum_by}
use Rattle.std.proofs.Math.ListN.{get_or-append}
use Rattle.std.proofs.lemmas.List.{get_or_push, drop_all, take_all}
use Rattle.std.proofs.lemmas.List.Sums.{sum_by-append, sum_by-cons}
use Rattle.std.proofs.lemmas.Bool.{cases_lt}
use Rattle.std.proofs.lemmas.List.Elements.{All-nil, All-cons, All-weaker, Contains-append_left, Contains-push}
use Rattle.blob_model.specs.declared.call.Event.{Event}
use Rattle.turn_lock.specs.History.{entries_by, Begins}
use Rattle.turn_lock.specs.Shown.{OwnerView}
use Rattle.turn_lock.proofs.Histories.{begins_both}
use Rattle.version_manager.specs.declared.journal.DeskFixed.{DeskFixed}
use Rattle.request_form.specs.declared.form.Fault.{Fault}
use Rattle.client_session.specs.Sessions.{StoreState}
use Rattle.workload_run.specs.Callers.{Told}
use Rattle.workload_run.specs.Workers.{WorkerState, IsBack, stop_or, IsReadyAt, AreReady, IsOfStore, AreOfStore, AreBack, AreKept, first_stop, counted_by}

abbrev Entries : Type 0
Entries = List (ℕ × Event)

-- what came back stays, as more comes back of other callers
pub back_on : (caller : ℕ) (log one two : Entries) → IsBack caller log one → Begins one two → entries_by caller two ≡ entries_by caller one → IsBack caller log two
back_on caller log one two back more same = (begins_both log one two back.0 more, same ∙ back.1)

pub stopped_by : (told : Told) (fault : Fault) (later : Option Fault) → told ≡ Err fault → Some fault ≡ stop_or told later
stopped_by told fault later is = ap (λ (t : Told). stop_or t later) (sym is)

pub goes_on_with : (told : Told) (done : Unit {0}) (later : Option Fault) → told ≡ Ok done → later ≡ stop_or told later
goes_on_with told done later is = ap (λ (t : Told). stop_or t later) (sym is)

-- a whole list that was lent and came back
pub lent_back : {X : Type 0} (len : ℕ) (new items : List X) → length new ≡ len → length items ≡ len → take len (new ++ drop (length new) items) ≡ new
lent_back {X} len new items full whole =
    let none : drop (length new) items ≡ [] = drop_all (length new) items (omega (arith, full, whole)) in
    let same : new ++ drop (length new) items ≡ new = ap (λ (l : List X). new ++ l) none ∙ append-nil new in
    ap (λ (l : List X). take len l) same ∙ take_all len new (omega (arith, full))

no_items : {X : Type 0} (xs : List X) → length xs ≡ 0 → xs ≡ []
no_items [] none = refl
no_items (x ∷ xs) none = absurd (omega (arith, none))

module _ {D : Type 0} where
  -- ---- one more is made

  module _ (P : ℕ → WorkerState D → Type 0) (xs : List (WorkerState D)) (x : WorkerState D) where
    -- what holds of each place holds of each place of the front
    pub each_front : ((place : ℕ) (d : WorkerState D) → place < length (xs ++ x ∷ []) → P place (slice_index_or (xs ++ x ∷ []) place d)) → (place : ℕ) (d : WorkerState D) → place < length xs → P place (slice_index_or xs place d)
    each_front each place d within =
        subst (λ (w : WorkerState D). P place w) (get_or-append xs (x ∷ []) d place within) (each place d (omega (arith, within, length-append xs (x ∷ []))))

    pub each_last : ((place : ℕ) (d : WorkerState D) → place < length (xs ++ x ∷ []) → P place (slice_index_or (xs ++ x ∷ []) place d)) → P (length xs) x
    each_last each = subst (λ (w : WorkerState D). P (length xs) w) (get_or_push xs x x (length xs) refl) (each (length xs) x (omega (arith, length-append xs (x ∷ []))))

    each_push : ((place : ℕ) (d : WorkerState D) → place < length xs → P place (slice_index_or xs place d)) → P (length xs) x → (place : ℕ) (d : WorkerState D) → place < length (xs ++ x ∷ [])
        → P place (slice_index_or (xs ++ x ∷ []) place d)
    each_push each last place d within =
        elim (cases_lt place (length xs)) [
          | inl less ↦ subst (λ (w : WorkerState D). P place w) (sym (get_or-append xs (x ∷ []) d place less)) (each place d less)
          | inr more ↦
              let is : place ≡ length xs = omega (arith, length-append xs (x ∷ []), within, more) in
              subst (λ (w : WorkerState D). P place w) (sym (get_or_push xs x d place (sym is))) (subst (λ (n : ℕ). P n x) (sym is) last)
        ]

  -- where all are ready and the next one is, all are with that one
  pub ready_push : (faults : D → ℕ) (store : StoreState) (log : Entries) (xs ys : List (WorkerState D)) (x : WorkerState D) → ys ≡ xs ++ x ∷ [] → AreReady faults store log xs
      → IsReadyAt faults store log (length xs) x → AreReady faults store log ys
  ready_push faults store log xs ys x more each last =
      subst (λ (l : List (WorkerState D)). AreReady faults store log l) (sym more) (each_push (λ place w. IsReadyAt faults store log place w) xs x each last)

  -- ---- one more ends

  -- The workers from the last down to some have ended, and the others are left.
  pub record Ending (faults : D → ℕ) (store : StoreState) (old new : OwnerView Event DeskFixed) (before after : ℕ) (all left : List (WorkerState D)) (stop : Option Fault) : Type 0 where
    pub taken : List (WorkerState D)
    pub split : all ≡ left ++ taken
    pub of_store : AreOfStore store left
    pub back : AreBack taken new.seen
    pub kept : AreKept taken new.kept
    pub kept_before : (c : ℕ) → Contains old.kept c → Contains new.kept c
    pub stays : (c : ℕ) → Contains old.kept c → entries_by c new.seen ≡ entries_by c old.seen
    pub made : new.made ≡ old.made
    pub out : old.out ≡ new.out + length taken
    pub seen : Begins old.seen new.seen
    pub stop_is : stop ≡ first_stop taken
    pub counted : min (before + sum_by (counted_by faults) all) (2 ^ 64 - 1) ≤ after + sum_by (counted_by faults) left

  pub none_ended : (faults : D → ℕ) (store : StoreState) (owner : OwnerView Event DeskFixed) (count : ℕ) (all : List (WorkerState D)) → AreOfStore store all → Ending faults store owner owner count count all all None
  none_ended faults store owner count all of_store = record {
    taken = [];
    split = sym (append-nil all);
    of_store = of_store;
    back = All-nil (λ (w : WorkerState D). IsBack (w.number + 1) w.session.log owner.seen);
    kept = All-nil (λ (w : WorkerState D). Contains owner.kept (w.number + 1));
    kept_before = λ c k. k;
    stays = λ c k. refl;
    made = refl;
    out = omega arith;
    seen = ([], sym (append-nil owner.seen));
    stop_is = refl;
    counted = omega arith;
  }

  module _ (faults : D → ℕ) (store : StoreState) (old mid new : OwnerView Event DeskFixed) (before between after : ℕ) (all left : List (WorkerState D)) (worker : WorkerState D) (stop : Option Fault)
      (ending : Ending faults store old mid before between all (left ++ worker ∷ []) stop)
      (counts : (mid.out ≡ new.out + 1) × (new ≡ record mid { out = new.out; seen = new.seen; kept = mid.kept ++ worker.session.caller ∷ [] }))
      (begins : Begins mid.seen new.seen × Begins worker.session.log new.seen)
      (own : entries_by worker.session.caller new.seen ≡ entries_by worker.session.caller worker.session.log)
      (others : (c : ℕ) → Contains mid.kept c → entries_by c new.seen ≡ entries_by c mid.seen)
      (doors : min (between + sum_by faults worker.session.doors) (2 ^ 64 - 1) ≤ after) where
    caller_is : worker.session.caller ≡ worker.number + 1
    caller_is = (each_last (λ place w. IsOfStore store place w) left worker ending.of_store).caller

    kept_is : new.kept ≡ mid.kept ++ worker.session.caller ∷ []
    kept_is = ap (λ (o : OwnerView Event DeskFixed). o.kept) counts.1

    kept_on : (c : ℕ) → Contains mid.kept c → Contains new.kept c
    kept_on c k = subst (λ (l : List ℕ). Contains l c) (sym kept_is) (Contains-append_left mid.kept (worker.session.caller ∷ []) c k)

    kept_own : Contains new.kept (worker.number + 1)
    kept_own = subst (λ (n : ℕ). Contains new.kept n) caller_is (subst (λ (l : List ℕ). Contains l worker.session.caller) (sym kept_is) (Contains-push mid.kept worker.session.caller))

    back_own : IsBack (worker.number + 1) worker.session.log new.seen
    back_own = (begins.1, subst (λ (n : ℕ). entries_by n new.seen ≡ entries_by n worker.session.log) caller_is own)

    sum_left : sum_by (counted_by faults) (left ++ worker ∷ []) ≡ sum_by (counted_by faults) left + counted_by faults worker
    sum_left =
        let joined = sum_by-append (counted_by faults) left (worker ∷ []) in
        let one = sum_by-cons (counted_by faults) worker [] in
        omega (arith, joined, one)

    pub one_ended : (stop' : Option Fault) → stop' ≡ stop_or worker.told stop → Ending faults store old new before after all left stop'
    one_ended stop' stopped = record {
      taken = worker ∷ ending.taken;
      split = ending.split ∙ append_assoc left (worker ∷ []) ending.taken;
      of_store = each_front (λ place w. IsOfStore store place w) left worker ending.of_store;
      back =
          All-cons (λ (w : WorkerState D). IsBack (w.number + 1) w.session.log new.seen) worker ending.taken back_own
          (λ place d within.
          let w = slice_index_or ending.taken place d in
          back_on (w.number + 1) w.session.log mid.seen new.seen (ending.back place d within) begins.0 (others (w.number + 1) (ending.kept place d within)));
      kept = All-cons (λ (w : WorkerState D). Contains new.kept (w.number + 1)) worker ending.taken kept_own (All-weaker (λ (w : WorkerState D). Contains mid.kept (w.number + 1)) (λ (w : WorkerState D). Contains new.kept (w.number + 1)) (λ w k. kept_on (w.number + 1) k) ending.taken ending.kept);
      kept_before = λ c k. kept_on c (ending.kept_before c k);
      stays = λ c k. others c (ending.kept_before c k) ∙ ending.stays c k;
      made = ap (λ (o : OwnerView Event DeskFixed). o.made) counts.1 ∙ ending.made;
      out = omega (arith, ending.out, counts.0);
      seen = begins_both old.seen mid.seen new.seen ending.seen begins.0;
      stop_is = stopped ∙ ap (λ (s : Option Fault). stop_or worker.told s) ending.stop_is;
      counted = omega (arith, ending.counted, sum_left, doors);
    }

  module _ (faults : D → ℕ) (store : StoreState) (old new : OwnerView Event DeskFixed) (before after : ℕ) (all left : List (WorkerState D)) (stop : Option Fault)
      (ending : Ending faults store old new before after all left stop) (none : length left ≡ 0) where
    all_taken : all ≡ ending.taken
    all_taken = ending.split ∙ ap (λ (l : List (WorkerState D)). l ++ ending.taken) (no_items left none)

    pub all_back : AreBack all new.seen
    all_back = subst (λ (l : List (WorkerState D)). AreBack l new.seen) (sym all_taken) ending.back

    pub all_kept : AreKept all new.kept
    all_kept = subst (λ (l : List (WorkerState D)). AreKept l new.kept) (sym all_taken) ending.kept
