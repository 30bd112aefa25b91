-- What the opening and a worker's operation leave.
use Rattle.std.proofs.Common.{◌≡◌, ℕ, List, [], ◌∷◌, ◌++◌, ap, subst, ◌∙◌, suc, ◌+◌, ◌<◌, refl, sym, append_assoc, append-nil, arith}
use Rattle.blob_model.specs.Limits.{Bounds, greatest}
use Rattle.blob_model.specs.History.{events_by}
use Rattle.blob_model.specs.declared.call.Event.{Event}
use Rattle.blob_model.specs.declared.call.Event.TheVariants as Events
use Rattle.blob_model.specs.declared.call.Place.TheVariants.{Append, WriteAt}
use Rattle.request_form.specs.Session.{Fixed, Session}
use Rattle.request_form.specs.declared.form.Fault.{Fault}
use Rattle.workload_law.specs.declared.plan.LoadPlan.{LoadPlan}
use Rattle.workload_law.specs.Load.{zeros_of, operation, cell_offset, HasDone, HasBegun}
use Rattle.workload_law.specs.Ends.{CreateHindered, UpdateHindered, Leaves, LeavesAdd}
use Rattle.workload_law.specs.Closing.{OpeningHindered, OperationHindered, IdleOwnsAll}
use Rattle.workload_run.specs.Updates.{update_events, IsUpdated, IsStopped}
use Rattle.workload_run.specs.declared.updating.Stopped.{Stopped}
use Rattle.workload_run.specs.Callers.{IsFresh}
use Rattle.workload_run.specs.Making.{HasDoneOwn, HasNotMade}
use Rattle.workload_run.specs.Opening.{HasOpened, HasNotOpened}
use Rattle.workload_law.specs.Pieces.{record_of, cell_of}
use Rattle.workload_law.specs.Sessions.{FinishesItsOwn}
use Rattle.workload_law.specs.Laws.{StoppedHaveBegun}
use Rattle.workload_run.specs.Work.{HasOperated, HasStoppedAt, HasWorked, HasEndedEarly}
use Rattle.workload_run.proofs.Updates.{leaves_same}

module _ (adds : LeavesAdd) (plan : LoadPlan) (s : Session) (fresh : IsFresh 0 s) where
  abbrev create_one : List Event
  create_one = Events.Create 1 ∷ []

  abbrev create_both : List Event
  create_both = Events.Create 1 ∷ Events.Create 1 ∷ []

  own_events : (own : List Event) (mid : Session) → HasDoneOwn s own mid → events_by 1 mid.seen ≡ own
  own_events own mid did =
      let mine : events_by 1 mid.seen ≡ events_by 1 s.seen ++ own = subst (λ (c : ℕ). events_by c mid.seen ≡ events_by c s.seen ++ own) fresh.caller did.leaves.mine in
      mine ∙ ap (λ (l : List Event). l ++ own) fresh.none

  caller_at : (own : List Event) (mid : Session) → HasDoneOwn s own mid → mid.caller ≡ 1
  caller_at own mid did = did.leaves.caller ∙ fresh.caller

  limits_at : (own : List Event) (mid : Session) → HasDoneOwn s own mid → mid.fixed.limits ≡ greatest
  limits_at own mid did = ap (λ (f : Fixed). f.limits) did.leaves.fixed ∙ fresh.limits

  pub made_one : (mid : Session) → HasDoneOwn s (Events.Create s.caller ∷ []) mid → HasDoneOwn s create_one mid
  made_one mid did = subst (λ (c : ℕ). HasDoneOwn s (Events.Create c ∷ []) mid) fresh.caller did

  pub made_both : (one two : Session) → HasDoneOwn s create_one one → HasDoneOwn one (Events.Create one.caller ∷ []) two → HasDoneOwn s create_both two
  made_both one two first second =
      let next : Leaves one create_one two = subst (λ (c : ℕ). Leaves one (Events.Create c ∷ []) two) (caller_at create_one one first) second.leaves in
      record { leaves = adds s one two create_one create_one first.leaves next; none_held = second.none_held }

  pub opened : (two s' : Session) → HasDoneOwn s create_both two → IsUpdated two 2 Append (zeros_of plan) s' → HasOpened plan s s'
  opened two s' both done =
      let events : ℕ → List Event = λ c. update_events c 2 Append (zeros_of plan) done.version in
      let filled : Leaves two (events 1) s' = subst (λ (c : ℕ). Leaves two (events c) s') (caller_at create_both two both) done.leaves in
      record { version = done.version; did = record { leaves = adds s two s' create_both (events 1) both.leaves filled; none_held = done.none_held } }

  -- why a blob wasn't made, by caller 1 of a store with the greatest limits
  hindered_at : (own : List Event) (mid s' : Session) (fault : Fault) → HasDoneOwn s own mid → HasNotMade mid fault s' → CreateHindered greatest 1 mid.seen s'.seen fault
  hindered_at own mid s' fault did lost =
      subst (λ (b : Bounds). CreateHindered b 1 mid.seen s'.seen fault) (limits_at own mid did)
      (subst (λ (c : ℕ). CreateHindered mid.fixed.limits c mid.seen s'.seen fault) (caller_at own mid did) lost.hindered)

  did_none : HasDoneOwn s [] s
  did_none = record {
    leaves = leaves_same s;
    none_held = fresh.ready.none_held;
  }

  -- it did this, and then no more
  did_no_more : (own : List Event) (mid s' : Session) → HasDoneOwn s own mid → HasDoneOwn mid [] s' → HasDoneOwn s (own ++ []) s'
  did_no_more own mid s' did none = record { leaves = adds s mid s' own [] did.leaves none.leaves; none_held = none.none_held }

  pub no_log : (fault : Fault) (s' : Session) → HasNotMade s fault s' → HasNotOpened plan fault s s'
  no_log fault s' lost = record {
    own = [];
    did = lost.left;
    first = s.seen;
    hindered = OpeningHindered.in_log (own_events [] s did_none) (hindered_at [] s s' fault did_none lost);
  }

  pub no_grid : (one : Session) (fault : Fault) (s' : Session) → HasDoneOwn s create_one one → HasNotMade one fault s' → HasNotOpened plan fault s s'
  no_grid one fault s' did lost = record {
    own = create_one ++ [];
    did = did_no_more create_one one s' did lost.left;
    first = one.seen;
    hindered = OpeningHindered.in_grid (own_events create_one one did) (hindered_at create_one one s' fault did lost);
  }

  pub no_zeros : (two : Session) (told : Stopped) (s' : Session) → HasDoneOwn s create_both two → IsStopped two 2 Append (zeros_of plan) told s' → HasNotOpened plan told.fault s s'
  no_zeros two told s' did stop =
      let fault : Fault = told.fault in
      let caller : two.caller ≡ 1 = caller_at create_both two did in
      let first : List Event = two.seen ++ stop.more in
      let own : events_by 1 first ≡ create_both = subst (λ (c : ℕ). events_by c first ≡ events_by c two.seen) caller stop.of_others ∙ own_events create_both two did in
      let hindered : UpdateHindered greatest s.fixed.page 1 2 Append (zeros_of plan) first s'.seen fault =
      subst (λ (b : Bounds). UpdateHindered b s.fixed.page 1 2 Append (zeros_of plan) first s'.seen fault) fresh.limits
      (subst (λ (f : Fixed). UpdateHindered f.limits f.page 1 2 Append (zeros_of plan) first s'.seen fault) did.leaves.fixed
      (subst (λ (c : ℕ). UpdateHindered two.fixed.limits two.fixed.page c 2 Append (zeros_of plan) first s'.seen fault) caller stop.hindered)) in
      record {
        own = create_both ++ stop.stopped.own;
        did = record { leaves = adds s two s' create_both stop.stopped.own did.leaves stop.stopped.leaves; none_held = stop.stopped.none_held };
        first = first;
        hindered = OpeningHindered.in_zeros own hindered;
      }

-- ---- one operation

module _ (plan : LoadPlan) (worker op : ℕ) where
  abbrev record_bytes : List ℕ
  record_bytes = record_of worker op

  abbrev cell_bytes : List ℕ
  cell_bytes = cell_of plan.seed worker op

  abbrev record_events : ℕ → List Event
  record_events version = update_events (worker + 1) 1 Append record_bytes version

  abbrev cell_events : ℕ → List Event
  cell_events version = update_events (worker + 1) 2 (WriteAt (cell_offset plan worker op)) cell_bytes version

  module _ (s mid : Session) (caller : s.caller ≡ worker + 1) (wrote : IsUpdated s 1 Append record_bytes mid) where
    pub goes_caller : mid.caller ≡ worker + 1
    goes_caller = wrote.leaves.caller ∙ caller

    record_left : Leaves s (record_events wrote.version) mid
    record_left = subst (λ (c : ℕ). Leaves s (update_events c 1 Append record_bytes wrote.version) mid) caller wrote.leaves

    pub operated : LeavesAdd → (s' : Session) → IsUpdated mid 2 (WriteAt (cell_offset plan worker op)) cell_bytes s' → HasOperated plan worker op s s'
    operated adds s' done =
        let cell_left : Leaves mid (cell_events done.version) s' = subst (λ (c : ℕ). Leaves mid (update_events c 2 (WriteAt (cell_offset plan worker op)) cell_bytes done.version) s') goes_caller done.leaves in
        record {
          log_version = wrote.version;
          grid_version = done.version;
          leaves = adds s mid s' (record_events wrote.version) (cell_events done.version) record_left cell_left;
          none_held = done.none_held;
        }

    pub stopped_in_cell : LeavesAdd → s.fixed.limits ≡ greatest → (s' : Session) (told : Stopped) → IsStopped mid 2 (WriteAt (cell_offset plan worker op)) cell_bytes told s' → HasStoppedAt plan worker op told.fault s s'
    stopped_in_cell adds limits s' told stop =
        let fault : Fault = told.fault in
        let split : stop.stopped.own ++ stop.stopped.rest ≡ cell_events stop.version =
        subst (λ (c : ℕ). stop.stopped.own ++ stop.stopped.rest ≡ update_events c 2 (WriteAt (cell_offset plan worker op)) cell_bytes stop.version) goes_caller stop.stopped.split in
        let hindered : UpdateHindered greatest s.fixed.page (worker + 1) 2 (WriteAt (cell_offset plan worker op)) cell_bytes (mid.seen ++ stop.more) s'.seen fault =
        subst (λ (b : Bounds). UpdateHindered b s.fixed.page (worker + 1) 2 (WriteAt (cell_offset plan worker op)) cell_bytes (mid.seen ++ stop.more) s'.seen fault) limits
        (subst (λ (f : Fixed). UpdateHindered f.limits f.page (worker + 1) 2 (WriteAt (cell_offset plan worker op)) cell_bytes (mid.seen ++ stop.more) s'.seen fault) wrote.leaves.fixed
        (subst (λ (c : ℕ). UpdateHindered mid.fixed.limits mid.fixed.page c 2 (WriteAt (cell_offset plan worker op)) cell_bytes (mid.seen ++ stop.more) s'.seen fault) goes_caller stop.hindered)) in
        let first : mid.seen ++ stop.more ≡ s.seen ++ (wrote.leaves.more ++ stop.more) = ap (λ (l : List Event). l ++ stop.more) wrote.leaves.seen ∙ append_assoc s.seen wrote.leaves.more stop.more in
        record {
          log_version = wrote.version;
          grid_version = stop.version;
          stopped = record {
            own = record_events wrote.version ++ stop.stopped.own;
            rest = stop.stopped.rest;
            split = ap (λ (l : List Event). record_events wrote.version ++ l) split;
            leaves = adds s mid s' (record_events wrote.version) stop.stopped.own record_left stop.stopped.leaves;
            none_held = stop.stopped.none_held;
          };
          more = wrote.leaves.more ++ stop.more;
          hindered = subst (λ (h : List Event). OperationHindered plan s.fixed.page worker op h s'.seen fault) first (OperationHindered.in_cell hindered);
        }

  pub stopped_in_record : (s : Session) → s.caller ≡ worker + 1 → s.fixed.limits ≡ greatest → (s' : Session) (told : Stopped) → IsStopped s 1 Append record_bytes told s' → HasStoppedAt plan worker op told.fault s s'
  stopped_in_record s caller limits s' told stop =
      let fault : Fault = told.fault in
      let split : stop.stopped.own ++ stop.stopped.rest ≡ record_events stop.version =
      subst (λ (c : ℕ). stop.stopped.own ++ stop.stopped.rest ≡ update_events c 1 Append record_bytes stop.version) caller stop.stopped.split in
      let hindered : UpdateHindered greatest s.fixed.page (worker + 1) 1 Append record_bytes (s.seen ++ stop.more) s'.seen fault =
      subst (λ (b : Bounds). UpdateHindered b s.fixed.page (worker + 1) 1 Append record_bytes (s.seen ++ stop.more) s'.seen fault) limits
      (subst (λ (c : ℕ). UpdateHindered s.fixed.limits s.fixed.page c 1 Append record_bytes (s.seen ++ stop.more) s'.seen fault) caller stop.hindered) in
      record {
        log_version = stop.version;
        grid_version = 0;
        stopped = record {
          own = stop.stopped.own;
          rest = stop.stopped.rest ++ cell_events 0;
          split = sym (append_assoc stop.stopped.own stop.stopped.rest (cell_events 0)) ∙ ap (λ (l : List Event). l ++ cell_events 0) split;
          leaves = stop.stopped.leaves;
          none_held = stop.stopped.none_held;
        };
        more = stop.more;
        hindered = OperationHindered.in_record hindered;
      }

-- ---- all of them

pub worked_start : IdleOwnsAll → (plan : LoadPlan) (worker : ℕ) (s : Session) → IsFresh worker s → HasWorked plan worker 0 s s
worked_start idle plan worker s fresh = record {
  more = [];
  seen = sym (append-nil s.seen);
  done = fresh.none;
  own = idle greatest (worker + 1) s.seen fresh.none;
  caller = fresh.caller;
  fixed = refl;
  ready = fresh.ready;
}

module _ (plan : LoadPlan) (worker op : ℕ) (s mid s' : Session) (limits : s.fixed.limits ≡ greatest) (worked : HasWorked plan worker op s mid) where
  seen_more : (own : List Event) (l : Leaves mid own s') → s'.seen ≡ s.seen ++ (worked.more ++ l.more)
  seen_more own l = l.seen ∙ (ap (λ (h : List Event). h ++ l.more) worked.seen ∙ append_assoc s.seen worked.more l.more)

  own_more : (own : List Event) → Leaves mid own s' → events_by (worker + 1) s'.seen ≡ events_by (worker + 1) mid.seen ++ own
  own_more own l = subst (λ (c : ℕ). events_by c s'.seen ≡ events_by c mid.seen ++ own) worked.caller l.mine

  finishes_more : (own : List Event) → Leaves mid own s' → FinishesItsOwn greatest s'.seen (worker + 1)
  finishes_more own l =
      let at : mid.fixed.limits ≡ greatest = ap (λ (f : Fixed). f.limits) worked.fixed ∙ limits in
      let goes : FinishesItsOwn greatest mid.seen (worker + 1) → FinishesItsOwn greatest s'.seen (worker + 1) =
      subst (λ (b : Bounds). FinishesItsOwn b mid.seen (worker + 1) → FinishesItsOwn b s'.seen (worker + 1)) at
      (subst (λ (c : ℕ). FinishesItsOwn mid.fixed.limits mid.seen c → FinishesItsOwn mid.fixed.limits s'.seen c) worked.caller l.finishes) in
      goes worked.own

  pub worked_more : HasOperated plan worker op mid s' → HasWorked plan worker (op + 1) s s'
  worked_more done =
      let events = operation plan worker op done.log_version done.grid_version in
      let all : HasDone plan worker (suc op) (events_by (worker + 1) s'.seen) =
      (events_by (worker + 1) mid.seen, (done.log_version, (done.grid_version, (worked.done, own_more events done.leaves)))) in
      let next : suc op ≡ op + 1 = omega arith in
      record {
        more = worked.more ++ done.leaves.more;
        seen = seen_more events done.leaves;
        done = subst (λ (n : ℕ). HasDone plan worker n (events_by (worker + 1) s'.seen)) next all;
        own = finishes_more events done.leaves;
        caller = done.leaves.caller ∙ worked.caller;
        fixed = done.leaves.fixed ∙ worked.fixed;
        ready = record { none_held = done.none_held; limit = done.leaves.limit worked.ready.limit };
      }

  pub ended_early : StoppedHaveBegun → op < plan.ops → (fault : Fault) → HasStoppedAt plan worker op fault mid s' → HasEndedEarly plan worker fault s s'
  ended_early stopped within fault stop =
      let x = stop.stopped in
      let begun : HasBegun plan worker (events_by (worker + 1) mid.seen ++ x.own) = stopped plan worker op stop.log_version stop.grid_version (events_by (worker + 1) mid.seen) x.own x.rest worked.done within x.split in
      let first : mid.seen ++ stop.more ≡ s.seen ++ (worked.more ++ stop.more) = ap (λ (h : List Event). h ++ stop.more) worked.seen ∙ append_assoc s.seen worked.more stop.more in
      record {
        more = worked.more ++ x.leaves.more;
        seen = seen_more x.own x.leaves;
        begun = subst (λ (h : List Event). HasBegun plan worker h) (sym (own_more x.own x.leaves)) begun;
        own = finishes_more x.own x.leaves;
        none_held = x.none_held;
        op = op;
        is_op = within;
        later = worked.more ++ stop.more;
        hindered =
            subst (λ (f : Fixed). OperationHindered plan f.page worker op (s.seen ++ (worked.more ++ stop.more)) s'.seen fault) worked.fixed
            (subst (λ (h : List Event). OperationHindered plan mid.fixed.page worker op h s'.seen fault) first stop.hindered);
      }
