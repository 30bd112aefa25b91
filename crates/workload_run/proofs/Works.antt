-- How the writer's work ends, and by it the watch's.
use Rattle.std.proofs.Common.{◌≡◌, ℕ, zero, suc, ◌+◌, ◌-◌, ◌<◌, List, [], ◌++◌, refl, sym, ap, subst, ◌∙◌, append_assoc, append-nil, arith, ◌≤◌}
use Rattle.std.specs.Prelude.{Result, Ok, Err, IfErr, OnOk}
use Rattle.std.specs.Result.{result_and}
use Rattle.blob_model.specs.Limits.{Bounds, greatest}
use Rattle.blob_model.specs.History.{events_by}
use Rattle.blob_model.specs.declared.call.Event.{Event}
use Rattle.blob_model.specs.declared.call.Place.TheVariants.{Append}
use Rattle.request_form.specs.Session.{Fixed, Session}
use Rattle.request_form.specs.declared.form.Fault.{Fault}
use Rattle.workload_law.specs.Sessions.{FinishesItsOwn}
use Rattle.workload_law.specs.Ends.{Leaves, UpdateHindered, IsOutside}
use Rattle.workload_law.specs.Closing.{IdleOwnsAll, OwnsStay}
use Rattle.workload_run.specs.Updates.{update_events, IsUpdated, IsStopped, told_faults}
use Rattle.workload_run.specs.Callers.{IsFresh, Told}
use Rattle.workload_run.specs.declared.updating.Stopped.{Stopped}
use Rattle.workload_law.specs.declared.watch_plan.WatchPlan.{WatchPlan}
use Rattle.workload_law.specs.Watch.{piece_of, operation, HasWritten, HasBegun}
use Rattle.workload_run.specs.Writing.{Wrote, StoppedWriting, WriteEnds}
use Rattle.turn_lock.specs.History.{Begins}
use Rattle.turn_lock.proofs.Histories.{begins_both}
use Rattle.version_manager.specs.Log.{events}
use Rattle.version_manager.specs.Laws.{EntriesAreEvents}
use Rattle.version_manager.specs.declared.journal.DeskFixed.{DeskFixed}
use Rattle.request_form.specs.Replies.{page_faults}
use Rattle.client_session.specs.Sessions.{SessionState, session_of}
use Rattle.workload_law.specs.declared.watch_plan.WatchSummary.{WatchSummary}
use Rattle.workload_law.specs.WatchNotes.{NotesState}
use Rattle.workload_run.specs.WatchEnding.{HasWrittenAll, EndsBy, FinishHindered, Finishes, WatchEnds}
use Rattle.workload_run.specs.Keeping.{RefreshHindered}
use Rattle.workload_run.specs.WatchStages.{Entries, Owner, IsWatched, LeavesWatch, IsCalled}
use Rattle.workload_run.proofs.Returns.{TookBack, own_by}
use Rattle.workload_run.proofs.Lasts.{no_page}
use Rattle.workload_run.proofs.WatchStages.{writer_back}

-- ---- events of more operations
-- the first operations' events go on to those of more operations
goes_to : (plan : WatchPlan) (n k : ℕ) (es : List Event) → HasWritten plan n es → (rest : List Event) × HasWritten plan (n + k) (es ++ rest)
goes_to plan n zero es all =
    let same : n ≡ n + 0 = omega arith in
    ([], subst (λ (m : ℕ). HasWritten plan m (es ++ [])) same (subst (λ (l : List Event). HasWritten plan n l) (sym (append-nil es)) all))
goes_to plan n (suc k) es all =
    let before = goes_to plan n k es all in
    let next : suc (n + k) ≡ n + suc k = omega arith in
    let more : HasWritten plan (suc (n + k)) (es ++ (before.0 ++ operation plan (n + k) 0)) =
    (es ++ before.0, (0, (before.1, sym (append_assoc es before.0 (operation plan (n + k) 0)))))
    in
    (before.0 ++ operation plan (n + k) 0, subst (λ (m : ℕ). HasWritten plan m (es ++ (before.0 ++ operation plan (n + k) 0))) next more)

-- a writer that stopped within an operation has begun
begun_within : (plan : WatchPlan) (op version : ℕ) (before own rest : List Event) → HasWritten plan op before → op < plan.ops → own ++ rest ≡ operation plan op version → HasBegun plan (before ++ own)
begun_within plan op version before own rest was within split =
    let one : HasWritten plan (suc op) ((before ++ own) ++ rest) =
    (before, (version, (was, append_assoc before own rest ∙ ap (λ (l : List Event). before ++ l) split)))
    in
    let all = goes_to plan (suc op) (plan.ops - suc op) ((before ++ own) ++ rest) one in
    let count : suc op + (plan.ops - suc op) ≡ plan.ops = omega (arith, within) in (
      rest ++ all.0,
      subst (λ (l : List Event). HasWritten plan plan.ops l) (append_assoc (before ++ own) rest all.0) (subst (λ (m : ℕ). HasWritten plan m (((before ++ own) ++ rest) ++ all.0)) count all.1),
    )

-- ---- the work
pub wrote_none : IdleOwnsAll → (plan : WatchPlan) (s : Session) → IsFresh 1 s → Wrote plan 0 s s
wrote_none idle plan s fresh = record {
  more = [];
  seen = sym (append-nil s.seen);
  written = fresh.none;
  own = idle greatest 2 s.seen fresh.none;
  caller = fresh.caller;
  fixed = refl;
  ready = fresh.ready;
}

module _ (plan : WatchPlan) (op : ℕ) (s mid s' : Session) (limits : s.fixed.limits ≡ greatest) (wrote : Wrote plan op s mid) where
  seen_more : (own : List Event) (l : Leaves mid own s') → s'.seen ≡ s.seen ++ (wrote.more ++ l.more)
  seen_more own l = l.seen ∙ (ap (λ (h : List Event). h ++ l.more) wrote.seen ∙ append_assoc s.seen wrote.more l.more)

  own_more : (own : List Event) → Leaves mid own s' → events_by 2 s'.seen ≡ events_by 2 mid.seen ++ own
  own_more own l = subst (λ (c : ℕ). events_by c s'.seen ≡ events_by c mid.seen ++ own) wrote.caller l.mine

  mid_limits : mid.fixed.limits ≡ greatest
  mid_limits = ap (λ (f : Fixed). f.limits) wrote.fixed ∙ limits

  finishes_more : (own : List Event) → Leaves mid own s' → FinishesItsOwn greatest s'.seen 2
  finishes_more own l =
      let goes : FinishesItsOwn greatest mid.seen 2 → FinishesItsOwn greatest s'.seen 2 =
      subst (λ (b : Bounds). FinishesItsOwn b mid.seen 2 → FinishesItsOwn b s'.seen 2) mid_limits
      (subst (λ (c : ℕ). FinishesItsOwn mid.fixed.limits mid.seen c → FinishesItsOwn mid.fixed.limits s'.seen c) wrote.caller l.finishes)
      in
      goes wrote.own

  pub wrote_more : IsUpdated mid 1 Append (piece_of plan op) s' → Wrote plan (op + 1) s s'
  wrote_more done =
      let events : List Event = update_events mid.caller 1 Append (piece_of plan op) done.version in
      let own : events_by 2 s'.seen ≡ events_by 2 mid.seen ++ operation plan op done.version =
      own_more events done.leaves ∙ ap (λ (c : ℕ). events_by 2 mid.seen ++ update_events c 1 Append (piece_of plan op) done.version) wrote.caller
      in
      let all : HasWritten plan (suc op) (events_by 2 s'.seen) = (events_by 2 mid.seen, (done.version, (wrote.written, own))) in
      let next : suc op ≡ op + 1 = omega arith in
      record {
        more = wrote.more ++ done.leaves.more;
        seen = seen_more events done.leaves;
        written = subst (λ (n : ℕ). HasWritten plan n (events_by 2 s'.seen)) next all;
        own = finishes_more events done.leaves;
        caller = done.leaves.caller ∙ wrote.caller;
        fixed = done.leaves.fixed ∙ wrote.fixed;
        ready = record { none_held = done.none_held; limit = done.leaves.limit wrote.ready.limit };
      }

  pub stopped_writing : op < plan.ops → (told : Stopped) → IsStopped mid 1 Append (piece_of plan op) told s' → StoppedWriting plan told.fault s s'
  stopped_writing within told stop =
      let fault : Fault = told.fault in
      let x = stop.stopped in
      let split : x.own ++ x.rest ≡ operation plan op stop.version = x.split ∙ ap (λ (c : ℕ). update_events c 1 Append (piece_of plan op) stop.version) wrote.caller in
      let begun : HasBegun plan (events_by 2 mid.seen ++ x.own) = begun_within plan op stop.version (events_by 2 mid.seen) x.own x.rest wrote.written within split in
      let first : mid.seen ++ stop.more ≡ s.seen ++ (wrote.more ++ stop.more) = ap (λ (h : List Event). h ++ stop.more) wrote.seen ∙ append_assoc s.seen wrote.more stop.more in
      let hindered : UpdateHindered greatest s.fixed.page 2 1 Append (piece_of plan op) (mid.seen ++ stop.more) s'.seen fault =
      subst (λ (b : Bounds). UpdateHindered b s.fixed.page 2 1 Append (piece_of plan op) (mid.seen ++ stop.more) s'.seen fault) limits
      (subst (λ (f : Fixed). UpdateHindered f.limits f.page 2 1 Append (piece_of plan op) (mid.seen ++ stop.more) s'.seen fault) wrote.fixed
      (subst (λ (c : ℕ). UpdateHindered mid.fixed.limits mid.fixed.page c 1 Append (piece_of plan op) (mid.seen ++ stop.more) s'.seen fault) wrote.caller stop.hindered))
      in
      record {
        begun = subst (λ (h : List Event). HasBegun plan h) (sym (own_more x.own x.leaves)) begun;
        own = finishes_more x.own x.leaves;
        op = op;
        later = wrote.more ++ stop.more;
        hindered = subst (λ (h : List Event). UpdateHindered greatest s.fixed.page 2 1 Append (piece_of plan op) h s'.seen fault) first hindered;
      }

-- ---- the writer
begun_by : {D : Type 0} (plan : WatchPlan) (s s' : SessionState D) (told : Told) → WriteEnds plan told (session_of s) (session_of s') → HasBegun plan (events_by 2 (events s'.log))
begun_by plan s s' (Ok done) ends = ([], subst (λ (l : List Event). HasWritten plan plan.ops l) (sym (append-nil (events_by 2 (events s'.log)))) ends.written)
begun_by plan s s' (Err fault) ends = ends.begun

own_of : {D : Type 0} (plan : WatchPlan) (s s' : SessionState D) (told : Told) → WriteEnds plan told (session_of s) (session_of s') → FinishesItsOwn greatest (events s'.log) 2
own_of plan s s' (Ok done) ends = ends.own
own_of plan s s' (Err fault) ends = ends.own

-- the writer's pass came back, the first after the opening
pub record WriterBack {D : Type 0} (plan : WatchPlan) (f : DeskFixed) (s s' : SessionState D) (told : Told) (first one : Owner) : Type 0 where
  pub ends : WriteEnds plan told (session_of s) (session_of s')
  pub took : TookBack 2 s'.log first one
  pub called : IsCalled first plan.readers
  pub log : s.log ≡ first.seen
  pub fresh : events_by 2 (events first.seen) ≡ []
  pub fixed : s.store.fixed ≡ f

module _ {D : Type 0} (are : EntriesAreEvents) (stay : OwnsStay) {plan : WatchPlan} {f : DeskFixed} {s s' : SessionState D} {told : Told} {first one : Owner} (w : WriterBack plan f s s' told first one) where
  pub watched_one : IsWatched plan first.seen one
  watched_one = writer_back are stay s'.log first one w.took w.called.kept w.called.created w.fresh (own_of plan s s' told w.ends) plan (begun_by plan s s' told w.ends)

  -- all later passes came back too
  module _ (last : Owner) (leaves : LeavesWatch one last) where
    watched_last : IsWatched plan first.seen last
    watched_last = leaves.watched plan first.seen watched_one

    log_last : Begins s'.log last.seen
    log_last = begins_both s'.log one.seen last.seen w.took.begins_log leaves.comes.begins

    -- the writer stopped
    pub ends_by_writer : (fault : Fault) → told ≡ Err fault → EndsBy plan f last fault
    ends_by_writer fault is =
        let stop : StoppedWriting plan fault (session_of s) (session_of s') = subst (λ (t : Told). WriteEnds plan t (session_of s) (session_of s')) is w.ends in
        EndsBy.writer first.seen watched_last stop.op s'.log stop.later log_last
        (subst (λ (x : DeskFixed). UpdateHindered greatest x.page_size 2 1 Append (piece_of plan stop.op) (events first.seen ++ stop.later) (events s'.log) fault) w.fixed
        (subst (λ (l : Entries). UpdateHindered greatest s.store.fixed.page_size 2 1 Append (piece_of plan stop.op) (events l ++ stop.later) (events s'.log) fault) w.log stop.hindered))

    -- the keeper stopped
    pub ends_by_keeper : (k : SessionState D) (fault : Fault) → Begins first.seen k.log → Begins k.log last.seen → RefreshHindered k fault → EndsBy plan f last fault
    ends_by_keeper k fault from to (RefreshHindered.starved is) = EndsBy.outside (IsOutside.starved is)
    ends_by_keeper k fault from to (RefreshHindered.missing is none) = EndsBy.missing first.seen watched_last k.log from to none

  -- both came to their ends
  module _ (is : told ≡ Ok tt) (two three : Owner) (leaves : LeavesWatch one two) where
    written_one : HasWritten plan plan.ops (events_by 2 (events one.seen))
    written_one =
        let wrote : Wrote plan plan.ops (session_of s) (session_of s') = subst (λ (t : Told). WriteEnds plan t (session_of s) (session_of s')) is w.ends in
        subst (λ (l : List Event). HasWritten plan plan.ops l) (sym (own_by are w.took)) wrote.written

    watched_two : IsWatched plan first.seen two
    watched_two = leaves.watched plan first.seen watched_one

    written_all : LeavesWatch two three → HasWrittenAll plan two.seen three
    written_all more = record {
      written =
          subst (λ (l : List Event). HasWritten plan plan.ops l) (sym (more.comes.stays 2 watched_two.kept_writer ∙ leaves.comes.stays 2 watched_one.kept_writer)) written_one;
      created = sym (more.comes.stays 1 watched_two.kept_first);
      same = sym (more.comes.stays 2 watched_two.kept_writer);
      begins = more.comes.begins;
    }

    by_hindered : (fault : Fault) → FinishHindered f two three fault → EndsBy plan f three fault
    by_hindered fault (FinishHindered.stops more by) = EndsBy.stops first.seen (more.watched plan first.seen watched_two) by
    by_hindered fault (FinishHindered.missing more seen from to none) =
        EndsBy.missing first.seen (more.watched plan first.seen watched_two) seen (begins_both first.seen two.seen seen watched_two.begins from) to none
    by_hindered fault (FinishHindered.too_long more seen to version size last long) =
        EndsBy.too_long first.seen two.seen seen (more.watched plan first.seen watched_two) (written_all more) to version size last long

    pub ends_by_finish : (all : Result (WatchSummary × NotesState) Fault) → Finishes f plan.readers all two three → WatchEnds plan f all three
    ends_by_finish (Ok told) done =
        (first.seen, (two.seen, (done.seen, (done.leaves.watched plan first.seen watched_two, (written_all done.leaves, (done.begins, (done.last, done.agree)))))))
    ends_by_finish (Err fault) by = by_hindered fault by

-- ---- one or the other stopped
same_count : (a b : Told) → a ≡ b → told_faults a ≡ told_faults b
same_count a b same = ap (λ (t : Told). told_faults t) same

module _ {D : Type 0} (are : EntriesAreEvents) (stay : OwnsStay) {plan : WatchPlan} {f : DeskFixed} {s s' : SessionState D} {written : Told} {first one : Owner} (b : WriterBack plan f s s' written first one)
    (k : SessionState D) (kept : Told) (last : Owner) (leaves : LeavesWatch one last) (from : Begins first.seen k.log) (to : Begins k.log last.seen) (hindered : IfErr kept (RefreshHindered k)) where
  stopped_by : (w x : Told) → written ≡ w → kept ≡ x → (fault : Fault) → result_and w x ≡ Err fault → EndsBy plan f last fault
  stopped_by (Err stop) x is also fault which = ends_by_writer are stay b last leaves fault (is ∙ which)
  stopped_by (Ok done) x is also fault which = ends_by_keeper are stay b last leaves k fault from to (subst (λ (t : Told). IfErr t (RefreshHindered k)) (also ∙ which) hindered)

  pub ends_early : (fault : Fault) → result_and written kept ≡ Err fault → EndsBy plan f last fault
  ends_early fault which = stopped_by written kept refl refl fault which

-- no page was lost but by the writer
pub early_counts : {D : Type 0} (k : SessionState D) (written kept : Told) (fault : Fault) → IfErr kept (RefreshHindered k) → result_and written kept ≡ Err fault
    → page_faults fault ≤ told_faults written
early_counts k (Err stop) kept fault hindered which = (let same = same_count (Err stop) (Err fault) which in omega (arith, same))
early_counts k (Ok done) (Err stop) fault hindered which =
    let same = same_count (Err stop) (Err fault) which in
    let none = no_page k stop hindered in
    omega (arith, same, none)
early_counts k (Ok done) (Ok also) fault hindered which = absurd (let no : Ok also ≡ Err fault = which in cc)

-- so of the keeper what holds where it came to its end
pub kept_done : (written kept : Told) (done : Unit {0}) (P : Type 0) → result_and written kept ≡ Ok done → OnOk kept P → P
kept_done (Ok done) (Ok also) one P which p = p
kept_done (Ok done) (Err fault) one P which p = absurd (let no : Err fault ≡ Ok one = which in cc)
kept_done (Err fault) kept one P which p = absurd (let no : Err fault ≡ Ok one = which in cc)

pub both_done : (written kept : Told) (done : Unit {0}) → result_and written kept ≡ Ok done → written ≡ Ok tt
both_done (Ok done) kept one which = refl
both_done (Err fault) kept one which = absurd (let no : Err fault ≡ Ok one = which in cc)
