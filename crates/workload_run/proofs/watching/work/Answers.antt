use Rattle.std.proofs.Common.{◌≡◌, ◌∙◌, ◌*◌, List, [], ℕ, length, vec_len, sym, ap, subst, arith}
use Rattle.std.specs.Prelude.{All, IfOk, sum_by}
use Rattle.request_form.specs.Replies.{page_faults}
use Rattle.page_store.specs.Calls.{Traffic}
use Rattle.turn_lock.specs.History.{entries_by, Begins}
use Rattle.turn_lock.proofs.Histories.{begins_both}
use Rattle.client_session.specs.Sessions.{StoreState}
use Rattle.read_board.specs.Fronts.{BoardId}
use Rattle.read_board.specs.declared.refresh.Refresh.{Refresh}
use Rattle.read_board.specs.Keeping.{KeeperState}
use Rattle.read_board.specs.Refreshing.{AllHold}
use Rattle.workload_run.specs.Readers.{WatcherState, StandsAt, HasMet}
use Rattle.workload_run.proofs.Returns.{TookBack, took, none_by, fresh_new}
use Rattle.workload_law.specs.WatchNotes.{HaveNoted}
use Rattle.workload_run.specs.Noting.{IsPieceSeen}
use Rattle.workload_run.specs.WatchEnding.{Finishes, NotesOf}
use Rattle.workload_run.specs.Doors.{EndDoors, MakesAsBefore}
use Rattle.workload_run.proofs.WatchStages.{makes_so, crew_told, crew_ended, taken, makes_both, new_idle, leaves_both, some_created}
use Rattle.workload_run.specs.Updates.{told_faults}
use Rattle.workload_run.specs.Left.{left_faults}
use Rattle.workload_run.specs.WatchCrews.{IsDoneWatching}
use Rattle.workload_run.specs.WatchStages.{Entries, Owner}
use Rattle.workload_run.proofs.WatchCrews.{HaveReadOn, idle_on, all_stand, all_done, all_done_end, rose_told, rose_after, rose_early, all_read, notes_seen}
use Rattle.workload_run.proofs.Works.{WriterBack, ends_by_finish, ends_early, both_done, kept_done, early_counts}
use Rattle.workload_run.proofs.watching.work.Given.{Over}
use Rattle.workload_run.proofs.watching.work.Goals.{After-end_idle}
use Rattle.workload_run.proofs.watching.work.Goals as goal

-- the readers have read
read_on : (g : Over) (c : After-end_idle g) → HaveReadOn g.M.Door.Door.faults c.args.shared.now c.args.callers.keeper.board c.args.owner.now.seen c.work_beside-keeper.result.1.keeping.log
    c.work_beside-keeper.result.0.all c.args.plan.now c.args.callers.crew.watchers.items c.work_beside-keeper.result.1.watchers.items
read_on g c =
    let r = c.work_beside-keeper.result in
    let x = c.work_beside-keeper.ensures in
    let kept = x.kept.refreshes in
    record {
      some = some_created c.args.owner.now.seen c.requires.opened.created;
      from = subst (λ (l : Entries). Begins l r.1.keeping.log) c.requires.keeping.log kept.idles.goes_on.begins;
      hold = subst (λ (t : StoreState). AllHold t.fixed r.1.keeping.log r.0.all) (kept.idles.goes_on.store ∙ c.requires.keeping.of_store) kept.may.hold;
      count = omega (arith, x.count, c.args.callers.crew.watchers.ok.0, r.1.watchers.ok.0);
      ready = c.requires.ready;
      have = x.watched;
      met = subst (λ (l : List (WatcherState _)). All (HasMet r.0.all) l) c.as_slice.ensures.value c.meet_all.ensures.met;
    }

-- the writer's pass came back
writer_back : (g : Over) (c : After-end_idle g)
    → WriterBack c.args.plan.now c.args.shared.now.fixed c.args.callers.crew.writer c.work_beside-keeper.result.1.writer c.work_beside-keeper.result.2 c.args.owner.now c.end_session.new.owner
writer_back g c =
    let w = c.requires.writer in
    let s = c.args.callers.crew.writer in
    let s' = c.work_beside-keeper.result.1.writer in
    let first = c.args.owner.now in
    let x = c.work_beside-keeper.ensures in
    let e = c.end_session.ensures in
    record {
      ends = x.written.ends;
      took = subst (λ (n : ℕ). TookBack n s'.log first c.end_session.new.owner) (x.written.goes_on.caller ∙ w.caller)
          (took c.args.shared.now s'.caller s'.log first c.end_session.new.owner e.counts e.begins e.own e.before e.owner);
      called = c.requires.opened;
      log = w.log;
      fresh = none_by c.entries_are_events.ensures first.seen 2 c.requires.owner.log.tags (subst (λ (l : Entries). entries_by 2 l ≡ []) w.log (subst (λ (n : ℕ). entries_by n s.log ≡ []) w.caller w.none));
      fixed = ap (λ (t : StoreState). t.fixed) w.of_store;
    }

pub work_beside-keeper-requires-clause-fresh : goal.work_beside-keeper-requires-clause-fresh
work_beside-keeper-requires-clause-fresh g c κs within = fresh_new c.entries_are_events.ensures c.requires.owner.log.tags c.requires.limits c.requires.writer

pub end_idle-requires-clause-idle : goal.end_idle-requires-clause-idle
end_idle-requires-clause-idle g c =
    idle_on
    (new_idle c.requires.keeping c.entries_are_events.ensures c.requires.owner.log.tags (omega arith))
    c.work_beside-keeper.ensures.kept.refreshes.idles

pub finish-requires-clause-store : goal.finish-requires-clause-store
finish-requires-clause-store g c κs within =
    ap (λ (k : KeeperState). k.board.store) c.meet_all.ensures.same ∙ (ap (λ (b : BoardId). b.store) c.work_beside-keeper.ensures.kept.refreshes.board ∙ c.requires.board.0)

pub finish-requires-clause-of_one : goal.finish-requires-clause-of_one
finish-requires-clause-of_one g c κs within =
    subst (λ (k : KeeperState). All (λ (r : Refresh). r.blob ≡ 1) k.all) (sym c.meet_all.ensures.same) c.work_beside-keeper.ensures.kept.refreshes.may.of_one

pub finish-requires-clause-hold : goal.finish-requires-clause-hold
finish-requires-clause-hold g c κs within =
    let r = c.work_beside-keeper.result in
    let kept = c.work_beside-keeper.ensures.kept.refreshes in
    let seen = c.end_idle.new.owner.seen in
    let f = c.args.shared.now.fixed in
    subst (λ (k : KeeperState). AllHold f seen k.all) (sym c.meet_all.ensures.same)
    (c.refreshes_stay.ensures f r.1.keeping.log seen r.0.all c.end_idle.ensures.begins
    (subst (λ (t : StoreState). AllHold t.fixed r.1.keeping.log r.0.all) (kept.idles.goes_on.store ∙ c.requires.keeping.of_store) kept.may.hold))

pub finish-requires-clause-passes_left : goal.finish-requires-clause-passes_left
finish-requires-clause-passes_left g c κs within =
    let one = ap (λ (o : Owner). o.made) c.end_session.ensures.counts.1 in
    let two = c.end_idle.ensures.made in
    let made = c.requires.opened.made in
    (omega (arith, one, two, made), omega (arith, one, two, made, c.work_beside-keeper.ensures.count, c.requires.count, c.requires.sized.readers))

pub returns-in-Ok-clause-none_out : goal.returns-in-Ok-clause-none_out
returns-in-Ok-clause-none_out g c =
    omega (arith, c.end_session.ensures.counts.0, c.end_idle.ensures.sessions.out, c.finish.ensures.out, c.requires.opened.out, c.work_beside-keeper.ensures.count, c.requires.count)

pub returns-in-Err-clause-none_out : goal.returns-in-Err-clause-none_out
returns-in-Err-clause-none_out g c =
    omega (arith, c.end_session.ensures.counts.0, c.end_idle.ensures.sessions.out, c.end_watchers-later.ensures.sessions.out, c.requires.opened.out, c.work_beside-keeper.ensures.count, c.requires.count)

pub returns-in-Ok-clause-doors : goal.returns-in-Ok-clause-doors
returns-in-Ok-clause-doors g c =
    let counts = g.M.DoorMaker.faults in
    let faults = g.M.Door.Door.faults in
    let crew = c.work_beside-keeper.result.1 in
    let n = told_faults c.finish.result in
    let one = counts c.end_session.new.maker in
    let two = counts c.end_idle.new.maker in
    let last = counts c.finish.new.doors in
    rose_after n (counts c.args.doors.now) one (sum_by faults crew.writer.doors) last c.end_session.ensures.doors
    (rose_after n one two (sum_by faults crew.keeping.doors) last c.end_idle.ensures.doors c.finish.ensures.doors)

pub returns-in-Err-clause-doors : goal.returns-in-Err-clause-doors
returns-in-Err-clause-doors g c =
    let counts = g.M.DoorMaker.faults in
    let faults = g.M.Door.Door.faults in
    let r = c.work_beside-keeper.result in
    let x = c.work_beside-keeper.ensures in
    let n = told_faults r.2 in
    let first = counts c.args.doors.now in
    let one = counts c.end_session.new.maker in
    rose_early n (page_faults c.in-Err.fault) (left_faults c.end_watchers-later.result) first one (sum_by faults r.1.keeping.doors) (counts c.end_idle.new.maker)
    (counts c.end_watchers-later.new.maker)
    (early_counts r.1.keeping r.2 r.3 c.in-Err.fault x.kept.hindered (sym c.and.ensures ∙ c.in-Err.is))
    (rose_told n first first (sum_by faults c.args.callers.crew.writer.doors) (sum_by faults r.1.writer.doors) one (λ _. omega arith) x.written.rose c.end_session.ensures.doors) c.end_idle.ensures.doors
    c.end_watchers-later.ensures.doors

pub finish-requires-clause-true_doors : goal.finish-requires-clause-true_doors
finish-requires-clause-true_doors g c κs within = c.end_idle.ensures.sessions.maker.truth_stays.0 (c.end_session.ensures.truth_stays.0 c.requires.true_doors)

pub meet_all-requires : goal.meet_all-requires
meet_all-requires g c =
    let ws = c.args.callers.crew.watchers in
    let r = c.work_beside-keeper.result in
    let x = c.work_beside-keeper.ensures in
    let count : length r.1.watchers.items ≡ length ws.items = omega (arith, x.count, ws.ok.0, r.1.watchers.ok.0) in
    let stand = all_stand g.M.Door.Door.faults c.args.shared.now c.args.plan.now c.args.owner.now.seen c.args.callers.keeper.board ws.items r.1.watchers.items count c.requires.ready x.watched in
    record {
      board = subst (λ (l : List (WatcherState _)). All (StandsAt r.0.board) l) (sym c.as_slice.ensures.value) (subst (λ (b : BoardId). All (StandsAt b) r.1.watchers.items) (sym x.kept.refreshes.board) stand);
    }

pub finish-requires-clause-done : goal.finish-requires-clause-done
finish-requires-clause-done g c κs within =
    subst (λ (b : BoardId). All (IsDoneWatching g.M.Door.Door.faults c.args.shared.now c.end_idle.new.owner.seen b) c.work_beside-keeper.result.1.watchers.items)
    (sym (ap (λ (k : KeeperState). k.board) c.meet_all.ensures.same ∙ c.work_beside-keeper.ensures.kept.refreshes.board))
    (all_done g.M.Door.Door.faults c.args.shared.now c.board_reads_tell.ensures.tell (read_on g (goal.at.finish-requires-clause-done g c).After-end_idle) c.end_idle.ensures.begins)

pub end_watchers-later-requires-clause-endable : goal.end_watchers-later-requires-clause-endable
end_watchers-later-requires-clause-endable g c =
    let faults = g.M.Door.Door.faults in
    let store = c.args.shared.now in
    all_done_end faults store c.end_idle.new.owner.seen c.args.callers.keeper.board c.work_beside-keeper.result.1.watchers.items
    (all_done faults store c.board_reads_tell.ensures.tell (read_on g (goal.at.end_watchers-later-requires-clause-endable g c).After-end_idle) c.end_idle.ensures.begins)

pub returns-in-Ok-clause-ends : goal.returns-in-Ok-clause-ends
returns-in-Ok-clause-ends g c =
    let two = c.end_idle.new.owner in
    let r = c.work_beside-keeper.result in
    ends_by_finish c.entries_are_events.ensures c.loads_close.ensures.own (writer_back g (goal.at.returns-in-Ok-clause-ends g c).After-end_idle) (both_done r.2 r.3 c.in-Ok.field-0 (sym c.and.ensures ∙ c.in-Ok.is)) two
    c.finish.new.owner c.end_idle.ensures.sessions.leaves c.finish.result
    (subst (λ (n : ℕ). Finishes c.args.shared.now.fixed n c.finish.result two c.finish.new.owner) (c.work_beside-keeper.ensures.count ∙ c.requires.count) c.finish.ensures.finishes)

pub returns-in-Err-clause-ends : goal.returns-in-Err-clause-ends
returns-in-Err-clause-ends g c =
    let at = (goal.at.returns-in-Err-clause-ends g c).After-end_idle in
    let x = c.work_beside-keeper.ensures in
    let k = c.work_beside-keeper.result.1.keeping in
    let last = c.end_watchers-later.new.owner in
    let later = c.end_watchers-later.ensures.sessions.leaves in
    ends_early c.entries_are_events.ensures c.loads_close.ensures.own (writer_back g at) k c.work_beside-keeper.result.3 last (leaves_both c.end_idle.ensures.sessions.leaves later) (read_on g at).from
    (begins_both k.log c.end_idle.new.owner.seen last.seen c.end_idle.ensures.begins later.comes.begins) x.kept.hindered c.in-Err.fault (sym c.and.ensures ∙ c.in-Err.is)

pub returns-in-Ok-clause-noted : goal.returns-in-Ok-clause-noted
returns-in-Ok-clause-noted g c =
    let on = read_on g (goal.at.returns-in-Ok-clause-noted g c).After-end_idle in
    let plan = c.args.plan.now in
    let store = c.args.shared.now in
    let two = c.end_idle.new.owner in
    let last = c.finish.new.owner in
    let r = c.work_beside-keeper.result in
    let x = c.work_beside-keeper.ensures in
    let readers : length r.1.watchers.items ≡ plan.readers = omega (arith, r.1.watchers.ok.0, x.count, c.requires.count) in
    let refreshed = kept_done r.2 r.3 c.in-Ok.field-0 _ (sym c.and.ensures ∙ c.in-Ok.is) x.kept.count in
    let notes = subst (λ (l : KeeperState). IfOk c.finish.result (λ done. NotesOf l.all r.1.watchers.items last.seen done.0.versions done.1)) c.meet_all.ensures.same c.finish.ensures.noted in
    let seen = λ (more : Begins two.seen last.seen). begins_both r.1.keeping.log two.seen last.seen c.end_idle.ensures.begins more in
    notes_seen plan store.fixed (vec_len r.1.watchers) two last r.0.all r.1.watchers.items (omega (arith, refreshed, ap (λ (l : List Refresh). length l) c.requires.board.1)) x.kept.refreshes.may.of_one
    (λ more. c.refreshes_stay.ensures store.fixed r.1.keeping.log last.seen r.0.all (seen more) on.hold)
    (λ more list ended.
    subst (λ (n : ℕ). HaveNoted (IsPieceSeen store.fixed last.seen) plan.ops n list) readers (all_read g.M.Door.Door.faults store c.board_reads_tell.ensures.tell on (seen more) list ended))
    c.finish.result c.finish.ensures.finishes notes

pub returns-in-Ok-clause-lent : goal.returns-in-Ok-clause-lent
returns-in-Ok-clause-lent g c =
    let m = g.M.DoorMaker in
    let p = c.args.shared.now.providers in
    let count : vec_len c.work_beside-keeper.result.1.watchers ≡ c.args.plan.now.readers = c.work_beside-keeper.ensures.count ∙ c.requires.count in
    crew_told m.hands_out m.takes_back p c.args.plan.now.readers c.args.doors.now c.end_session.new.maker c.end_idle.new.maker c.finish.new.doors c.end_session.ensures.taken_back (taken c.end_idle.ensures.sessions)
    c.finish.result
    (subst (λ (k : ℕ). EndDoors m.hands_out m.takes_back p k c.end_idle.new.maker c.finish.new.doors c.finish.result) count c.finish.ensures.lent)

pub returns-in-Err-clause-lent : goal.returns-in-Err-clause-lent
returns-in-Err-clause-lent g c =
    let m = g.M.DoorMaker in
    let p = c.args.shared.now.providers in
    let mid = c.end_idle.new.maker in
    let last = c.end_watchers-later.new.maker in
    let count : vec_len c.work_beside-keeper.result.1.watchers ≡ c.args.plan.now.readers = c.work_beside-keeper.ensures.count ∙ c.requires.count in
    crew_ended m.hands_out m.takes_back p c.args.plan.now.readers c.args.doors.now c.end_session.new.maker mid last c.end_session.ensures.taken_back (taken c.end_idle.ensures.sessions)
    (subst (λ (k : ℕ). Traffic m.hands_out m.takes_back 0 (k * p) mid last) count c.end_watchers-later.ensures.sessions.traffic)

-- the maker, until the writer's and the keeper's sessions ended
ended : (g : Over) (c : After-end_idle g) → MakesAsBefore g.M.DoorMaker.is_true g.M.DoorMaker.makes c.args.doors.now c.end_idle.new.maker
ended g c =
    let e = c.end_session.ensures in
    makes_both (makes_so g.M.DoorMaker.is_true g.M.DoorMaker.makes c.args.doors.now c.end_session.new.maker e.truth_stays e.plan_stays) c.end_idle.ensures.sessions.maker

pub returns-in-Ok-clause-maker : goal.returns-in-Ok-clause-maker
returns-in-Ok-clause-maker g c = makes_both (ended g (goal.at.returns-in-Ok-clause-maker g c).After-end_idle) c.finish.ensures.maker

pub returns-in-Err-clause-maker : goal.returns-in-Err-clause-maker
returns-in-Err-clause-maker g c = makes_both (ended g (goal.at.returns-in-Err-clause-maker g c).After-end_idle) c.end_watchers-later.ensures.sessions.maker
