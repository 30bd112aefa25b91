use Rattle.std.proofs.Common.{◌≡◌, ◌⊎◌, ◌∙◌, ℕ, List, [], ◌∷◌, ◌++◌, ◌+◌, ◌-◌, ◌^◌, ◌<◌, ◌≤◌, min, ap, subst, sym, arith}
use Rattle.std.specs.Prelude.{Result, sum_by, All, IfErr}
use Rattle.turn_lock.specs.History.{Begins}
use Rattle.turn_lock.proofs.Histories.{begins_both}
use Rattle.request_form.specs.Replies.{page_faults}
use Rattle.client_session.specs.Sessions.{SessionState}
use Rattle.workload_run.specs.Updates.{told_faults}
use Rattle.workload_run.proofs.Returns.{rose_stop}
use Rattle.workload_run.specs.Readers.{WatcherState}
use Rattle.request_form.specs.declared.form.Fault.{Fault}
use Rattle.workload_run.specs.Left.{left_faults}
use Rattle.workload_run.specs.WatchCrews.{IsEndable}
use Rattle.workload_run.specs.WatchStages.{IsIdle}
use Rattle.workload_run.specs.Stops.{Stops}
use Rattle.workload_run.proofs.WatchCrews.{all_front, all_last, rose_on, lower, stop_on}
use Rattle.workload_run.proofs.Refusals.{stops_either}
use Rattle.workload_run.proofs.WatchStages.{all_left, one_less, none_left}
use Rattle.workload_run.proofs.watch_ending.end_watchers.Goals as goal

pub loop-watcher-preserved : goal.loop-watcher-preserved
loop-watcher-preserved g c =
    let m = g.M.DoorMaker in
    let counts = m.faults in
    let faults = g.M.Door.Door.faults in
    let i = c.loop-watcher.invariant in
    let e = c.end_idle.ensures in
    let store = c.args.shared.now in
    let one : WatcherState _ = record { reader = c.watcher.inside.reader; told = c.watcher.inside.told } in
    let joined : c.loop-watcher.watchers.items ≡ c.pop.new.self.items ++ one ∷ [] = c.in-Some.ensures.items ∙ ap (λ (w : WatcherState _). c.pop.new.self.items ++ w ∷ []) (sym c.watcher.view_is) in
    let all = subst (λ (l : List (WatcherState _)). All (IsEndable faults store c.args.owner.now.seen) l) joined i.endable in
    let last = all_last (IsEndable faults store c.args.owner.now.seen) c.pop.new.self.items one all in
    let told = c.in-Err.is in
    let session = c.into_session.ensures in
    let counted = subst (λ (t : Result (List ℕ) Fault). sum_by faults one.reader.session.doors < 2 ^ 64 - 1 → told_faults t ≤ sum_by faults one.reader.session.doors) told last.counted in
    let back = subst (λ (s : SessionState _). min (counts c.loop-watcher.maker + sum_by faults s.doors) (2 ^ 64 - 1) ≤ counts c.end_idle.new.maker) session e.doors in
    record {
      owner = e.owner;
      sessions = one_less (sym c.in-Some.ensures.cases) i.sessions e.sessions;
      endable = all_front (IsEndable faults store c.args.owner.now.seen) c.pop.new.self.items one all;
      stop = stops_either store.fixed c.args.owner.now.seen one.reader.session.log c.end_idle.new.owner.seen c.in-Err.fault (begins_both c.args.owner.now.seen c.loop-watcher.owner.seen c.end_idle.new.owner.seen i.sessions.end.leaves.comes.begins e.sessions.leaves.comes.begins)
          (subst (λ (s : SessionState _). Begins s.log c.end_idle.new.owner.seen) session e.begins)
          (subst (λ (t : Result (List ℕ) Fault). IfErr t (λ fault. Stops store.fixed c.args.owner.now.seen fault ⊎ Stops store.fixed one.reader.session.log fault)) told last.stop);
      doors = rose_stop (page_faults c.in-Err.fault) (counts c.args.maker.now) (counts c.loop-watcher.maker) (sum_by faults one.reader.session.doors) (counts c.end_idle.new.maker)
          (lower (left_faults c.loop-watcher.stop) (counts c.args.maker.now) (counts c.loop-watcher.maker) i.doors) counted back;
    }

pub loop-watcher-preserved-in-Ok : goal.loop-watcher-preserved-in-Ok
loop-watcher-preserved-in-Ok g c =
    let m = g.M.DoorMaker in
    let counts = m.faults in
    let faults = g.M.Door.Door.faults in
    let i = c.loop-watcher.invariant in
    let e = c.end_idle.ensures in
    let store = c.args.shared.now in
    let one : WatcherState _ = record { reader = c.watcher.inside.reader; told = c.watcher.inside.told } in
    let joined : c.loop-watcher.watchers.items ≡ c.pop.new.self.items ++ one ∷ [] = c.in-Some.ensures.items ∙ ap (λ (w : WatcherState _). c.pop.new.self.items ++ w ∷ []) (sym c.watcher.view_is) in
    let all = subst (λ (l : List (WatcherState _)). All (IsEndable faults store c.args.owner.now.seen) l) joined i.endable in
    record {
      owner = e.owner;
      sessions = one_less (sym c.in-Some.ensures.cases) i.sessions e.sessions;
      endable = all_front (IsEndable faults store c.args.owner.now.seen) c.pop.new.self.items one all;
      stop = stop_on store.fixed c.loop-watcher.owner.seen c.end_idle.new.owner.seen c.loop-watcher.stop e.sessions.leaves.comes.begins i.stop;
      doors = rose_on (left_faults c.loop-watcher.stop) (counts c.args.maker.now) (counts c.loop-watcher.maker) (sum_by faults c.into_session.result.doors) (counts c.end_idle.new.maker) i.doors e.doors;
    }

pub loop-watcher-init : goal.loop-watcher-init
loop-watcher-init g c = record {
  owner = c.requires.owner;
  sessions = all_left c.args.watchers.len c.args.owner.now c.args.maker.now;
  endable = c.requires.endable;
  stop = tt;
  doors = λ less. omega arith;
}

pub end_idle-requires-clause-idle : goal.end_idle-requires-clause-idle
end_idle-requires-clause-idle g c =
    let store = c.args.shared.now in
    let endable = IsEndable g.M.Door.Door.faults store c.args.owner.now.seen in
    let all = subst (λ (l : List (WatcherState _)). All endable l) c.in-Some.ensures.items c.loop-watcher.invariant.endable in
    let last = all_last endable c.pop.new.self.items c.in-Some.watcher all in
    subst (λ (s : SessionState _). IsIdle store s) (sym (c.into_session.ensures ∙ ap (λ (w : WatcherState _). w.reader.session) c.watcher.view_is)) last.idle

pub returns-clause-sessions : goal.returns-clause-sessions
returns-clause-sessions g c =
    let l = c.loop-watcher in
    none_left c.in_default.ensures.cases.0 l.invariant.sessions

pub returns-clause-doors : goal.returns-clause-doors
returns-clause-doors g c = c.loop-watcher.invariant.doors
