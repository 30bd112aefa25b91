use Rattle.std.proofs.Common.{◌≡◌, ◌∙◌, List, Bool, ◌+◌, ◌≤◌, vec_len, ap, subst, arith}
use Rattle.std.specs.Prelude.{All, IfSome, Option}
use mir.Val.{bool_byte}
use Rattle.request_form.specs.declared.form.Fault.{Fault}
use Rattle.workload_run.specs.Readers.{WatcherState}
use Rattle.workload_run.specs.Stops.{Stops}
use Rattle.workload_run.specs.Left.{left_faults}
use Rattle.workload_run.specs.WatchCrews.{IsDoneWatching}
use Rattle.workload_run.proofs.WatchCrews.{done_on, ReadSoFar, none_so_far, more_so_far, all_so_far, AgreeSoFar, all_front, all_last, agree_more, stop_on}
use Rattle.workload_run.proofs.WatchStages.{all_left, one_less, none_left}
use Rattle.workload_run.proofs.watch_ending.agree_all.Goals as goal

pub loop-watcher-preserved-in-Ok : goal.loop-watcher-preserved-in-Ok
loop-watcher-preserved-in-Ok g c =
    let e = c.in-Ok.ensures in
    let i = c.loop-watcher.invariant in
    let done = IsDoneWatching g.M.Door.Door.faults c.args.shared.now c.args.owner.now.seen c.args.standard.now.keeper.board in
    let all = subst (λ (l : List (WatcherState _)). All done l) c.in-Some.ensures.items i.done in
    let len : vec_len c.loop-watcher.watchers ≡ vec_len c.pop.new.self + 1 = omega (arith, c.in-Some.ensures.cases) in
    let one : c.from-agree.result ≡ 1 = c.from-agree.ensures ∙ ap (λ (b : Bool). bool_byte b) e.agrees in
    record {
      owner = e.owner;
      agree = agree_more c.loop-watcher.stop c.loop-watcher.agree c.from-agree.result (vec_len c.loop-watcher.watchers) (vec_len c.pop.new.self) (vec_len c.args.watchers) i.agree one len;
      sessions = one_less len i.sessions c.agree_with.ensures.sessions;
      made = (omega (arith, i.made.0, e.made.0), omega (arith, i.made.1, e.made.1, len));
      few = omega (arith, i.few, one, len);
      stop = stop_on c.args.shared.now.fixed c.loop-watcher.owner.seen c.agree_with.new.owner.seen c.loop-watcher.stop e.sessions.leaves.comes.begins i.stop;
      doors = λ less. (let low = e.doors less in omega (arith, i.doors (omega (arith, low, less)), low));
      done = all_front done c.pop.new.self.items c.in-Some.watcher all;
      seen = e.seen;
      read = more_so_far c.loop-watcher.stop c.loop-watcher.owner.seen c.agree_with.new.owner.seen c.args.watchers.items c.loop-watcher.watchers.items c.pop.new.self.items c.in-Some.watcher _
          c.loop-watcher.readings _ e.sessions.leaves.comes.begins c.in-Some.ensures.items e.ended c.put_before.ensures i.read;
    }

pub loop-watcher-preserved : goal.loop-watcher-preserved
loop-watcher-preserved g c =
    let e = c.in-Err.ensures in
    let i = c.loop-watcher.invariant in
    let done = IsDoneWatching g.M.Door.Door.faults c.args.shared.now c.args.owner.now.seen c.args.standard.now.keeper.board in
    let all = subst (λ (l : List (WatcherState _)). All done l) c.in-Some.ensures.items i.done in
    let len : vec_len c.loop-watcher.watchers ≡ vec_len c.pop.new.self + 1 = omega (arith, c.in-Some.ensures.cases) in
    record {
      owner = e.owner;
      agree = tt;
      sessions = one_less len i.sessions c.agree_with.ensures.sessions;
      made = (omega (arith, i.made.0, e.made.0), omega (arith, i.made.1, e.made.1, len));
      few = omega (arith, i.few, len);
      stop = e.stop;
      doors = λ less. (let low = e.doors less in omega (arith, i.doors (omega (arith, low, less)), low));
      done = all_front done c.pop.new.self.items c.in-Some.watcher all;
      seen = e.seen;
      read = tt;
    }

pub agree_with-requires-clause-done : goal.agree_with-requires-clause-done
agree_with-requires-clause-done g c =
    let done = IsDoneWatching g.M.Door.Door.faults c.args.shared.now c.args.owner.now.seen c.args.standard.now.keeper.board in
    done_on g.M.Door.Door.faults c.args.shared.now c.args.owner.now.seen c.loop-watcher.owner.seen c.args.standard.now.keeper.board c.loop-watcher.invariant.sessions.end.leaves.comes.begins c.in-Some.watcher
    (all_last done c.pop.new.self.items c.in-Some.watcher (subst (λ (l : List (WatcherState _)). All done l) c.in-Some.ensures.items c.loop-watcher.invariant.done))

pub returns-in-Some-stop-clause-stop : goal.returns-in-Some-stop-clause-stop
returns-in-Some-stop-clause-stop g c = subst (λ (o : Option Fault). IfSome o (Stops c.args.shared.now.fixed c.loop-watcher.owner.seen)) c.in-Some-stop.is c.loop-watcher.invariant.stop

pub loop-watcher-init : goal.loop-watcher-init
loop-watcher-init g c = record {
  owner = c.requires.owner;
  agree = omega arith;
  sessions = all_left (vec_len c.args.watchers) c.args.owner.now c.args.maker.now;
  made = c.requires.passes_left;
  few = omega arith;
  done = c.requires.done;
  seen = c.requires.seen;
  read = none_so_far c.args.owner.now.seen c.args.watchers.items _ c.none-readings.ensures;
  stop = tt;
  doors = λ less. omega arith;
}

pub agree_with-requires-clause-passes_left : goal.agree_with-requires-clause-passes_left
agree_with-requires-clause-passes_left g c =
    let made = c.loop-watcher.invariant.made in
    (made.0, omega (arith, made.1, c.in-Some.ensures.cases))

pub overflow_add-agree : goal.overflow_add-agree
overflow_add-agree g c =
    let i = c.loop-watcher.invariant in
    let one : c.from-agree.result ≡ 1 = c.from-agree.ensures ∙ ap (λ (b : Bool). bool_byte b) c.in-Ok.ensures.agrees in
    omega (arith, i.few, one, c.in-Some.ensures.cases, c.requires.passes_left.1)

pub returns-in-None-clause-all : goal.returns-in-None-clause-all
returns-in-None-clause-all g c =
    let l = c.loop-watcher in
    let so = subst (λ (o : Option Fault). AgreeSoFar o l.agree (vec_len l.watchers) (vec_len c.args.watchers)) c.in-None.is l.invariant.agree in
    omega (arith, so, c.in_default.ensures.cases.0)

pub returns-in-None-clause-doors : goal.returns-in-None-clause-doors
returns-in-None-clause-doors g c = λ less. let low = c.loop-watcher.invariant.doors less in omega (arith, low)

pub returns-in-Some-stop-clause-doors : goal.returns-in-Some-stop-clause-doors
returns-in-Some-stop-clause-doors g c = λ less.
    let counts = g.M.DoorMaker.faults in
    subst (λ (o : Option Fault). counts c.args.maker.now + left_faults o ≤ counts c.loop-watcher.maker) c.in-Some-stop.is (c.loop-watcher.invariant.doors less)

pub returns-in-None-clause-ended : goal.returns-in-None-clause-ended
returns-in-None-clause-ended g c =
    let l = c.loop-watcher in
    let so = subst (λ (o : Option Fault). ReadSoFar o l.owner.seen c.args.watchers.items l.watchers.items l.readings) c.in-None.is l.invariant.read in
    all_so_far l.owner.seen c.args.watchers.items l.watchers.items l.readings (omega (arith, l.watchers.ok.0, c.in_default.ensures.cases.0)) so

pub returns-in-Some-stop-clause-sessions : goal.returns-in-Some-stop-clause-sessions
returns-in-Some-stop-clause-sessions g c =
    let l = c.loop-watcher in
    none_left c.in_default.ensures.cases.0 l.invariant.sessions

pub returns-in-None-clause-sessions : goal.returns-in-None-clause-sessions
returns-in-None-clause-sessions g c =
    let l = c.loop-watcher in
    none_left c.in_default.ensures.cases.0 l.invariant.sessions
