use Rattle.std.proofs.Common.{◌⊎◌, ◌∙◌, ℕ, List, ◌+◌, ◌-◌, ◌^◌, ◌<◌, ◌≤◌, min, ap, subst, sym, arith}
use Rattle.std.specs.Prelude.{Result, sum_by, IfErr}
use Rattle.request_form.specs.Replies.{page_faults}
use Rattle.client_session.specs.Sessions.{SessionState}
use Rattle.turn_lock.specs.History.{Begins}
use Rattle.workload_run.specs.Readers.{WatcherState}
use Rattle.request_form.specs.declared.form.Fault.{Fault}
use Rattle.workload_run.specs.Updates.{told_faults}
use Rattle.workload_run.proofs.Returns.{rose_stop}
use Rattle.workload_run.specs.Stops.{Stops}
use Rattle.workload_run.proofs.WatchCrews.{seen_on}
use Rattle.workload_run.proofs.Refusals.{stops_either}
use Rattle.workload_run.proofs.watch_ending.agree_with.Goals as goal

pub returns-in-Err-clause-stop : goal.returns-in-Err-clause-stop
returns-in-Err-clause-stop g c =
    let w = c.args.watcher in
    let f = c.args.shared.now.fixed in
    let old = c.args.owner.now.seen in
    let new = c.end_idle.new.owner.seen in
    let e = c.end_idle.ensures in
    let told = ap (λ (w : WatcherState _). w.told) (sym c.watcher.view_is) ∙ c.in-Err.is in
    let session = c.into_session.ensures ∙ ap (λ (w : WatcherState _). w.reader.session) c.watcher.view_is in
    stops_either f old w.reader.session.log new c.in-Err.fault e.sessions.leaves.comes.begins (subst (λ (s : SessionState _). Begins s.log new) session e.begins)
    (subst (λ (t : Result (List ℕ) Fault). IfErr t (λ fault. Stops f old fault ⊎ Stops f w.reader.session.log fault)) told c.requires.done.endable.stop)

pub returns-in-Err-clause-seen : goal.returns-in-Err-clause-seen
returns-in-Err-clause-seen g c = seen_on c.requires.seen c.end_idle.ensures.sessions.leaves.comes.begins

pub returns-in-Err-clause-made : goal.returns-in-Err-clause-made
returns-in-Err-clause-made g c = let e = c.end_idle.ensures.made in (omega (arith, e), omega (arith, e))

pub returns-in-Err-clause-doors : goal.returns-in-Err-clause-doors
returns-in-Err-clause-doors g c =
    let counts = g.M.DoorMaker.faults in
    let faults = g.M.Door.Door.faults in
    let old = counts c.args.maker.now in
    let new = counts c.end_idle.new.maker in
    let told = ap (λ (w : WatcherState _). w.told) (sym c.watcher.view_is) ∙ c.in-Err.is in
    let doors = c.args.watcher.reader.session.doors in
    let counted = subst (λ (t : Result (List ℕ) Fault). sum_by faults doors < 2 ^ 64 - 1 → told_faults t ≤ sum_by faults doors) told c.requires.done.endable.counted in
    let session = c.into_session.ensures ∙ ap (λ (w : WatcherState _). w.reader.session) c.watcher.view_is in
    let back = subst (λ (s : SessionState _). min (old + sum_by faults s.doors) (2 ^ 64 - 1) ≤ new) session c.end_idle.ensures.doors in
    rose_stop (page_faults c.in-Err.fault) old old (sum_by faults doors) new (λ _. omega arith) counted back

pub returns-in-Ok-agree_one-clause-ended : goal.returns-in-Ok-agree_one-clause-ended
returns-in-Ok-agree_one-clause-ended g c = record {
  told = ap (λ (w : WatcherState _). w.told) (sym c.watcher.view_is) ∙ c.in-Ok.is;
  begins = subst (λ (w : WatcherState _). Begins w.reader.session.log c.agree_one.new.owner.seen) c.watcher.view_is c.agree_one.ensures.begins;
}

pub returns-in-Ok-agree_one-clause-sessions : goal.returns-in-Ok-agree_one-clause-sessions
returns-in-Ok-agree_one-clause-sessions g c = c.agree_one.ensures.sessions

pub returns-in-Err-agree_one-clause-sessions : goal.returns-in-Err-agree_one-clause-sessions
returns-in-Err-agree_one-clause-sessions g c = c.agree_one.ensures.sessions

pub returns-in-Err-clause-sessions : goal.returns-in-Err-clause-sessions
returns-in-Err-clause-sessions g c = c.end_idle.ensures.sessions
