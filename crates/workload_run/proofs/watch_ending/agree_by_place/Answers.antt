use Rattle.std.proofs.Common.{◌+◌, ◌-◌, ◌^◌, ◌≤◌, min, refl, sym, subst, arith}
use Rattle.std.specs.Prelude.{sum_by, IfErr}
use Rattle.turn_lock.specs.History.{Begins}
use Rattle.turn_lock.proofs.Histories.{begins_both}
use Rattle.client_session.specs.Sessions.{StoreState, SessionState}
use Rattle.workload_law.specs.Ends.{IsOutside}
use Rattle.workload_run.specs.Updates.{told_faults}
use Rattle.workload_run.specs.Agreeing.{IsPageOfLast}
use Rattle.workload_run.specs.Readers.{HasRead}
use Rattle.workload_run.specs.WatchStages.{IsIdle}
use Rattle.workload_run.proofs.WatchCrews.{idle_on, told_lost, rose_told}
use Rattle.workload_run.proofs.Idling.{read_none}
use Rattle.workload_run.proofs.Refusals.{stops_of_last}
use Rattle.workload_run.proofs.watch_ending.agree_by_place.Given.{Over}
use Rattle.workload_run.proofs.watch_ending.agree_by_place.Goals.{After-into_session, in-Ok, in-Err}
use Rattle.workload_run.proofs.watch_ending.agree_by_place.Goals as goal

-- what the reader read, if it read anything
has_read : (g : Over) (c : After-into_session g) → HasRead g.M.Door.Door.faults (told_faults c.match-note.told) c.args.reader c.match-note.reader
has_read g c =
    let faults = g.M.Door.Door.faults in
    elim c.match-note.branch [
      | in-Ok w ↦ rw (w.reader-is, w.told-is) w.compare_by_place-told.ensures.read
      | in-Err w ↦ rw (w.reader-is, w.told-is) (read_none faults c.args.reader)
    ]

pub end_idle-requires-clause-idle : goal.end_idle-requires-clause-idle
end_idle-requires-clause-idle g c =
    let read = has_read g (goal.at.end_idle-requires-clause-idle g c).After-into_session in
    subst (λ (s : SessionState _). IsIdle c.args.shared.now s) (sym c.into_session.ensures) (idle_on c.requires.idle read.idles)

pub returns-clause-stop : goal.returns-clause-stop
returns-clause-stop g c =
    let f = c.args.shared.now.fixed in
    let last = c.args.standard.now.last in
    let of_store = c.requires.idle.of_store in
    let out : IfErr c.match-note.told (IsOutside (IsPageOfLast f.page_size last)) =
    elim c.match-note.branch [
      | in-Ok w ↦ rw w.told-is (subst (λ (t : StoreState). IfErr w.compare_by_place-told.result (IsOutside (IsPageOfLast t.fixed.page_size last))) of_store w.compare_by_place-told.ensures.stop)
      | in-Err w ↦ rw w.told-is (IsOutside.starved refl)
    ]
    in
    told_lost c.match-note.told (λ fault by. stops_of_last f c.args.owner.now.seen c.end_idle.new.owner.seen last c.requires.seen c.end_idle.ensures.sessions.leaves.comes.begins fault by) out

pub returns-clause-doors : goal.returns-clause-doors
returns-clause-doors g c =
    let counts = g.M.DoorMaker.faults in
    let faults = g.M.Door.Door.faults in
    let old = counts c.args.maker.now in
    let new = counts c.end_idle.new.maker in
    let read = has_read g (goal.at.returns-clause-doors g c).After-into_session in
    let back = subst (λ (s : SessionState _). min (old + sum_by faults s.doors) (2 ^ 64 - 1) ≤ new) c.into_session.ensures c.end_idle.ensures.doors in
    rose_told (told_faults c.match-note.told) old old (sum_by faults c.args.reader.session.doors) (sum_by faults c.match-note.reader.session.doors) new (λ _. omega arith) read.rose back

pub returns-clause-begins : goal.returns-clause-begins
returns-clause-begins g c =
    let read = has_read g (goal.at.returns-clause-begins g c).After-into_session in
    begins_both c.args.reader.session.log c.match-note.reader.session.log c.end_idle.new.owner.seen read.idles.goes_on.begins
    (subst (λ (s : SessionState _). Begins s.log c.end_idle.new.owner.seen) c.into_session.ensures c.end_idle.ensures.begins)

pub returns-clause-sessions : goal.returns-clause-sessions
returns-clause-sessions g c = c.end_idle.ensures.sessions
