use Rattle.std.proofs.Common.{◌∙◌, ℕ, List, vec_len, sym, ap, subst, arith}
use Rattle.std.specs.Prelude.{All}
use Rattle.request_form.specs.Replies.{page_faults}
use Rattle.read_board.specs.Fronts.{BoardId}
use Rattle.workload_law.specs.WatchNotes.{NotesState}
use Rattle.workload_run.specs.WatchCrews.{IsDoneWatching, AllCameToEnd}
use Rattle.workload_run.specs.WatchEnding.{FinishHindered}
use Rattle.workload_run.proofs.WatchCrews.{all_done_on, all_done_end, rose_later, rose_before}
use Rattle.workload_run.proofs.Idling.{versions_more}
use Rattle.workload_run.proofs.WatchStages.{read_and_ended, came_and_ended, makes_both, leaves_both}
use Rattle.workload_run.proofs.Lasts.{finished, finish_later}
use Rattle.workload_run.proofs.watching.finish.Goals as goal

pub agree_all-requires-clause-told : goal.agree_all-requires-clause-told
agree_all-requires-clause-told g c = c.in-Ok.ensures.read.told

pub agree_all-requires-clause-seen : goal.agree_all-requires-clause-seen
agree_all-requires-clause-seen g c = c.in-Ok.ensures.read.known

pub returns-in-Ok-agree_all-clause-finishes : goal.returns-in-Ok-agree_all-clause-finishes
returns-in-Ok-agree_all-clause-finishes g c = finished c.in-Ok.ensures.read c.agree_all.ensures.sessions.leaves _ _ c.len.ensures c.in-Ok-agree_all.ensures.all

pub returns-in-Ok-agree_all-clause-noted : goal.returns-in-Ok-agree_all-clause-noted
returns-in-Ok-agree_all-clause-noted g c =
    let seen = c.agree_all.new.owner.seen in
    record {
      refreshes = ap (λ (n : NotesState). n.refreshes) c.new.ensures ∙ versions_more c.args.keeper c.read_back.new.keeper c.in-Ok.last.version c.in-Ok.ensures.refreshed;
      readings = subst (λ (l : List ℕ). AllCameToEnd seen c.args.watchers.items l) (sym (ap (λ (n : NotesState). n.readings) c.new.ensures)) c.in-Ok-agree_all.ensures.ended;
    }

pub returns-in-Ok-clause-finishes : goal.returns-in-Ok-clause-finishes
returns-in-Ok-clause-finishes g c = FinishHindered.stops (leaves_both c.read_back.ensures.leaves c.agree_all.ensures.sessions.leaves) c.in-Err-agree_all.ensures.stop

pub returns-in-Some-clause-finishes : goal.returns-in-Some-clause-finishes
returns-in-Some-clause-finishes g c = FinishHindered.stops (leaves_both c.read_back.ensures.leaves c.end_watchers.ensures.sessions.leaves) c.in-Some.ensures.stop

pub returns-clause-finishes : goal.returns-clause-finishes
returns-clause-finishes g c = finish_later c.in-Err.ensures.hindered c.end_watchers.ensures.sessions.leaves

pub returns-in-Ok-agree_all-clause-lent : goal.returns-in-Ok-agree_all-clause-lent
returns-in-Ok-agree_all-clause-lent g c =
    let m = g.M.DoorMaker in
    read_and_ended m.hands_out m.takes_back c.args.shared.now.providers (vec_len c.args.watchers) c.args.doors.now c.read_back.new.doors c.agree_all.new.maker c.in-Ok.ensures.lent c.agree_all.ensures.sessions.traffic

pub returns-in-Ok-clause-lent : goal.returns-in-Ok-clause-lent
returns-in-Ok-clause-lent g c = came_and_ended (c.args.shared.now.providers, c.in-Ok.ensures.lent) c.agree_all.ensures.sessions.traffic

pub returns-in-Some-clause-lent : goal.returns-in-Some-clause-lent
returns-in-Some-clause-lent g c = came_and_ended c.in-Err.ensures.lent c.end_watchers.ensures.sessions.traffic

pub returns-clause-lent : goal.returns-clause-lent
returns-clause-lent g c = came_and_ended c.in-Err.ensures.lent c.end_watchers.ensures.sessions.traffic

pub agree_all-requires-clause-passes_left : goal.agree_all-requires-clause-passes_left
agree_all-requires-clause-passes_left g c =
    let m = c.read_back.ensures.made in
    let p = c.requires.passes_left in
    (omega (arith, m.0, p.0), omega (arith, m.1, p.1))

pub agree_all-requires-clause-done : goal.agree_all-requires-clause-done
agree_all-requires-clause-done g c =
    let faults = g.M.Door.Door.faults in
    let store = c.args.shared.now in
    let seen = c.read_back.new.owner.seen in
    subst (λ (b : BoardId). All (IsDoneWatching faults store seen b) c.args.watchers.items) (sym c.read_back.ensures.board)
    (all_done_on faults store c.args.owner.now.seen seen c.args.keeper.board c.read_back.ensures.leaves.comes.begins c.args.watchers.items c.requires.done)

pub end_watchers-requires-clause-endable : goal.end_watchers-requires-clause-endable
end_watchers-requires-clause-endable g c =
    let faults = g.M.Door.Door.faults in
    let store = c.args.shared.now in
    let seen = c.read_back.new.owner.seen in
    all_done_end faults store seen c.args.keeper.board c.args.watchers.items
    (all_done_on faults store c.args.owner.now.seen seen c.args.keeper.board c.read_back.ensures.leaves.comes.begins c.args.watchers.items c.requires.done)

pub returns-in-Ok-agree_all-clause-out : goal.returns-in-Ok-agree_all-clause-out
returns-in-Ok-agree_all-clause-out g c = omega (arith, c.read_back.ensures.out, c.agree_all.ensures.sessions.out)

pub returns-in-Ok-clause-out : goal.returns-in-Ok-clause-out
returns-in-Ok-clause-out g c = omega (arith, c.read_back.ensures.out, c.agree_all.ensures.sessions.out)

pub returns-in-Some-clause-out : goal.returns-in-Some-clause-out
returns-in-Some-clause-out g c = omega (arith, c.read_back.ensures.out, c.end_watchers.ensures.sessions.out)

pub returns-clause-out : goal.returns-clause-out
returns-clause-out g c = omega (arith, c.read_back.ensures.out, c.end_watchers.ensures.sessions.out)

pub returns-in-Ok-agree_all-clause-doors : goal.returns-in-Ok-agree_all-clause-doors
returns-in-Ok-agree_all-clause-doors g c =
    let counts = g.M.DoorMaker.faults in
    rose_later 0 0 (counts c.args.doors.now) (counts c.read_back.new.doors) (counts c.agree_all.new.maker) c.in-Ok.ensures.doors c.in-Ok-agree_all.ensures.doors

pub returns-in-Ok-clause-doors : goal.returns-in-Ok-clause-doors
returns-in-Ok-clause-doors g c =
    let counts = g.M.DoorMaker.faults in
    rose_later 0 (page_faults c.in-Err-agree_all.stopped) (counts c.args.doors.now) (counts c.read_back.new.doors) (counts c.agree_all.new.maker) c.in-Ok.ensures.doors c.in-Err-agree_all.ensures.doors

pub returns-in-Some-clause-doors : goal.returns-in-Some-clause-doors
returns-in-Some-clause-doors g c =
    let counts = g.M.DoorMaker.faults in
    rose_later (page_faults c.in-Err.fault) (page_faults c.in-Some.stop) (counts c.args.doors.now) (counts c.read_back.new.doors) (counts c.end_watchers.new.maker) c.in-Err.ensures.doors
    c.in-Some.ensures.doors

pub returns-clause-doors : goal.returns-clause-doors
returns-clause-doors g c =
    let counts = g.M.DoorMaker.faults in
    rose_before (page_faults c.in-Err.fault) 0 (counts c.args.doors.now) (counts c.read_back.new.doors) (counts c.end_watchers.new.maker) c.in-Err.ensures.doors c.in-None.ensures.doors

pub returns-in-Ok-agree_all-clause-maker : goal.returns-in-Ok-agree_all-clause-maker
returns-in-Ok-agree_all-clause-maker g c = makes_both c.read_back.ensures.maker c.agree_all.ensures.sessions.maker

pub returns-in-Ok-clause-maker : goal.returns-in-Ok-clause-maker
returns-in-Ok-clause-maker g c = makes_both c.read_back.ensures.maker c.agree_all.ensures.sessions.maker

pub returns-in-Some-clause-maker : goal.returns-in-Some-clause-maker
returns-in-Some-clause-maker g c = makes_both c.read_back.ensures.maker c.end_watchers.ensures.sessions.maker

pub returns-clause-maker : goal.returns-clause-maker
returns-clause-maker g c = makes_both c.read_back.ensures.maker c.end_watchers.ensures.sessions.maker
