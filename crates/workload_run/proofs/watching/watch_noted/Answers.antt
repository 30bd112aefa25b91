use Rattle.std.proofs.Common.{◌≡◌, ◌∙◌, List, ℕ, Ok, Err, ap, subst, sym, arith}
use Rattle.blob_model.specs.Limits.{Bounds}
use Rattle.blob_model.specs.History.{IsLegal}
use Rattle.blob_model.specs.declared.call.Event.{Event}
use Rattle.turn_lock.specs.History.{LacksUngiven}
use Rattle.version_manager.specs.Log.{events}
use Rattle.workload_run.proofs.Closed.{closed, closed_is, closed_done}
use Rattle.workload_run.specs.declared.ending.EarlyEnd.{EarlyEnd}
use Rattle.workload_run.proofs.Early.{early_of}
use Rattle.workload_run.proofs.Returns.{closed_history, events_tagged}
use Rattle.workload_law.specs.Watch.{IsWatch, IsWatchPage}
use Rattle.workload_run.specs.Ending.{EndsEarly}
use Rattle.workload_run.proofs.watching.watch_noted.Goals as goal

pub returns-in-Ok-told-clause-came : goal.returns-in-Ok-told-clause-came
returns-in-Ok-told-clause-came g c =
    let owner = c.run_watch-told.new.owner in
    let o = c.run_watch-told.ensures.owner in
    let lacks = subst (λ (l : List (ℕ × Event)). LacksUngiven owner.made l) c.in-Ok.ensures.history c.in-Ok.ensures.no_other in
    let legal = subst (λ (b : Bounds). IsLegal b (events owner.seen)) c.requires.limits o.log.legal in
    let x = c.watches_close.ensures in
    let p = c.pieces_are_told.ensures in
    let seen : events owner.seen ≡ c.in-Ok.desk.history = ap (λ (l : List (ℕ × Event)). events l) (sym c.in-Ok.ensures.history) ∙ events_tagged c.in-Ok.desk.history in
    let tells = closed c.entries_are_events.ensures c.args.plan c.requires.sized c.args.shared.fixed c.requires.limits owner o.log.tags legal c.in-Ok.ensures.all_kept lacks x.together c.watches_are_done.ensures x.there x.writer p.sizes p.told in
    let is = closed_is c.entries_are_events.ensures c.args.plan c.requires.sized c.args.shared.fixed c.requires.limits owner o.log.tags legal c.in-Ok.ensures.all_kept lacks x.together c.watches_are_done.ensures x.there x.writer p.sizes p.told in
    record {
      summary = tells (Ok (c.in-Ok-told.summary, c.in-Ok-told.notes)) c.in-Ok-told.ensures.ends;
      history = closed_history c.in-Ok.desk c.args.shared.fixed c.in-Ok.ensures.fixed c.requires.limits c.stands.ensures.legal c.stands.ensures.short c.stands.ensures.in_order;
      watched = subst (λ (h : List Event). IsWatch c.args.plan h) seen (is (c.in-Ok-told.summary, c.in-Ok-told.notes) c.in-Ok-told.ensures.ends);
      fixed = c.in-Ok.ensures.fixed;
    }

pub returns-in-Err-clause-early : goal.returns-in-Err-clause-early
returns-in-Err-clause-early g c =
    let owner = c.run_watch-told.new.owner in
    let o = c.run_watch-told.ensures.owner in
    let lacks = subst (λ (l : List (ℕ × Event)). LacksUngiven owner.made l) c.in-Ok.ensures.history c.in-Ok.ensures.no_other in
    let legal = subst (λ (b : Bounds). IsLegal b (events owner.seen)) c.requires.limits o.log.legal in
    let x = c.watches_close.ensures in
    let p = c.pieces_are_told.ensures in
    let tells = closed c.entries_are_events.ensures c.args.plan c.requires.sized c.args.shared.fixed c.requires.limits owner o.log.tags legal c.in-Ok.ensures.all_kept lacks x.together c.watches_are_done.ensures x.there x.writer p.sizes p.told in
    let page = IsWatchPage c.args.plan c.args.shared.fixed.page_size in
    let why = early_of page c.in-Err.fault (tells (Err c.in-Err.fault) c.in-Err.ensures.ends) (g.M.DoorMaker.faults c.args.doors.now) (g.M.DoorMaker.faults c.run_watch-told.new.doors) c.in-Err.ensures.doors in
    subst (λ (f : EarlyEnd). EndsEarly page f (g.M.DoorMaker.faults c.args.doors.now) (g.M.DoorMaker.faults c.run_watch-told.new.doors)) (sym c.early_end.ensures) why

pub returns-in-Ok-told-clause-did : goal.returns-in-Ok-told-clause-did
returns-in-Ok-told-clause-did g c =
    let owner = c.run_watch-told.new.owner in
    let o = c.run_watch-told.ensures.owner in
    let lacks = subst (λ (l : List (ℕ × Event)). LacksUngiven owner.made l) c.in-Ok.ensures.history c.in-Ok.ensures.no_other in
    let legal = subst (λ (b : Bounds). IsLegal b (events owner.seen)) c.requires.limits o.log.legal in
    let x = c.watches_close.ensures in
    let p = c.pieces_are_told.ensures in
    closed_done c.entries_are_events.ensures c.args.plan c.requires.sized c.args.shared.fixed c.requires.limits owner o.log.tags legal c.in-Ok.ensures.all_kept lacks x.together c.watches_are_done.ensures x.there x.writer p.sizes p.told
    (c.in-Ok-told.summary, c.in-Ok-told.notes) c.in-Ok-told.ensures.ends c.in-Ok-told.ensures.noted

pub returns-in-Ok-told-clause-doors : goal.returns-in-Ok-told-clause-doors
returns-in-Ok-told-clause-doors g c =
    let x = c.in-Ok-told.ensures in
    record { lent = x.lent; counted = λ less. (let low = x.doors less in omega (arith, low)); maker = c.run_watch-told.ensures.maker }

pub returns-in-Err-clause-doors : goal.returns-in-Err-clause-doors
returns-in-Err-clause-doors g c =
    let x = c.in-Err.ensures in
    record { lent = x.lent; counted = λ less. (let low = x.doors less in omega (arith, low)); maker = c.run_watch-told.ensures.maker }
