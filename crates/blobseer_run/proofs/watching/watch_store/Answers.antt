use Rattle.std.proofs.Common.{ℕ, List, ◌+◌, ◌*◌, refl, ◌∙◌, ap, arith}
use Rattle.faults.specs.Counts.{RoseBy}
use Rattle.blob_model.specs.Limits.{greatest}
use Rattle.blob_model.specs.declared.call.Event.{Event}
use Rattle.version_manager.specs.Log.{IsHistory}
use Rattle.settings.specs.Values.{SettingsValues}
use Rattle.workload_law.specs.WatchSaid.{said}
use Rattle.workload_law.specs.Watch.{IsWatch}
use Rattle.workload_law.specs.WatchNotes.{NotesState, HasDone}
use Rattle.workload_law.specs.declared.watch_plan.WatchPlan.{WatchPlan}
use Rattle.blobseer_run.specs.Watching.{plan_of, CameToWatch, DidWatch}
use Rattle.blobseer_run.proofs.Early.{ended_so}
use Rattle.blobseer_run.proofs.Lendings.{all_sessions, ended_early}
use Rattle.blobseer_run.proofs.Measures.{whole_there, ended_there, at_plan}
use Rattle.blobseer_run.proofs.watching.watch_store.Goals as goal

stands : (n : ℕ) → RoseBy 0 n n
stands n = record { later = omega arith; by = λ less. omega arith }

-- what the closed store came to
came_of : (page : ℕ) (plan : WatchPlan) (history : List Event) (notes : NotesState) → IsHistory page greatest history → IsWatch plan history → HasDone plan notes → CameToWatch page plan history
came_of page plan history notes is_history watched did = record { is_history = is_history; watched = watched; notes = notes; did = did }

pub returns-in-Ok-clause-did : goal.returns-in-Ok-clause-did
returns-in-Ok-clause-did g c =
    let end = c.in-Ok.ensures.came in
    let lines = ap (said _) end.summary in
    let told = c.tell_lines.ensures.told _ c.watch_lines.ensures in
    let came = came_of _ _ _ _ end.history end.watched c.in-Ok.ensures.did in
    let did = whole_there _ _ _ _ (record { given = refl; left = refl; reads = refl; ends = refl }) refl _ _ lines c.in-Ok.desk.history came told in
    at_plan DidWatch _ _ _ _ _ _ _ c.requires.store.page_size (ap (λ (s : SettingsValues). plan_of s) c.settings.view_is) did

pub returns-in-Err-clause-did : goal.returns-in-Err-clause-did
returns-in-Err-clause-did g c =
    ended_there _ _ _ _ (record { given = refl; left = refl; reads = refl; ends = refl }) refl refl _ (ended_so _ c.in-Err.fault _ _ _ c.status_of.ensures c.in-Err.ensures.early)

pub returns-in-Ok-clause-lent : goal.returns-in-Ok-clause-lent
returns-in-Ok-clause-lent g c =
    let many = ap (λ n. (4 + c.args.settings.now.readers) * n) c.requires.store.providers in
    let of_settings = ap (λ (s : SettingsValues). (4 + s.readers) * c.args.shared.providers) c.settings.view_is in
    all_sessions g.M.DoorMaker.hands_out g.M.DoorMaker.takes_back _ _ _ _ _ (of_settings ∙ many) c.in-Ok.ensures.doors.lent

pub returns-in-Err-clause-lent : goal.returns-in-Err-clause-lent
returns-in-Err-clause-lent g c =
    ended_early g.M.DoorMaker.hands_out g.M.DoorMaker.takes_back _ _ _ _ _ _ (ended_so _ c.in-Err.fault _ _ _ c.status_of.ensures c.in-Err.ensures.early) c.in-Err.ensures.doors.lent

pub returns-in-Ok-clause-truth_stays : goal.returns-in-Ok-clause-truth_stays
returns-in-Ok-clause-truth_stays g c = c.in-Ok.ensures.doors.maker.truth_stays

pub returns-in-Err-clause-truth_stays : goal.returns-in-Err-clause-truth_stays
returns-in-Err-clause-truth_stays g c = c.in-Err.ensures.doors.maker.truth_stays

pub returns-in-Ok-clause-none_fell : goal.returns-in-Ok-clause-none_fell
returns-in-Ok-clause-none_fell g c = record { reads = stands _; writes = c.tell_lines.ensures.write_faults; listener = stands _; doors = c.in-Ok.ensures.doors.counted }

pub returns-in-Err-clause-none_fell : goal.returns-in-Err-clause-none_fell
returns-in-Err-clause-none_fell g c = record { reads = stands _; writes = stands _; listener = stands _; doors = c.in-Err.ensures.doors.counted }
