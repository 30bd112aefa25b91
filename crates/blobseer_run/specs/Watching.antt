-- What the command `watch` promises: the lines of its plan's summary, the history from which they come, and what was done.
use Rattle.std.specs.Prelude.{ℕ, List}
use Rattle.blob_model.specs.Limits.{greatest}
use Rattle.blob_model.specs.declared.call.Event.{Event}
use Rattle.version_manager.specs.Log.{IsHistory}
use Rattle.settings.specs.Values.{SettingsValues}
use Rattle.workload_law.specs.declared.watch_plan.WatchPlan.{WatchPlan}
use Rattle.workload_law.specs.WatchSaid.{said}
use Rattle.workload_law.specs.WatchNotes.{NotesState, HasDone}
use Rattle.workload_law.specs.Watch.{IsWatch, summary_of}
use Rattle.blobseer_run.specs.Outside.{Outside}
use Rattle.blobseer_run.specs.Measuring.{DidMeasure}

-- the plan that the settings give
abbrev pub plan_of : SettingsValues → WatchPlan
plan_of settings = record { seed = settings.seed; readers = settings.readers; ops = settings.ops }

-- the two lines that every watch of the plan comes to
abbrev pub watch_lines : WatchPlan → List ℕ
watch_lines plan = said plan (summary_of plan)

-- A store of that page size, with the greatest limits, came to this: its history is a watch's; and this is what the keeper and the readers did.
pub record CameToWatch (page : ℕ) (plan : WatchPlan) (history : List Event) : Type 0 where
  pub is_history : IsHistory page greatest history
  pub watched : IsWatch plan history
  pub notes : NotesState
  pub did : HasDone plan notes

-- A watch of the plan was run over pages of that size.
abbrev pub DidWatch : ℕ → WatchPlan → Outside → Outside → ℕ → Type 0
DidWatch page plan old new status = DidMeasure (CameToWatch page plan) (watch_lines plan) old new status
