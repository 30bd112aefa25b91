-- What the command `load` promises: the lines of its plan's summary, and the history from which they come.
use Rattle.std.specs.Prelude.{ℕ, List}
use Rattle.blob_model.specs.Limits.{greatest}
use Rattle.blob_model.specs.declared.call.Event.{Event}
use Rattle.version_manager.specs.Log.{IsHistory}
use Rattle.settings.specs.Values.{SettingsValues}
use Rattle.workload_law.specs.Load.{IsLoad}
use Rattle.workload_law.specs.declared.plan.LoadPlan.{LoadPlan}
use Rattle.workload_law.specs.Said.{said}
use Rattle.workload_law.specs.Summed.{summary_of}
use Rattle.workload_run.specs.Stages.{AreFinishedByOwn}
use Rattle.blobseer_run.specs.Outside.{Outside}
use Rattle.blobseer_run.specs.Measuring.{DidMeasure}

-- the plan that the settings give
abbrev pub plan_of : SettingsValues → LoadPlan
plan_of settings = record { seed = settings.seed; workers = settings.workers; ops = settings.ops }

-- the three lines that every load of the plan comes to
abbrev pub load_lines : LoadPlan → List ℕ
load_lines plan = said plan (summary_of plan)

-- A store of that page size, with the greatest limits, came to this: its history is a load's, and each caller finished its own updates.
pub record CameToLoad (page : ℕ) (plan : LoadPlan) (history : List Event) : Type 0 where
  pub is_history : IsHistory page greatest history
  pub loaded : IsLoad plan history
  pub finishes : AreFinishedByOwn plan history

-- A load of the plan was run over pages of that size.
abbrev pub DidLoad : ℕ → LoadPlan → Outside → Outside → ℕ → Type 0
DidLoad page plan old new status = DidMeasure (CameToLoad page plan) (load_lines plan) old new status
