-- How a watch is told: two lines, each ended by a line feed.
use Rattle.std.specs.Prelude.{ℕ, List, [], ◌∷◌, ◌++◌, codes}
use Rattle.std.specs.Fmt.{decimal}
use Rattle.workload_law.specs.declared.watch_plan.WatchPlan.{WatchPlan}
use Rattle.workload_law.specs.declared.watch_plan.WatchSummary.{WatchSummary}

-- what was asked for
abbrev pub plan_text : WatchPlan → List ℕ
plan_text plan = codes "watch readers " ++ decimal plan.readers ++ codes " ops " ++ decimal plan.ops ++ codes " seed " ++ decimal plan.seed

-- the blob, with the number of readers that read the same bytes
abbrev pub blob_text : WatchSummary → List ℕ
blob_text summary = codes "blob size " ++ decimal summary.size ++ codes " versions " ++ decimal summary.versions ++ codes " agree " ++ decimal summary.agree

abbrev pub said : WatchPlan → WatchSummary → List ℕ
said plan summary = plan_text plan ++ 10 ∷ [] ++ (blob_text summary ++ 10 ∷ [])
