-- How a load is told: three lines, each ended by a line feed.
use Rattle.std.specs.Prelude.{ℕ, List, [], ◌∷◌, ◌++◌, codes}
use Rattle.std.specs.Fmt.{decimal}
use Rattle.workload_law.specs.declared.plan.LoadPlan.{LoadPlan}
use Rattle.workload_law.specs.declared.plan.Summary.{Summary}

-- what was asked for
abbrev pub plan_text : LoadPlan → List ℕ
plan_text plan = codes "load workers " ++ decimal plan.workers ++ codes " ops " ++ decimal plan.ops ++ codes " seed " ++ decimal plan.seed

-- the log, with the number of workers whose records stand in order
abbrev pub log_text : Summary → List ℕ
log_text summary = codes "log size " ++ decimal summary.log_size ++ codes " versions " ++ decimal summary.log_versions ++ codes " in-order " ++ decimal summary.in_order

-- the grid, with the sum of its bytes
abbrev pub grid_text : Summary → List ℕ
grid_text summary = codes "grid size " ++ decimal summary.grid_size ++ codes " versions " ++ decimal summary.grid_versions ++ codes " sum " ++ decimal summary.grid_sum

abbrev pub said : LoadPlan → Summary → List ℕ
said plan summary = plan_text plan ++ 10 ∷ [] ++ (log_text summary ++ 10 ∷ []) ++ (grid_text summary ++ 10 ∷ [])
