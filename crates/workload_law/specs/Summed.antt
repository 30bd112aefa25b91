-- What a load comes to.
use Rattle.std.specs.Prelude.{ℕ, ◌+◌, ◌*◌, sum}
use Rattle.std.specs.List.{range_with_len, sum_by}
use Rattle.blob_model.specs.Content.{content, size_of}
use Rattle.blob_model.specs.Store.{Blob, published}
use Rattle.workload_law.specs.declared.plan.LoadPlan.{LoadPlan}
use Rattle.workload_law.specs.declared.plan.Summary.{Summary}
use Rattle.workload_law.specs.Pieces.{cell_byte, in_order_of}
use Rattle.workload_law.specs.Load.{all_ops}

-- the sum of all bytes of all cells
unfoldable pub cells_sum : LoadPlan → ℕ
cells_sum plan =
    sum_by (λ worker. sum_by (λ op. sum_by (λ place. cell_byte plan.seed worker op place) (range_with_len 0 16)) (range_with_len 0 plan.ops))
    (range_with_len 1 plan.workers)

-- what every load of the plan comes to
abbrev pub summary_of : LoadPlan → Summary
summary_of plan = record {
  log_size = 16 * all_ops plan;
  log_versions = all_ops plan;
  in_order = plan.workers;
  grid_size = 16 * all_ops plan;
  grid_versions = all_ops plan + 1;
  grid_sum = cells_sum plan;
}

-- what is told of a log and a grid by their last published versions and the bytes of these
abbrev pub summary_told : LoadPlan → Blob → Blob → Summary
summary_told plan log grid = record {
  log_size = size_of log.updates (published log);
  log_versions = published log;
  in_order = in_order_of plan.workers plan.ops (content log.updates (published log));
  grid_size = size_of grid.updates (published grid);
  grid_versions = published grid;
  grid_sum = sum (content grid.updates (published grid));
}
