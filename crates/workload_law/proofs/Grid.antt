-- The grid as it is in the end, whatever the order of the writes.
use Rattle.std.proofs.Common.{◌≡◌, ℕ, ◌+◌, ◌-◌, ◌*◌, ◌<◌, zero, suc, List, [], ◌∷◌, ◌++◌, length, get_or, sum, ap, ◌∙◌, arith}
use Rattle.std.specs.List.{range_with_len, flat_map, sum_by}
use Rattle.std.proofs.lemmas.List.{length-append, get_or_append_left, get_or-append_right}
use Rattle.std.proofs.lemmas.List.FromFn.{length-range_with_len, get_or-range_with_len, length-map-range_with_len, get_or-map-range_with_len}
use Rattle.std.proofs.lemmas.List.Sums.{sum-map}
use Rattle.workload_law.specs.declared.plan.LoadPlan.{LoadPlan}
use Rattle.workload_law.specs.Pieces.{cell_of, cell_byte}
use Rattle.workload_law.specs.Load.{all_ops}
use Rattle.workload_law.specs.Summed.{cells_sum}
use Rattle.workload_law.proofs.Sums.{sum_by-same, sum_flat_map, sum_swap}

-- ---- pieces of one size, joined
module _ {X : Type 0} (f : X → List ℕ) (size : ℕ) (each : (x : X) → length (f x) ≡ size) where
  even_length : (xs : List X) → length (flat_map f xs) ≡ length xs * size
  even_length [] = omega arith
  even_length (x ∷ xs) =
      let here = each x in
      let more = even_length xs in
      let both = length-append (f x) (flat_map f xs) in
      omega (arith, here, more, both)

  even_at : (xs : List X) (i j : ℕ) (d : X) → i < length xs → j < size → get_or (flat_map f xs) (i * size + j) 0 ≡ get_or (f (get_or xs i d)) j 0
  even_at [] i j d there within = absurd (omega arith)
  even_at (x ∷ xs) zero j d there within =
      let e : zero * size + j ≡ j = omega arith in
      ap (λ (k : ℕ). get_or (f x ++ flat_map f xs) k 0) e ∙ get_or_append_left (f x) (flat_map f xs) 0 j (omega (arith, each x))
  even_at (x ∷ xs) (suc i) j d there within =
      let e : suc i * size + j - size ≡ i * size + j = omega arith in
      get_or-append_right (f x) (flat_map f xs) size (suc i * size + j) 0 (each x) (omega arith)
      ∙ (ap (λ (k : ℕ). get_or (flat_map f xs) k 0) e ∙ even_at xs i j d (omega arith) within)

-- ---- cells
pub cell_length : (seed worker op : ℕ) → length (cell_of seed worker op) ≡ 16
unfolding cell_of
cell_length seed worker op = length-map-range_with_len (cell_byte seed worker op) 0 16

pub cell_at : (seed worker op index : ℕ) → index < 16 → get_or (cell_of seed worker op) index 0 ≡ cell_byte seed worker op index
unfolding cell_of
cell_at seed worker op index within = get_or-map-range_with_len (cell_byte seed worker op) 0 16 index index 0 within (omega arith)

cell_sum : (seed worker op : ℕ) → sum (cell_of seed worker op) ≡ sum_by (λ index. cell_byte seed worker op index) (range_with_len 0 16)
unfolding cell_of
cell_sum seed worker op = sum-map (cell_byte seed worker op) (range_with_len 0 16)

-- ---- the whole grid: for each operation in turn, the cells of all workers
row : LoadPlan → ℕ → List ℕ
row plan op = flat_map (λ worker. cell_of plan.seed worker op) (range_with_len 1 plan.workers)

pub grid_bytes : LoadPlan → List ℕ
grid_bytes plan = flat_map (row plan) (range_with_len 0 plan.ops)

row_length : (plan : LoadPlan) (op : ℕ) → length (row plan op) ≡ plan.workers * 16
unfolding row
row_length plan op =
    even_length (λ worker. cell_of plan.seed worker op) 16 (λ worker. cell_length plan.seed worker op) (range_with_len 1 plan.workers)
    ∙ ap (λ (n : ℕ). n * 16) (length-range_with_len 1 plan.workers)

pub grid_length : (plan : LoadPlan) → length (grid_bytes plan) ≡ 16 * all_ops plan
unfolding grid_bytes
grid_length plan =
    let e = even_length (row plan) (plan.workers * 16) (row_length plan) (range_with_len 0 plan.ops) in
    let n = length-range_with_len 0 plan.ops in
    e ∙ (ap (λ (k : ℕ). k * (plan.workers * 16)) n ∙ omega arith)

row_at : (plan : LoadPlan) (op column index : ℕ) → column < plan.workers → index < 16 → get_or (row plan op) (column * 16 + index) 0 ≡ cell_byte plan.seed (1 + column) op index
unfolding row
row_at plan op column index short within =
    let cells : ℕ → List ℕ = λ worker. cell_of plan.seed worker op in
    even_at cells 16 (λ worker. cell_length plan.seed worker op) (range_with_len 1 plan.workers) column index 0 (omega (arith, length-range_with_len 1 plan.workers)) within
    ∙ (ap (λ (w : ℕ). get_or (cell_of plan.seed w op) index 0) (get_or-range_with_len 1 plan.workers column 0 short) ∙ cell_at plan.seed (1 + column) op index within)

pub grid_at : (plan : LoadPlan) (op column index : ℕ) → op < plan.ops → column < plan.workers → index < 16
    → get_or (grid_bytes plan) (16 * (op * plan.workers + column) + index) 0 ≡ cell_byte plan.seed (1 + column) op index
unfolding grid_bytes
grid_at plan op column index few short within =
    let e : 16 * (op * plan.workers + column) + index ≡ op * (plan.workers * 16) + (column * 16 + index) = omega arith in
    let inside : column * 16 + index < plan.workers * 16 = omega arith in
    ap (λ (k : ℕ). get_or (flat_map (row plan) (range_with_len 0 plan.ops)) k 0) e
    ∙ (even_at (row plan) (plan.workers * 16) (row_length plan) (range_with_len 0 plan.ops) op (column * 16 + index) 0 (omega (arith, length-range_with_len 0 plan.ops)) inside
    ∙ (ap (λ (o : ℕ). get_or (row plan o) (column * 16 + index) 0) (get_or-range_with_len 0 plan.ops op 0 few ∙ omega arith) ∙ row_at plan op column index short within))

pub grid_sum : (plan : LoadPlan) → sum (grid_bytes plan) ≡ cells_sum plan
unfolding grid_bytes row cells_sum
grid_sum plan =
    let Cells : ℕ → ℕ → ℕ = λ worker op. sum_by (λ index. cell_byte plan.seed worker op index) (range_with_len 0 16) in
    sum_flat_map (row plan) (range_with_len 0 plan.ops)
    ∙ (sum_by-same (λ op. sum (row plan op)) (λ op. sum_by (λ worker. Cells worker op) (range_with_len 1 plan.workers)) (range_with_len 0 plan.ops)
    (λ op. sum_flat_map (λ worker. cell_of plan.seed worker op) (range_with_len 1 plan.workers)
    ∙ sum_by-same (λ worker. sum (cell_of plan.seed worker op)) (λ worker. Cells worker op) (range_with_len 1 plan.workers) (λ worker. cell_sum plan.seed worker op))
    ∙ sum_swap (λ op worker. Cells worker op) (range_with_len 0 plan.ops) (range_with_len 1 plan.workers))
