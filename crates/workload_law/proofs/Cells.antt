-- Each cell is written at its place, and each byte of the grid is in one.
use Rattle.std.proofs.Common.{◌≡◌, ℕ, ◌+◌, ◌-◌, ◌*◌, ◌/◌, ◌%◌, ◌<◌, ◌≤◌, zero, suc, List, length, get_or, take, drop, min, refl, sym, ap, ◌∙◌, arith}
use Rattle.std.proofs.lemmas.List.{length-take, length-drop, get_or-take, get_or-drop, ext_get_or}
use Rattle.std.proofs.lemmas.Nat.{mul-add-lt, div_below, mod_below, div-add-mod'}
use Rattle.workload_law.specs.declared.plan.LoadPlan.{LoadPlan}
use Rattle.workload_law.specs.Pieces.{cell_of, cell_byte}
use Rattle.workload_law.specs.Load.{cell_offset}
use Rattle.workload_law.proofs.Writes.{WritesPart, Covers}
use Rattle.workload_law.proofs.Workers.{cell_update}
use Rattle.workload_law.proofs.Grid.{grid_bytes, grid_length, grid_at, cell_length, cell_at}

-- a part of a list, by its bytes
pub window : (xs ys : List ℕ) (o p : ℕ) → length ys ≡ p → o + p ≤ length xs → ((x : ℕ) → x < p → get_or ys x 0 ≡ get_or xs (o + x) 0) → take p (drop o xs) ≡ ys
window xs ys o p long fits same =
    let n : length (take p (drop o xs)) ≡ p = length-take p (drop o xs) ∙ (ap (λ (k : ℕ). min p k) (length-drop o xs) ∙ omega arith) in
    ext_get_or 0 (take p (drop o xs)) ys (n ∙ sym long)
    (λ x lt.
    let short : x < p = omega (arith, n) in
    get_or-take p (drop o xs) x 0 short ∙ (get_or-drop o xs x 0 ∙ sym (same x short)))

module _ (plan : LoadPlan) (worker op : ℕ) (from : 1 ≤ worker) (to : worker ≤ plan.workers) (few : op < plan.ops) where
  pub cell_fits : cell_offset plan worker op + 16 ≤ length (grid_bytes plan)
  cell_fits =
      let column : worker - 1 < plan.workers = omega arith in
      let place : op * plan.workers + (worker - 1) < plan.workers * plan.ops = mul-add-lt op plan.workers (worker - 1) plan.ops few column in
      omega (arith, place, grid_length plan)

  pub cell_is : (x : ℕ) → x < 16 → get_or (cell_of plan.seed worker op) x 0 ≡ get_or (grid_bytes plan) (cell_offset plan worker op + x) 0
  cell_is x within =
      let column : worker - 1 < plan.workers = omega arith in
      let e : 1 + (worker - 1) ≡ worker = omega arith in
      cell_at plan.seed worker op x within
      ∙ (ap (λ (w : ℕ). cell_byte plan.seed w op x) (sym e) ∙ sym (grid_at plan op (worker - 1) x few column within))

  pub cell_written : WritesPart (grid_bytes plan) (cell_update plan worker op)
  cell_written =
      let long = cell_length plan.seed worker op in
      let fits = cell_fits in
      record {
        at = cell_offset plan worker op;
        place = refl;
        fits = omega (arith, long, fits);
        same = λ x lt. cell_is x (omega (arith, long));
      }

positive : (a b k : ℕ) → k < a * b → 0 < a
positive zero b k lt = absurd (omega arith)
positive (suc a) b k lt = omega arith

-- which worker and operation a byte of the grid belongs to
pub record HasCell (plan : LoadPlan) (y : ℕ) : Type 0 where
  pub worker : ℕ
  pub op : ℕ
  pub from : 1 ≤ worker
  pub to : worker ≤ plan.workers
  pub few : op < plan.ops
  pub covers : Covers y (cell_update plan worker op)

pub has_cell : (plan : LoadPlan) (y : ℕ) → y < length (grid_bytes plan) → HasCell plan y
has_cell plan y lt =
    let k : ℕ = y / 16 in
    let inside : y < plan.workers * plan.ops * 16 = omega (arith, grid_length plan) in
    let piece : k < plan.workers * plan.ops = div_below y 16 (plan.workers * plan.ops) (omega arith) inside in
    let some : 0 < plan.workers = positive plan.workers plan.ops k piece in
    let few : k / plan.workers < plan.ops = div_below k plan.workers plan.ops some (omega arith) in
    let column : k % plan.workers < plan.workers = mod_below k plan.workers some in
    let back : k / plan.workers * plan.workers + k % plan.workers ≡ k = div-add-mod' k plan.workers in
    let split : k * 16 + y % 16 ≡ y = div-add-mod' y 16 in
    let short : y % 16 < 16 = mod_below y 16 (omega arith) in
    let worker : ℕ = k % plan.workers + 1 in
    let op : ℕ = k / plan.workers in
    let offset : cell_offset plan worker op ≡ 16 * k = ap (λ (c : ℕ). 16 * (op * plan.workers + c)) (let e : k % plan.workers + 1 - 1 ≡ k % plan.workers = omega arith in e) ∙ ap (λ (c : ℕ). 16 * c) back in
    record {
      worker = worker;
      op = op;
      from = omega arith;
      to = omega arith;
      few = few;
      covers = record {
        at = cell_offset plan worker op;
        place = refl;
        from = omega (arith, offset, split, short);
        to = omega (arith, offset, split, short, cell_length plan.seed worker op);
      };
    }
