use Rattle.std.proofs.Common.{◌≡◌, ℕ, ◌+◌, Bool, true, false, cond, List, ap, sym, ◌∙◌, arith}
use Rattle.workload_law.specs.Pieces.{in_order_of, is_in_order}
use Rattle.workload_law.proofs.Standing.{in_order_more}
use Rattle.workload_law.proofs.pieces.in_order.Goals as goal
use Rattle.workload_law.proofs.pieces.in_order.Goals.{then-stands_in_order, else-stands_in_order}

-- a worker counts one where its records stand in order, and else nothing
counted : (n ops count before : ℕ) (bytes : List ℕ) (t : Bool) → t ≡ is_in_order ops bytes (n + 1) → before ≡ in_order_of n ops bytes → count ≡ before + cond t 1 0 → count ≡ in_order_of (n + 1) ops bytes
counted n ops count before bytes t test was is =
    is ∙ (ap (λ (k : ℕ). k + cond t 1 0) was ∙ (ap (λ (b : Bool). in_order_of n ops bytes + cond b 1 0) test ∙ sym (in_order_more n ops bytes)))

pub loop-before-preserved : goal.loop-before-preserved
loop-before-preserved c =
    let bytes = c.args.bytes.now in
    let test = c.stands_in_order.ensures in
    let was = c.loop-before.invariant.counted in
    elim c.if-stands_in_order.branch [
      | then-stands_in_order w ↦ record {
        few = omega arith;
        counted = counted c.loop-before.before c.args.ops c.if-stands_in_order.count c.loop-before.count bytes true (sym w.if-stands_in_order.true ∙ test) was w.count-is;
      }
      | else-stands_in_order w ↦ record {
        few = omega arith;
        counted = counted c.loop-before.before c.args.ops c.if-stands_in_order.count c.loop-before.count bytes false (sym w.if-stands_in_order.false ∙ test) was (w.count-is ∙ omega arith);
      }
    ]
