use Rattle.std.proofs.Common.{◌≡◌, ℕ, ◌+◌, ◌%◌, refl, ◌∙◌, arith, below_more, get_or-set_other, get_or-set_same}
use Rattle.std.proofs.lemmas.List.{length-set}
use Rattle.std.proofs.lemmas.List.FromFn.{fill_by_all}
use Rattle.workload_law.specs.Pieces.{cell_of, cell_byte}
use Rattle.workload_law.proofs.pieces.cell.Goals as goal

-- a sum modulo 256 is that of its parts modulo 256
low_sum : (a b c k : ℕ) → (a % 256 + b % 256 + c % 256 + k) % 256 ≡ (a + b + c + k) % 256
low_sum a b c k = omega arith

pub loop-index-preserved : goal.loop-index-preserved
loop-index-preserved c = record {
  first = refl;
  long = length-set c.loop-index.piece c.loop-index.index _ ∙ c.loop-index.invariant.long;
  made = below_more _ _
      (λ k h. get_or-set_other c.loop-index.piece c.loop-index.index k _ 0 (omega arith) ∙ c.loop-index.invariant.made k h)
      (get_or-set_same c.loop-index.piece c.loop-index.index _ 0 (omega arith) ∙ low_sum c.args.seed c.args.worker c.args.op c.loop-index.index);
}

pub returns : goal.returns
unfolding cell_of
returns c = fill_by_all (cell_byte c.args.seed c.args.worker c.args.op) c.loop-index.piece 16 0 (omega arith) (λ k h. c.loop-index.invariant.made k (omega arith))
