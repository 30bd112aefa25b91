use Rattle.std.proofs.Common.{◌+◌, ℕ, sym, subst, ◌∙◌, inl, inr, true, false, arith}
use Rattle.workload_law.proofs.Standing.{Found, begins, other_piece, own_piece, wrong_piece, read_all, begins_so, equals, differs}
use Rattle.workload_law.proofs.pieces.stands_in_order.Goals as goal
use Rattle.workload_law.proofs.pieces.stands_in_order.Goals.{then-next-ops-via-then-next-ops, then-next-ops-via-else-next-ops+then-ne, then-eq+else-next-ops+else-ne, else-eq}

pub loop-k-init : goal.loop-k-init
loop-k-init c = record { few = omega arith; found = begins c.args.worker c.args.bytes.now }

pub returns-then-next-ops : goal.returns-then-next-ops
returns-then-next-ops c =
    let bytes = c.args.bytes.now in
    let own = begins_so c.args.worker c.loop-k.k bytes c.as_slice.result.now c.eq.result true (c.as_slice.ensures ∙ c.to_be_bytes.ensures) c.eq.ensures c.if-eq.true in
    let wrong = wrong_piece c.args.worker bytes c.loop-k.k c.loop-k.next c.loop-k-test.true c.loop-k.invariant.found c.args.ops c.loop-k.invariant.few own in
    elim c.then-next-ops.branch [
      | then-next-ops-via-then-next-ops w ↦ sym (wrong (inl w.if-next-ops.true))
      | then-next-ops-via-else-next-ops+then-ne w ↦
          sym (wrong (inr (λ same. differs c.loop-k.k bytes w.as_slice-else-next-ops.result.now w.ne.result w.ne.ensures w.if-ne.true (same ∙ sym (w.as_slice-else-next-ops.ensures ∙ w.record.ensures)))))
    ]

pub loop-k-preserved : goal.loop-k-preserved
loop-k-preserved c =
    let bytes = c.args.bytes.now in
    elim c.if-eq.branch [
      | then-eq+else-next-ops+else-ne w ↦
          let own = begins_so c.args.worker c.loop-k.k bytes c.as_slice.result.now c.eq.result true (c.as_slice.ensures ∙ c.to_be_bytes.ensures) c.eq.ensures w.if-eq.true in
          let same = equals c.loop-k.k bytes w.as_slice-else-next-ops.result.now w.ne.result w.ne.ensures w.if-ne.false ∙ (w.as_slice-else-next-ops.ensures ∙ w.record.ensures) in
          record {
            few = omega arith;
            found = subst (λ (n : ℕ). Found c.args.worker bytes (c.loop-k.k + 1) n) (sym w.next-is)
                (own_piece c.args.worker bytes c.loop-k.k c.loop-k.next c.loop-k-test.true c.loop-k.invariant.found own same);
          }
      | else-eq w ↦
          let other = begins_so c.args.worker c.loop-k.k bytes c.as_slice.result.now c.eq.result false (c.as_slice.ensures ∙ c.to_be_bytes.ensures) c.eq.ensures w.if-eq.false in
          record {
            few = omega arith;
            found = subst (λ (n : ℕ). Found c.args.worker bytes (c.loop-k.k + 1) n) (sym w.next-is)
                (other_piece c.args.worker bytes c.loop-k.k c.loop-k.next c.loop-k-test.true c.loop-k.invariant.found other);
          }
    ]

pub returns : goal.returns
returns c = sym (read_all c.args.worker c.args.bytes.now c.loop-k.k c.loop-k.next c.args.ops c.loop-k-test.false c.loop-k.invariant.found)
