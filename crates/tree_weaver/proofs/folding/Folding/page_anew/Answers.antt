use Rattle.std.proofs.Common.{◌≡◌, ℕ, List, ◌++◌, length, take, drop, arith, ap, ◌∙◌}
use Rattle.std.proofs.lemmas.List.{take-append-le, take_all}
use Rattle.tree_weaver.proofs.folding.Folding.page_anew.Goals as goal

-- a buffer that was filled whole
filled : (n : ℕ) (out items : List ℕ) → length items ≡ n → length out ≡ length items → take n (out ++ drop (length out) items) ≡ out
filled n out items all same = take-append-le n out (drop (length out) items) (omega arith) ∙ take_all n out (omega arith)

pub returns-clause-bytes : goal.returns-clause-bytes
returns-clause-bytes g c =
    let value = ap length c.as_mut_slice-out.ensures.value in
    filled c.in-Ok.bytes.len c.fill_anew.new.out c.in-Ok.bytes.items (omega (arith, c.in-Ok.bytes.ok)) (omega (arith, value, c.fill_anew.auto.out))
    ∙ c.fill_anew.ensures.bytes c.if-not-fill_anew.false

pub returns-clause-some : goal.returns-clause-some
returns-clause-some g c =
    let value = ap length c.as_mut_slice-out.ensures.value in
    let all = filled c.in-Ok.bytes.len c.fill_anew.new.out c.in-Ok.bytes.items (omega (arith, c.in-Ok.bytes.ok)) (omega (arith, value, c.fill_anew.auto.out)) in
    omega (arith, ap length all, value, c.fill_anew.auto.out, c.in-Ok.ensures.len, c.changed_part-valid.ensures.whole, c.changed_part-valid.ensures.some)

pub returns-clause-few : goal.returns-clause-few
returns-clause-few g c =
    let value = ap length c.as_mut_slice-out.ensures.value in
    let all = filled c.in-Ok.bytes.len c.fill_anew.new.out c.in-Ok.bytes.items (omega (arith, c.in-Ok.bytes.ok)) (omega (arith, value, c.fill_anew.auto.out)) in
    omega (arith, ap length all, value, c.fill_anew.auto.out, c.in-Ok.ensures.len, c.changed_part-valid.ensures.small)
