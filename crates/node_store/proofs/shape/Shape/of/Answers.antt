use Rattle.std.proofs.Common.{◌≡◌, ℕ, ◌^◌, ◌≤◌, arith, ap, sym, ◌∙◌}
use Rattle.tree_geom.specs.Geometry.{IsPageSize}
use Rattle.range_log.proofs.Doublings.{HighestBit, one_bit, power_bit}
use Rattle.node_store.specs.Shapes.{RowShape}
use Rattle.node_store.proofs.shape.Shape.of.Goals as goal

-- the highest bit of a page's size is the only one
log_is : (p log : ℕ) → HighestBit p log → IsPageSize p → (2 ^ log ≡ p) × (2 ≤ log) × (log ≤ 20)
log_is p log x page =
    let y : HighestBit p page.0 = rw page.1 (power_bit page.0) in
    let e : log ≡ page.0 = one_bit p log page.0 x y in
    (ap (λ k. 2 ^ k) e ∙ sym page.1, omega (arith, e, page.2), omega (arith, e, page.3))

pub invariant_of-result : goal.invariant_of-result
invariant_of-result c =
    let is = log_is c.bytes.result c.ilog2.result (record { reaches = c.ilog2.ensures.power_le; below = c.ilog2.ensures.next_power_gt }) c.bytes.ensures.power in
    (is.1, is.2)

pub returns : goal.returns
returns c =
    let is = log_is c.bytes.result c.ilog2.result (record { reaches = c.ilog2.ensures.power_le; below = c.ilog2.ensures.next_power_gt }) c.bytes.ensures.power in
    let S : ℕ → RowShape = λ n. record { touch = c.args.touch; version = c.args.version; height = c.args.height; page_size = n } in
    ap S (is.0 ∙ c.bytes.ensures.is)
