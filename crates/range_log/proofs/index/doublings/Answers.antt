use Rattle.std.proofs.Common.{◌*◌, ◌^◌, arith, ap, sym, ◌∙◌}
use Rattle.range_log.proofs.Doublings.{HighestBit, bits_rise, only_times, shift_is}
use Rattle.range_log.proofs.index.doublings.Goals as goal

pub overflow_sub-times : goal.overflow_sub-times
overflow_sub-times c =
    bits_rise c.args.width c.args.size c.ilog2-2.result c.ilog2.result (record { reaches = c.ilog2-2.ensures.power_le; below = c.ilog2-2.ensures.next_power_gt })
    (record { reaches = c.ilog2.ensures.power_le; below = c.ilog2.ensures.next_power_gt }) (omega arith)

pub returns-then-width-times-clause-times : goal.returns-then-width-times-clause-times
returns-then-width-times-clause-times c =
    sym c.if-width-times.true
    ∙ shift_is c.args.width c.ilog2-2.result c.ilog2.result (record { reaches = c.ilog2-2.ensures.power_le; below = c.ilog2-2.ensures.next_power_gt })
    (bits_rise c.args.width c.args.size c.ilog2-2.result c.ilog2.result (record { reaches = c.ilog2-2.ensures.power_le; below = c.ilog2-2.ensures.next_power_gt })
    (record { reaches = c.ilog2.ensures.power_le; below = c.ilog2.ensures.next_power_gt }) (omega arith)) c.ilog2.ensures.bound

pub returns-else-width-times-clause-times : goal.returns-else-width-times-clause-times
returns-else-width-times-clause-times c n is =
    let x : HighestBit c.args.width c.ilog2-2.result = record { reaches = c.ilog2-2.ensures.power_le; below = c.ilog2-2.ensures.next_power_gt } in
    let y : HighestBit c.args.size c.ilog2.result = record { reaches = c.ilog2.ensures.power_le; below = c.ilog2.ensures.next_power_gt } in
    let le = bits_rise c.args.width c.args.size c.ilog2-2.result c.ilog2.result x y (omega arith) in
    c.if-width-times.false
    (shift_is c.args.width c.ilog2-2.result c.ilog2.result x le c.ilog2.ensures.bound
    ∙ ap (λ k. c.args.width * 2 ^ k) (sym (only_times c.args.width c.args.size c.ilog2-2.result c.ilog2.result n x y is)) ∙ sym is)
