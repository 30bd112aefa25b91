use Rattle.std.proofs.Common.{◌≡◌, ◌+◌, ◌-◌, ◌<◌, length, arith, refl, ap, sym, ◌∙◌}
use Rattle.range_log.specs.declared.open.OpenTouch.{OpenTouch}
use Rattle.range_log.specs.Depths.{fold_number, depth_of, depth_after}
use Rattle.range_log.specs.Open.{open_at}
use Rattle.tree_geom.proofs.Spans.{page_pos}
use Rattle.border_hints.specs.Numbered.{log_upto}
use Rattle.border_hints.proofs.Depths.{depth_stays, depth_waiting}
use Rattle.border_hints.proofs.descent.depth_below.Goals as goal

pub loop-i-init : goal.loop-i-init
loop-i-init c =
    let t = c.args.ticket.now in
    let e : length t.snapshot.rows ≡ length t.snapshot.rows + 0 = omega arith in
    c.requires
    ∙ depth_stays c.logs_are_grown.ensures.count c.depth_counts_backs.ensures.stay t c.args.page
    ∙ ap (λ n. depth_of t.snapshot.page_size (log_upto t) n c.args.page) e

pub loop-i-preserved : goal.loop-i-preserved
loop-i-preserved c =
    let t = c.args.ticket.now in
    let i = c.loop-i.i in
    let p = t.snapshot.page_size in
    let got = c.at-waiting.ensures ∙ ap (λ w. open_at w i) c.hints-hints.ensures.waiting in
    let lt : i < length t.waiting = omega (arith, c.loop-i-test.true, c.count-i-end.ensures.count, ap length c.hints-hints.ensures.waiting) in
    c.depth_with-depth.ensures p (page_pos p c.stands.ensures.published.page_size)
    ∙ ap (λ (o : OpenTouch). depth_after fold_number p o.touch c.args.page c.loop-i.depth) got
    ∙ ap (depth_after fold_number p (open_at t.waiting i).touch c.args.page) c.loop-i.invariant
    ∙ sym (depth_waiting c.logs_are_grown.ensures.count t c.args.page i (i + 1) lt refl)

pub returns-clause-depth : goal.returns-clause-depth
returns-clause-depth c =
    let t = c.args.ticket.now in
    let e : length t.snapshot.rows + c.loop-i.i ≡ t.version - 1 =
    omega (arith, c.stands.ensures.version, c.count-i-end.ensures.count, ap length c.hints-hints.ensures.waiting, c.loop-i-test.false, c.loop-i.auto.i-end) in
    c.loop-i.invariant ∙ ap (λ n. depth_of t.snapshot.page_size (log_upto t) n c.args.page) e
