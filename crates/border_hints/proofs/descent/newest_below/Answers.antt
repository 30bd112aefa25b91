use Rattle.std.proofs.Common.{◌≡◌, ℕ, ◌+◌, ◌-◌, ◌<◌, ◌≤◌, List, length, arith, ap, sym, ◌∙◌, true, Bool}
use Rattle.tree_geom.specs.declared.range.Range.{Range}
use Rattle.tree_geom.specs.Geometry.{tree_range, meets_of}
use Rattle.range_log.specs.declared.open.OpenTouch.{OpenTouch}
use Rattle.range_log.specs.Log.{newest_of}
use Rattle.range_log.specs.Open.{open_at}
use Rattle.tree_geom.proofs.Spans.{page_pos}
use Rattle.border_hints.specs.Numbered.{log_upto}
use Rattle.border_hints.proofs.Turning.{waiting_hit, waiting_miss, newest_stays}
use Rattle.border_hints.proofs.descent.newest_below.Goals as goal

-- the waiting update that the code reads
read : (waiting told : List OpenTouch) (i : ℕ) (o : OpenTouch) → told ≡ waiting → o ≡ open_at told i → o ≡ open_at waiting i
read waiting told i o e is = is ∙ ap (λ w. open_at w i) e

-- whether it touches the range
tested : (p : ℕ) (o x : OpenTouch) (range : Range) (test value : Bool) → o ≡ x → test ≡ meets_of p o.touch range → test ≡ value → meets_of p x.touch range ≡ value
tested p o x range test value is met v = ap (λ (y : OpenTouch). meets_of p y.touch range) (sym is) ∙ sym met ∙ v

index_fits : (waiting told : List OpenTouch) (count i : ℕ) → told ≡ waiting → count ≡ length told → i ≤ count → 0 < i → i - 1 < length waiting
index_fits waiting told count i e is le some = omega (arith, ap length e)

pub returns-then-reaches : goal.returns-then-reaches
returns-then-reaches c =
    let t = c.args.ticket.now in
    let i = c.loop-i.i in
    let p = t.snapshot.page_size in
    let range = tree_range p c.args.level c.args.number in
    let got = read t.waiting _ (i - 1) c.at-waiting.result c.hints-hints.ensures.waiting c.at-waiting.ensures in
    let met = c.reaches.ensures p (page_pos p c.stands.ensures.published.page_size) in
    let lt = index_fits t.waiting _ c.count-i.result i c.hints-hints.ensures.waiting c.count-i.ensures.count (omega (arith, c.loop-i.auto.i)) (omega (arith, c.loop-i-test.true)) in
    ap (λ (o : OpenTouch). o.version) got
    ∙ sym (waiting_hit c.logs_are_grown.ensures.count t c.stands.ensures range (i - 1) i lt (omega (arith, c.loop-i-test.true))
    (tested p c.at-waiting.result (open_at t.waiting (i - 1)) range c.reaches.result true got met c.if-reaches.true))
    ∙ c.loop-i.invariant

pub loop-i-preserved : goal.loop-i-preserved
loop-i-preserved c =
    let t = c.args.ticket.now in
    let i = c.loop-i.i in
    let p = t.snapshot.page_size in
    let range = tree_range p c.args.level c.args.number in
    let got = read t.waiting _ (i - 1) c.at-waiting.result c.hints-hints.ensures.waiting c.at-waiting.ensures in
    let met = c.reaches.ensures p (page_pos p c.stands.ensures.published.page_size) in
    let lt = index_fits t.waiting _ c.count-i.result i c.hints-hints.ensures.waiting c.count-i.ensures.count (omega (arith, c.loop-i.auto.i)) (omega (arith, c.loop-i-test.true)) in
    sym (waiting_miss c.logs_are_grown.ensures.count t range (i - 1) i lt (omega (arith, c.loop-i-test.true))
    (tested p c.at-waiting.result (open_at t.waiting (i - 1)) range c.reaches.result _ got met c.if-reaches.false))
    ∙ c.loop-i.invariant

pub returns : goal.returns
returns c =
    let t = c.args.ticket.now in
    let p = t.snapshot.page_size in
    let range = tree_range p c.args.level c.args.number in
    let e : length t.snapshot.rows ≡ length t.snapshot.rows + c.loop-i.i = omega (arith, c.loop-i-test.false) in
    c.requires.known
    ∙ newest_stays c.logs_are_grown.ensures.count c.older_versions_stay.ensures.grow t range
    ∙ ap (λ n. newest_of p (log_upto t) n range) e
    ∙ c.loop-i.invariant
