use Rattle.std.proofs.Common.{◌≡◌, ℕ, ◌-◌, ◌≤◌, length, map, arith, refl, ap, sym, ◌∙◌, subst, true, false}
use Rattle.tree_geom.specs.Geometry.{page_range}
use Rattle.range_log.specs.Rows.{back_of}
use Rattle.range_log.specs.Visits.{backs_of}
use Rattle.snapshot.specs.Versions.{HasNodeFor}
use Rattle.range_reader.specs.Faults.{IsLedTo, Back}
use Rattle.range_reader.specs.Reading.{falls, page_in}
use borrow.Rule.Slice.PartMut.{put_mid}
use Rattle.range_reader.proofs.Along.{backs_at}
use Rattle.range_reader.proofs.Counting.{kept_yet, kept_twice, stored_since, risen_since, page_since}
use Rattle.range_reader.proofs.Holding.{NextLeaf, next_leaf, beside}
use Rattle.range_reader.proofs.Leaves.{LeafOf, leaf_of_version}
use Rattle.range_reader.specs.Filling.{AreAlike}
use Rattle.range_reader.proofs.Narrowing.{part_ends, put_count, narrowed_front, but_after, alike_after, alike_further, all_but_none}
use Rattle.range_reader.proofs.page.fill_ends.Given.{Over}
use Rattle.range_reader.proofs.page.fill_ends.Goals.{Else-left}
use Rattle.range_reader.proofs.page.fill_ends.Goals as goal

pub loop-parts-init : goal.loop-parts-init
loop-parts-init g c = record {
  low = omega arith;
  some = omega (arith, c.requires.some);
  high = omega arith;
  has = c.requires.has;
  led = c.requires.led;
  leaf = c.requires.leaf;
  met = c.requires.met;
  ahead = omega arith;
  there = λ _. record { below = λ x lt less. absurd (omega arith); above = λ x lt more. absurd (omega arith) };
  alike = record { same = λ b from to. refl; valid = c.requires.valid };
  kept = kept_yet _ _;
  count = refl;
  truth = λ all. all;
}

pub fill_along-requires-clause-valid : goal.fill_along-requires-clause-valid
fill_along-requires-clause-valid g c =
    let inv = c.loop-parts.invariant in
    let ends = part_ends c.args.begin c.loop-parts.gap.low c.loop-parts.gap.high c.loop-parts.out inv.low (omega (arith, inv.some)) inv.high in
    omega (arith, ends, inv.alike.valid)

pub fill_along-requires-clause-within : goal.fill_along-requires-clause-within
fill_along-requires-clause-within g c =
    let inv = c.loop-parts.invariant in
    let ends = part_ends c.args.begin c.loop-parts.gap.low c.loop-parts.gap.high c.loop-parts.out inv.low (omega (arith, inv.some)) inv.high in
    omega (arith, ends, inv.high, c.loop-parts.auto.out, c.requires.within)

pub fill_along-requires-clause-some : goal.fill_along-requires-clause-some
fill_along-requires-clause-some g c =
    let inv = c.loop-parts.invariant in
    let ends = part_ends c.args.begin c.loop-parts.gap.low c.loop-parts.gap.high c.loop-parts.out inv.low (omega (arith, inv.some)) inv.high in
    omega (arith, ends, inv.some)

pub returns-then-is_split_by-clause-bytes : goal.returns-then-is_split_by-clause-bytes
returns-then-is_split_by-clause-bytes g c = λ all ok.
    let s = c.args.source.now.view.now in
    let i = c.args.head.page in
    let at = c.loop-parts.version in
    let begin = c.args.begin in
    let low = c.loop-parts.gap.low in
    let high = c.loop-parts.gap.high in
    let inv = c.loop-parts.invariant in
    let page = page_in s c.args.head.version i in
    let here = page_in s at i in
    let out = c.loop-parts.out in
    let order : low ≤ high = omega (arith, inv.some) in
    let sub = c.fill_along.new.out in
    let is = c.fill_along.ensures.bytes (inv.truth all) ok in
    let len = c.fill_along.auto.out in
    let count = put_count here begin low high out sub inv.low order inv.high len is in
    let narrowed = narrowed_front here begin low high out sub inv.low order inv.high len is low high high high refl refl refl (omega arith) in
    let out' = put_mid (low - begin) (high - begin - (low - begin)) out sub in
    all_but_none page begin high high (length c.args.out.now) out' (count ∙ c.loop-parts.auto.out) c.requires.valid (omega arith)
    (but_after page here begin low high high high inv.alike order (omega arith) out out' count (omega arith) (inv.there all) narrowed)

pub returns-then-is_split_by-clause-failed : goal.returns-then-is_split_by-clause-failed
returns-then-is_split_by-clause-failed g c = λ no.
    let counts = map g.D.Door.faults in
    page_since c.args.source.now.view.now (counts c.args.doors.now) (counts c.loop-parts.doors) (counts c.fill_along.new.doors) c.args.head.page
    c.loop-parts.invariant.kept.none_fell (c.fill_along.ensures.failed no)

pub returns-then-is_split_by-clause-counted : goal.returns-then-is_split_by-clause-counted
returns-then-is_split_by-clause-counted g c = λ no. risen_since _ _ _ c.loop-parts.invariant.kept.total (c.fill_along.ensures.counted no)

pub returns-then-is_split_by-clause-kept : goal.returns-then-is_split_by-clause-kept
returns-then-is_split_by-clause-kept g c = kept_twice _ _ _ _ _ _ c.loop-parts.invariant.kept c.fill_along.ensures.kept

pub returns-then-is_split_by-clause-truth_stays : goal.returns-then-is_split_by-clause-truth_stays
returns-then-is_split_by-clause-truth_stays g c = λ all. c.fill_along.ensures.truth_stays (c.loop-parts.invariant.truth all)

pub fill_end-requires-clause-end : goal.fill_end-requires-clause-end
fill_end-requires-clause-end g c = λ both.
    let split : c.is_split_by.result ≡ true = c.is_split_by.ensures.1 both in
    let no : c.is_split_by.result ≡ false = c.if-is_split_by.false in
    cc

pub returns-in_default-clause-failed : goal.returns-in_default-clause-failed
returns-in_default-clause-failed g c = λ _.
    let s = c.args.source.now.view.now in
    let counts = map g.D.Door.faults in
    let inv = c.loop-parts.invariant in
    let f = c.in_default.ensures.failed refl in
    record {
      version = c.loop-parts.version;
      number = f.number;
      needed = record { led = inv.led; has = inv.has; piece = f.piece };
      failed = stored_since s (counts c.args.doors.now) (counts c.loop-parts.doors) (counts c.fill_end.new.doors) c.loop-parts.version f.number inv.kept.none_fell f.failed;
    }

pub returns-in_default-clause-counted : goal.returns-in_default-clause-counted
returns-in_default-clause-counted g c = λ _. risen_since _ _ _ c.loop-parts.invariant.kept.total (c.in_default.ensures.counted refl)

pub returns-in_default-clause-kept : goal.returns-in_default-clause-kept
returns-in_default-clause-kept g c = kept_twice _ _ _ _ _ _ c.loop-parts.invariant.kept c.fill_end.ensures.kept

pub returns-in_default-clause-truth_stays : goal.returns-in_default-clause-truth_stays
returns-in_default-clause-truth_stays g c = λ all. c.fill_end.ensures.truth_stays (c.loop-parts.invariant.truth all)

pub returns-then-left-clause-bytes : goal.returns-then-left-clause-bytes
returns-then-left-clause-bytes g c = λ all _.
    let s = c.args.source.now.view.now in
    let i = c.args.head.page in
    let inv = c.loop-parts.invariant in
    let left = c.in-Some.left in
    let within = c.in-Some.ensures.left in
    let page = page_in s c.args.head.version i in
    let gap = c.loop-parts.gap in
    let n = length c.args.out.now in
    let out = c.loop-parts.out in
    let out' = c.fill_end.new.out in
    all_but_none page c.args.begin left.low left.high n out' (c.fill_end.auto.out ∙ c.loop-parts.auto.out) c.requires.valid (omega (arith, c.if-left.true))
    (but_after page (page_in s c.loop-parts.version i) c.args.begin gap.low gap.high left.low left.high inv.alike within.0 within.2 out out' c.fill_end.auto.out within.1
    (inv.there all) (c.in-Some.ensures.narrowed (inv.truth all)))

pub returns-then-left-clause-kept : goal.returns-then-left-clause-kept
returns-then-left-clause-kept g c = kept_twice _ _ _ _ _ _ c.loop-parts.invariant.kept c.fill_end.ensures.kept

pub returns-then-left-clause-truth_stays : goal.returns-then-left-clause-truth_stays
returns-then-left-clause-truth_stays g c = λ all. c.fill_end.ensures.truth_stays (c.loop-parts.invariant.truth all)

-- the leaf that was come to
leaf : (g : Over) (c : Else-left g) → LeafOf c.args.source.now.view.now c.loop-parts.version c.args.head.page
leaf g c =
    let f = c.leaves_fill.ensures in
    leaf_of_version f.fill f.fit f.pieces c.folds_are.ensures.folds c.page_bytes_stay.ensures.bytes c.page_bytes_stay.ensures.extents c.args.source.now.view.now c.stands.ensures c.loop-parts.version
    c.args.head.page c.loop-parts.invariant.has

-- where something is left, the leaf has a back, at which there is a leaf with the last byte of what is left
onward : (g : Over) (c : Else-left g) → NextLeaf c.args.source.now.view.now c.loop-parts.version c.args.head.page (c.in-Some.left.high - 1)
onward g c =
    let s = c.args.source.now.view.now in
    let i = c.args.head.page in
    let at = c.loop-parts.version in
    let is = c.stands.ensures in
    let inv = c.loop-parts.invariant in
    let left = c.in-Some.left in
    let within = c.in-Some.ensures.left in
    next_leaf c.no_holes.ensures.backs c.links_name_nodes.ensures.backs c.page_bytes_stay.ensures.extents s is at i (left.high - 1) inv.has (leaf g c)
    (omega (arith, inv.alike.valid, within.2, within.1, c.if-left.false, inv.some))
    (c.in-Some.ensures.lacks (left.high - 1) (omega (arith, within.1, c.if-left.false)) (omega (arith, within.1, c.if-left.false)))

-- what is left is the same in the page at the leaf's back
rest : (g : Over) (c : Else-left g)
    → AreAlike (page_in c.args.source.now.view.now c.args.head.version c.args.head.page) (page_in c.args.source.now.view.now c.loop-parts.parts.back c.args.head.page) c.in-Some.left.low c.in-Some.left.high
rest g c =
    let s = c.args.source.now.view.now in
    let i = c.args.head.page in
    let at = c.loop-parts.version in
    let inv = c.loop-parts.invariant in
    let gap = c.loop-parts.gap in
    let left = c.in-Some.left in
    let within = c.in-Some.ensures.left in
    let page = page_in s c.args.head.version i in
    let A : ℕ → Type 0 = λ j. AreAlike page (page_in s j i) left.low left.high in
    subst A (sym inv.leaf.back)
    (alike_after page (page_in s at i) c.args.begin gap.low gap.high left.low left.high inv.alike within.0 within.2 (page_in s (back_of s.page_size (falls s) at i) i) (omega (arith, within.1, c.if-left.false))
    (λ b from upto valid.
    let rest = (leaf g c).tells.rest b (beside s at i b (c.in-Some.ensures.lacks b from upto)) valid in
    (rest.1, rest.2)))

pub first_with-older-requires-clause-has : goal.first_with-older-requires-clause-has
first_with-older-requires-clause-has g c =
    let s = c.args.source.now.view.now in
    let rest = (goal.at.first_with-older-requires-clause-has g c).Else-left in
    let N : ℕ → Type 0 = λ j. HasNodeFor s j (page_range s.page_size c.args.head.page) in
    subst N (sym c.loop-parts.invariant.leaf.back) (onward g rest).stands

pub first_with-older-requires-clause-some : goal.first_with-older-requires-clause-some
first_with-older-requires-clause-some g c = omega (arith, c.in-Some.ensures.left.1, c.if-left.false)

pub first_with-older-requires-clause-valid : goal.first_with-older-requires-clause-valid
first_with-older-requires-clause-valid g c = (rest g (goal.at.first_with-older-requires-clause-valid g c).Else-left).valid

pub loop-parts-smaller : goal.loop-parts-smaller
loop-parts-smaller g c = omega (arith, c.loop-parts.invariant.leaf.back, (onward g (goal.at.loop-parts-smaller g c).Else-left).less, c.first_with-older.ensures.upto)

pub loop-parts-preserved : goal.loop-parts-preserved
loop-parts-preserved g c =
    let s = c.args.source.now.view.now in
    let p = s.page_size in
    let xs = falls s in
    let i = c.args.head.page in
    let at = c.loop-parts.version in
    let inv = c.loop-parts.invariant in
    let gap = c.loop-parts.gap in
    let left = c.in-Some.left in
    let within = c.in-Some.ensures.left in
    let page = page_in s c.args.head.version i in
    let out = c.loop-parts.out in
    let out' = c.fill_end.new.out in
    let count : length out' ≡ length out = c.fill_end.auto.out in
    let back : c.loop-parts.parts.back ≡ back_of p xs at i = inv.leaf.back in
    let place = (goal.at.loop-parts-preserved g c).Else-left in
    let to = onward g place in
    let backs = backs_at c.newest_is_greatest.ensures.greatest c.backs_step.ensures p at i xs inv.has in
    let L : ℕ → Type 0 = λ j. IsLedTo s i j in
    let next = c.first_with-older.ensures in
    record {
      low = omega (arith, inv.low, within.0);
      some = omega (arith, within.1, c.if-left.false);
      high = omega (arith, inv.high, within.2, count);
      has = next.has;
      led = next.led (subst L (sym back) (Back at inv.led to.some));
      leaf = next.leaf;
      met = next.met;
      ahead = omega (arith, inv.ahead, backs.1 to.some, ap (λ j. backs_of p xs j i) back, next.steps);
      there = λ all.
          but_after page (page_in s at i) c.args.begin gap.low gap.high left.low left.high inv.alike within.0 within.2 out out' count within.1 (inv.there all)
          (c.in-Some.ensures.narrowed (inv.truth all));
      alike = alike_further page (page_in s c.loop-parts.parts.back i) (page_in s c.first_with-older.result.0 i) left.low left.high (rest g place) next.alike;
      kept = kept_twice _ _ _ _ _ _ inv.kept c.fill_end.ensures.kept;
      count = c.fill_end.ensures.count ∙ inv.count;
      truth = λ all. c.fill_end.ensures.truth_stays (inv.truth all);
    }
