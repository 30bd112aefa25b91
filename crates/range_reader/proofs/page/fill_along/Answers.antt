use Rattle.std.proofs.Common.{◌≡◌, ℕ, ◌<◌, ◌≤◌, length, map, arith, refl, ap, sym, ◌∙◌, subst, get_or, true, false}
use Rattle.tree_geom.specs.Geometry.{page_range}
use Rattle.range_log.specs.Rows.{back_of}
use Rattle.range_log.specs.Visits.{backs_of}
use Rattle.snapshot.specs.Versions.{updates_of, HasNodeFor}
use Rattle.tree_geom.proofs.Spans.{page_pos}
use Rattle.range_reader.specs.Faults.{IsLedTo, Back}
use Rattle.range_reader.specs.Reading.{falls, page_in, own_start, own_len}
use Rattle.range_reader.proofs.Counting.{kept_yet, kept_twice, stored_since, risen_since}
use Rattle.range_reader.proofs.Standing.{AreIn, there_after, in_after, still_wanted}
use Rattle.range_reader.proofs.Leaves.{LeafOf, leaf_of_version, IsOpen}
use Rattle.range_reader.proofs.Along.{backs_at}
use Rattle.range_reader.proofs.Going.{no_longer, back_less}
use Rattle.range_reader.proofs.Taking.{read_all}
use Rattle.range_reader.proofs.page.fill_along.Given.{Over}
use Rattle.range_reader.proofs.page.fill_along.Goals.{In-Some, Else-next-out}
use Rattle.range_reader.proofs.page.fill_along.Goals as goal

-- the leaf that was come to
leaf : (g : Over) (c : In-Some g) → LeafOf c.args.source.now.view.now c.loop-next.version c.args.head.page
leaf g c =
    let f = c.leaves_fill.ensures in
    leaf_of_version f.fill f.fit f.pieces c.folds_are.ensures.folds c.page_bytes_stay.ensures.bytes c.page_bytes_stay.ensures.extents c.args.source.now.view.now c.stands.ensures c.loop-next.version
    c.args.head.page c.loop-next.invariant.has

marked : (g : Over) (c : In-Some g) → length c.loop-next.marks ≡ length c.loop-next.out
marked g c = omega (arith, c.loop-next.auto.marks, c.loop-next.auto.out, c.requires.marked, c.mark_all.auto.marks)

pub loop-next-init : goal.loop-next-init
loop-next-init g c = record {
  within = omega (arith, c.requires.some);
  wanted = c.mark_all.ensures 0 (omega (arith, c.requires.some, c.requires.marked));
  before = λ x lt. absurd (omega arith);
  has = c.requires.has;
  led = c.requires.led;
  leaf = c.requires.leaf;
  ahead = omega arith;
  there = λ _. record { there = λ x lt no. absurd (let yes' : get_or c.mark_all.new.marks x false ≡ true = c.mark_all.ensures x (omega (arith, lt, c.requires.marked)) in cc) };
  from = record { same = λ x lt yes'. refl; valid = λ x lt yes'. omega (arith, lt, c.requires.valid) };
  kept = kept_yet _ _;
  count = refl;
  truth = λ all. all;
}

pub returns-in_default-clause-failed : goal.returns-in_default-clause-failed
returns-in_default-clause-failed g c = λ _.
    let s = c.args.source.now.view.now in
    let counts = map g.D.Door.faults in
    let inv = c.loop-next.invariant in
    let f = c.in_default.ensures.failed refl in
    record {
      version = c.loop-next.version;
      number = f.number;
      needed = record { led = inv.led; has = inv.has; piece = f.piece };
      failed = stored_since s (counts c.args.doors.now) (counts c.loop-next.doors) (counts c.fill_wanted.new.doors) c.loop-next.version f.number inv.kept.none_fell f.failed;
    }

pub returns-in_default-clause-counted : goal.returns-in_default-clause-counted
returns-in_default-clause-counted g c = λ _. risen_since _ _ _ c.loop-next.invariant.kept.total (c.in_default.ensures.counted refl)

pub returns-in_default-clause-kept : goal.returns-in_default-clause-kept
returns-in_default-clause-kept g c = kept_twice _ _ _ _ _ _ c.loop-next.invariant.kept c.fill_wanted.ensures.kept

pub returns-in_default-clause-truth_stays : goal.returns-in_default-clause-truth_stays
returns-in_default-clause-truth_stays g c = λ all. c.fill_wanted.ensures.truth_stays (c.loop-next.invariant.truth all)

pub returns-then-next-out-clause-bytes : goal.returns-then-next-out-clause-bytes
returns-then-next-out-clause-bytes g c = λ all _.
    let s = c.args.source.now.view.now in
    let i = c.args.head.page in
    let at = c.loop-next.version in
    let begin = c.args.begin in
    let inv = c.loop-next.invariant in
    let some = (goal.at.returns-then-next-out-clause-bytes g c).In-Some in
    let page = page_in s c.args.head.version i in
    let old = c.loop-next.marks in
    let new = c.fill_wanted.new.marks in
    let out = c.loop-next.out in
    let out' = c.fill_wanted.new.out in
    let count : length out' ≡ length out = c.fill_wanted.auto.out in
    let taken = c.in-Some.ensures.taken refl in
    let there = there_after (own_start s at i) (own_len s at i) (page_in s at i) (page_in s (back_of s.page_size (falls s) at i) i) (IsOpen s at i) (leaf g some).tells.rest begin
    page old new out out' count (marked g some) (inv.there all) inv.from (c.in-Some.ensures.overlaid (inv.truth all) refl) taken in
    read_all page begin (length c.args.out.now) out' (count ∙ c.loop-next.auto.out) c.requires.valid
    (λ x lt.
    there.there x lt
    (no_longer (own_start s at i) (own_len s at i) begin x c.loop-next.first c.in-Some.next old new taken (omega (arith, lt, count, marked g some))
    inv.before c.in-Some.ensures.next.none (omega (arith, lt, c.if-next-out.true))))

pub returns-then-next-out-clause-kept : goal.returns-then-next-out-clause-kept
returns-then-next-out-clause-kept g c = kept_twice _ _ _ _ _ _ c.loop-next.invariant.kept c.fill_wanted.ensures.kept

pub returns-then-next-out-clause-truth_stays : goal.returns-then-next-out-clause-truth_stays
returns-then-next-out-clause-truth_stays g c = λ all. c.fill_wanted.ensures.truth_stays (c.loop-next.invariant.truth all)

-- where a byte is still wanted, the leaf has a back
has_back : (g : Over) (c : Else-next-out g) → LeafOf c.args.source.now.view.now c.loop-next.version c.args.head.page → length c.loop-next.marks ≡ length c.loop-next.out
    → 1 ≤ back_of c.args.source.now.view.now.page_size (falls c.args.source.now.view.now) c.loop-next.version c.args.head.page
has_back g c leaf marked =
    let s = c.args.source.now.view.now in
    let p = s.page_size in
    let i = c.args.head.page in
    let at = c.loop-next.version in
    let is = c.stands.ensures in
    let inv = c.loop-next.invariant in
    let marks_count = c.fill_wanted.auto.marks in
    let next = c.in-Some.ensures.next in
    let lt : c.in-Some.next < length c.loop-next.out = omega (arith, next.upto, c.if-next-out.false, c.fill_wanted.auto.out, marked, marks_count) in
    let opened : IsOpen s at i =
    still_wanted (own_start s at i) (own_len s at i) (page_in s at i) (page_in s (back_of p (falls s) at i) i) (IsOpen s at i) leaf.tells.rest c.args.begin
    (page_in s c.args.head.version i) c.loop-next.marks c.fill_wanted.new.marks (length c.loop-next.out) c.in-Some.next (omega (arith, marked)) inv.from
    (c.in-Some.ensures.taken refl) lt (next.wanted (omega (arith, lt, marked, marks_count))) in
    ((c.no_holes.ensures.backs p at i (falls s) (page_pos p is.page_size) (c.page_bytes_stay.ensures.extents (updates_of s) is.replayable).0 inv.has opened.0).1 opened.1).0

-- and there is a leaf at it
back_has : (g : Over) (c : Else-next-out g) → 1 ≤ back_of c.args.source.now.view.now.page_size (falls c.args.source.now.view.now) c.loop-next.version c.args.head.page
    → HasNodeFor c.args.source.now.view.now c.loop-next.parts.back (page_range c.args.source.now.view.now.page_size c.args.head.page)
back_has g c some =
    let s = c.args.source.now.view.now in
    let p = s.page_size in
    let is = c.stands.ensures in
    let inv = c.loop-next.invariant in
    let N : ℕ → Type 0 = λ j. HasNodeFor s j (page_range p c.args.head.page) in
    subst N (sym inv.leaf.back) (c.links_name_nodes.ensures.backs p c.loop-next.version c.args.head.page (falls s) (page_pos p is.page_size)
    (c.page_bytes_stay.ensures.extents (updates_of s) is.replayable).0 inv.has some)

pub leaf-parts-requires-clause-has : goal.leaf-parts-requires-clause-has
leaf-parts-requires-clause-has g c =
    let at = goal.at.leaf-parts-requires-clause-has g c in
    back_has g at.Else-next-out (has_back g at.Else-next-out (leaf g at.In-Some) (marked g at.In-Some))

pub loop-next-smaller : goal.loop-next-smaller
loop-next-smaller g c =
    let s = c.args.source.now.view.now in
    let is = c.stands.ensures in
    let inv = c.loop-next.invariant in
    omega (
      arith,
      inv.leaf.back,
      back_less c.no_holes.ensures.backs s.page_size c.loop-next.version c.args.head.page (falls s) (page_pos s.page_size is.page_size)
          (c.page_bytes_stay.ensures.extents (updates_of s) is.replayable).0 inv.has,
    )

pub loop-next-preserved : goal.loop-next-preserved
loop-next-preserved g c =
    let s = c.args.source.now.view.now in
    let p = s.page_size in
    let xs = falls s in
    let i = c.args.head.page in
    let at = c.loop-next.version in
    let begin = c.args.begin in
    let inv = c.loop-next.invariant in
    let place = goal.at.loop-next-preserved g c in
    let of = leaf g place.In-Some in
    let same = marked g place.In-Some in
    let some = has_back g place.Else-next-out of same in
    let page = page_in s c.args.head.version i in
    let older = page_in s (back_of p xs at i) i in
    let old = c.loop-next.marks in
    let new = c.fill_wanted.new.marks in
    let out = c.loop-next.out in
    let out' = c.fill_wanted.new.out in
    let count : length out' ≡ length out = c.fill_wanted.auto.out in
    let marks_count : length new ≡ length old = c.fill_wanted.auto.marks in
    let next = c.in-Some.ensures.next in
    let taken = c.in-Some.ensures.taken refl in
    let back : c.loop-next.parts.back ≡ back_of p xs at i = inv.leaf.back in
    let lt : c.in-Some.next < length out' = omega (arith, next.upto, c.if-next-out.false, count, same, marks_count) in
    let backs = backs_at c.newest_is_greatest.ensures.greatest c.backs_step.ensures p at i xs inv.has in
    let L : ℕ → Type 0 = λ j. IsLedTo s i j in
    let A : ℕ → Type 0 = λ j. AreIn page (page_in s j i) begin (length out') new in
    let C : ℕ → Type 0 = λ n. AreIn page older begin n new in
    record {
      within = lt;
      wanted = next.wanted (omega (arith, lt, count, same, marks_count));
      before = λ x less. no_longer (own_start s at i) (own_len s at i) begin x c.loop-next.first c.in-Some.next old new taken (omega (arith, less, lt, count, same)) inv.before next.none less;
      has = back_has g place.Else-next-out some;
      led = subst L (sym back) (Back at inv.led some);
      leaf = c.leaf-parts.ensures.leaf;
      ahead = omega (arith, inv.ahead, backs.1 some, ap (λ j. backs_of p xs j i) back, c.leaf-parts.ensures.step);
      there = λ all. there_after (own_start s at i) (own_len s at i) (page_in s at i) older (IsOpen s at i) of.tells.rest begin page old
          new out out' count same (inv.there all) inv.from (c.in-Some.ensures.overlaid (inv.truth all) refl) taken;
      from = subst A (sym back) (subst C (sym count) (in_after (own_start s at i) (own_len s at i) (page_in s at i) older (IsOpen s at i)
          of.tells.rest begin page old new (length out) (omega (arith, same)) inv.from taken));
      kept = kept_twice _ _ _ _ _ _ inv.kept c.fill_wanted.ensures.kept;
      count = c.fill_wanted.ensures.count ∙ inv.count;
      truth = λ all. c.fill_wanted.ensures.truth_stays (inv.truth all);
    }
