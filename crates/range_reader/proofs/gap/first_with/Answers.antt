use Rattle.std.proofs.Common.{◌≡◌, ℕ, arith, refl, ap, sym, subst, true, false}
use Rattle.tree_geom.specs.Geometry.{page_range}
use Rattle.range_log.specs.Rows.{back_of}
use Rattle.range_log.specs.Visits.{backs_of}
use Rattle.snapshot.specs.Versions.{HasNodeFor}
use Rattle.range_reader.specs.Filling.{AreAlike}
use Rattle.range_reader.specs.Faults.{IsLedTo, Back}
use Rattle.range_reader.specs.Holders.{IsReached, Older}
use Rattle.range_reader.specs.Reading.{falls, page_in}
use Rattle.range_reader.proofs.Along.{backs_at}
use Rattle.range_reader.proofs.Leaves.{leaf_of_version}
use Rattle.range_reader.proofs.Holding.{Passed, passed}
use Rattle.range_reader.proofs.gap.first_with.Given.{Over}
use Rattle.range_reader.proofs.gap.first_with.Goals.{Else-meets}
use Rattle.range_reader.proofs.gap.first_with.Goals as goal

pub loop-gap-init : goal.loop-gap-init
loop-gap-init g c = record {
  upto = omega arith;
  has = c.requires.has;
  reached = λ b from to reached. reached;
  led = λ led. led;
  alike = record { same = λ b from to. refl; valid = c.requires.valid };
  ahead = omega arith;
}

pub returns-then-meets-clause-met : goal.returns-then-meets-clause-met
returns-then-meets-clause-met g c =
    let met = c.meets.ensures.0 c.if-meets.true in
    (met.0, omega (arith, met.1, c.requires.some))

pub returns-then-meets-clause-steps : goal.returns-then-meets-clause-steps
returns-then-meets-clause-steps g c = omega (arith, c.loop-gap.invariant.ahead, c.leaf-parts.ensures.step)

-- the leaf has none of the gap's bytes
past : (g : Over) (c : Else-meets g) → Passed c.args.view.now c.loop-gap.version c.args.page c.args.gap.low c.args.gap.high
past g c =
    let s = c.args.view.now in
    let at = c.loop-gap.version in
    let inv = c.loop-gap.invariant in
    let f = c.leaves_fill.ensures in
    let stay = c.page_bytes_stay.ensures in
    let of = leaf_of_version f.fill f.fit f.pieces c.folds_are.ensures.folds stay.bytes stay.extents s c.stands.ensures at c.args.page inv.has in
    passed c.no_holes.ensures.backs c.links_name_nodes.ensures.backs stay.extents s c.stands.ensures at c.args.page c.args.gap.low c.args.gap.high c.leaf-parts.result c.leaf-parts.ensures.leaf
    inv.has of c.requires.some inv.alike.valid
    (λ met.
    let yes' : c.meets.result ≡ true = c.meets.ensures.1 (met.0, omega (arith, met.1, c.requires.some)) in
    let no : c.meets.result ≡ false = c.if-meets.false in
    cc)

pub loop-gap-smaller : goal.loop-gap-smaller
loop-gap-smaller g c =
    let to = past g (goal.at.loop-gap-smaller g c).Else-meets in
    omega (arith, c.leaf-parts.ensures.leaf.back, to.next.less)

pub loop-gap-preserved : goal.loop-gap-preserved
loop-gap-preserved g c =
    let s = c.args.view.now in
    let p = s.page_size in
    let xs = falls s in
    let i = c.args.page in
    let at = c.loop-gap.version in
    let inv = c.loop-gap.invariant in
    let to = past g (goal.at.loop-gap-preserved g c).Else-meets in
    let back : c.leaf-parts.result.back ≡ back_of p xs at i = c.leaf-parts.ensures.leaf.back in
    let backs = backs_at c.newest_is_greatest.ensures.greatest c.backs_step.ensures p at i xs inv.has in
    let N : ℕ → Type 0 = λ j. HasNodeFor s j (page_range p i) in
    let L : ℕ → Type 0 = λ j. IsLedTo s i j in
    let A : ℕ → Type 0 = λ j. AreAlike (page_in s c.args.from i) (page_in s j i) c.args.gap.low c.args.gap.high in
    record {
      upto = omega (arith, inv.upto, back, to.next.less);
      has = subst N (sym back) to.next.stands;
      reached = λ b from upto reached.
          let R : ℕ → Type 0 = λ j. IsReached s i b j in
          subst R (sym back) (Older at (inv.reached b from upto reached) (to.lacks b from upto) to.next.some);
      led = λ led. subst L (sym back) (Back at (inv.led led) to.next.some);
      alike = subst A (sym back) (to.alike (page_in s c.args.from i) inv.alike);
      ahead = omega (arith, inv.ahead, backs.1 to.next.some, ap (λ j. backs_of p xs j i) back, c.leaf-parts.ensures.step);
    }
