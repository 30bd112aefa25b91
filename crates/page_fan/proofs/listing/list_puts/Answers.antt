use Rattle.std.proofs.Common.{◌≡◌, ℕ, ◌*◌, ◌<◌, ◌++◌, arith, length, [], ap, sym, ◌∙◌}
use borrow.Author.Count.{below_more}
use Rattle.replica_place.specs.Chosen.{chosen}
use Rattle.page_fan.specs.Listed.{HasPages, puts_at}
use Rattle.page_fan.proofs.ListedPuts.{puts_from_next, one_cut}
use Rattle.page_fan.proofs.Joined.{index_within}
use Rattle.page_fan.proofs.listing.list_puts.Goals as goal

pub overflow_add-i : goal.overflow_add-i
overflow_add-i c =
    let m = length c.args.placements.now in
    let position = rw c.bytes-page_size.ensures.is at c.loop-at.invariant.position in
    let begun : c.loop-at.i * c.args.p < m * c.args.p = omega (arith, position, c.loop-at-test.true, c.requires) in
    let below = index_within c.args.p c.loop-at.i m begun in
    omega (arith, below, c.count.ensures)

pub loop-at-preserved : goal.loop-at-preserved
loop-at-preserved c =
    let placements = c.args.placements.now in
    let m = length placements in
    let i = c.loop-at.i in
    let position = rw c.bytes-page_size.ensures.is at c.loop-at.invariant.position in
    let begun : i * c.args.p < m * c.args.p = omega (arith, position, c.loop-at-test.true, c.requires) in
    let below = index_within c.args.p i m begun in
    let listed = c.loop-at.invariant.listed in
    let next = puts_from_next c.args.p placements i c.loop-at.at (chosen c.of.result.now) below (sym c.of.ensures) position in
    record {
      listed = c.in_ok-list_page.ensures.listed ∙ (ap (λ xs. xs ++ puts_at c.loop-at.at (chosen c.of.result.now)) listed ∙ sym next);
      within = below_more (λ (k : ℕ). k * c.args.p < length c.args.buffer.now) i c.loop-at.invariant.within (rw position at c.loop-at-test.true);
      position = omega (arith, c.loop-at.invariant.position);
      can_be_put = λ providers served. c.list_page.ensures.can_be_put providers c.args.buffer.now c.loop-at-test.true (rw (← c.of.ensures) at (served i [] below)) (c.loop-at.invariant.can_be_put providers served);
    }

pub returns-clause-listed : goal.returns-clause-listed
returns-clause-listed c = λ pages cut.
    let i = c.loop-at.i in
    let position = rw c.bytes-page_size.ensures.is at c.loop-at.invariant.position in
    let mine : HasPages c.args.p (length c.args.buffer.now) i = record { whole = omega (arith, position, c.loop-at-test.false); within = c.loop-at.invariant.within } in
    let same : pages ≡ i = omega (arith, one_cut c.args.p _ i pages mine cut, one_cut c.args.p _ pages i cut mine) in
    rw same c.loop-at.invariant.listed
