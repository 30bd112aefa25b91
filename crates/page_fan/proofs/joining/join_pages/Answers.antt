use Rattle.std.proofs.Common.{◌≤◌, arith, ℕ, List, ◌<◌, ◌*◌, length, length-take, map, take, sym, ◌∙◌, []}
use Rattle.std.specs.Prelude.{None, slice_index_or}
use borrow.Author.Count.{below_more}
use Rattle.page_fan.specs.declared.stand.Stand.{Stand}
use Rattle.page_fan.specs.Answer.{page_of, IsPageAnswer}
use Rattle.page_fan.proofs.Answering.{answer_later, each_more}
use Rattle.std.proofs.lemmas.List.{get_or-take, take_all, drop_all}
use Rattle.replica_place.specs.Chosen.{chosen as chosen_of}
use Rattle.page_fan.specs.Listed.{HasPages, puts_from}
use Rattle.page_fan.proofs.ListedPuts.{one_cut}
use Rattle.page_fan.proofs.Owing.{owed_page, all_put}
use Rattle.page_fan.proofs.Joined.{index_within, few_pages}
use Rattle.page_fan.proofs.Rises.{none_fell_since}
use Rattle.page_fan.proofs.joining.join_pages.Goals as goal

pub loop-at-preserved : goal.loop-at-preserved
loop-at-preserved g c =
    let counts : List (Stand g.row.D.Denot) → List ℕ = map (λ s. g.D.Door.faults s.door) in
    let mid = counts c.loop-at.stands in
    let now = counts c.join_page.new.stands in
    let i = c.loop-at.invariant in
    let p = c.join_page.ensures in
    let size = c.bytes-page_size.result in
    let houses = c.args.houses.now in
    let buffer = c.args.buffer.now in
    let answers = c.loop-at.answer.items in
    let chosen = λ (k : ℕ). slice_index_or c.args.placements.now k [] in
    let one : IsPageAnswer houses (page_of size buffer c.loop-at.i) (chosen c.loop-at.i) g.before now c.in_ok-join_page.field-0 = rw (← i.position, ← c.of-placement.ensures, c.bytes-page_size.ensures.is) c.in_ok-join_page.ensures.answered in
    record {
      few = i.few;
      enough = i.enough;
      room = omega (arith, i.room, c.push_reserved.ensures.capacity);
      counted = omega (arith, i.counted, c.push_reserved.ensures.len, c.loop-at.answer.ok.0);
      position = omega (arith, i.position);
      within = below_more (λ (k : ℕ). k * size < length buffer) c.loop-at.i i.within (rw (← i.position) c.loop-at-test.true);
      each = rw c.push_reserved.ensures.items (each_more (λ k r. IsPageAnswer houses (page_of size buffer k) (chosen k) g.before now r) None answers c.in_ok-join_page.field-0
          (λ k l. answer_later houses (page_of size buffer k) (chosen k) g.before mid now _ p.none_fell (i.each k l)) (rw i.counted one));
      replies = p.replies;
      owed = λ pages first cut h.
          let placements = c.args.placements.now in
          let ps = take pages placements in
          let at = rw c.bytes-page_size.ensures.is at i.position in
          let n = c.loop-at.i in
          let below : n < pages = index_within c.args.p n pages (omega (arith, at, c.loop-at-test.true, cut.whole)) in
          let few : pages ≤ length placements = few_pages c.args.p (length buffer) (length placements) pages cut.within i.enough in
          let within : n < length ps = omega (arith, below, few, length-take pages placements) in
          owed_page g.D.Door.called c.args.p ps n c.loop-at.at (chosen_of c.of-placement.result.now) first c.loop-at.stands c.join_page.new.stands within (get_or-take pages placements n [] below ∙ sym c.of-placement.ensures) at
          (λ d r o. c.in_ok-join_page.ensures.owed d r first o) (i.owed pages first cut h);
      kept = none_fell_since (counts c.args.stands.now) mid now i.kept p.none_fell;
      truth = λ t. p.truth_stays (i.truth t);
      count = c.join_page.auto.stands ∙ i.count;
    }

pub overflow_add-i : goal.overflow_add-i
overflow_add-i g c =
    let m = length c.args.placements.now in
    let i = c.loop-at.invariant in
    let position = rw c.bytes-page_size.ensures.is at i.position in
    let begun : c.loop-at.i * c.args.p < m * c.args.p = omega (arith, position, c.loop-at-test.true, i.enough) in
    let below = index_within c.args.p c.loop-at.i m begun in
    omega (arith, below, i.few)

pub returns-clause-put_once : goal.returns-clause-put_once
returns-clause-put_once g c = λ pages first cut h.
    let i = c.loop-at.invariant in
    let n = c.loop-at.i in
    let ps = take pages c.args.placements.now in
    let size = c.bytes-page_size.ensures.is in
    let at = rw size at i.position in
    let mine : HasPages c.args.p (length c.args.buffer.now) n = record { whole = omega (arith, at, c.loop-at-test.false); within = rw size at i.within } in
    let over : length ps ≤ n = omega (arith, one_cut c.args.p _ pages n cut mine, length-take pages c.args.placements.now) in
    all_put g.D.Door.called (puts_from c.args.p 0 ps) first c.loop-at.stands (rw (take_all n ps over, drop_all n ps over) at (i.owed pages first cut h))
