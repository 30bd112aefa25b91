use Rattle.std.proofs.Common.{rules, ◌≡◌, ℕ, List, ◌+◌, ◌*◌, ◌<◌, ◌≤◌, arith, refl, length, map, get_or, [], sym, ◌∙◌}
use borrow.Author.Count.{below_more}
use Rattle.replica_place.specs.Chosen.{chosen as chosen_of}
use Rattle.page_store.specs.Calls.{uncalled}
use Rattle.page_fan.specs.Answer.{IsPageAnswer, page_of}
use Rattle.page_fan.specs.Listed.{HasPages}
use Rattle.page_fan.specs.declared.stand.Stand.{Stand}
use Rattle.page_fan.proofs.Answering.{answer_since}
use Rattle.page_fan.proofs.Failing.{all_stored, first_failed}
use Rattle.page_fan.proofs.Joined.{full_before, index_within}
use Rattle.page_fan.proofs.Kept.{begun, kept_next, none_kept, page_fits}
use Rattle.page_fan.proofs.ListedPuts.{one_cut}
use Rattle.page_fan.proofs.InTurn.{put_page}
use Rattle.page_fan.proofs.Rises.{none_fell_since}
use Rattle.page_fan.proofs.storing.store_in_order.Goals as goal

pub loop-at-init : goal.loop-at-init
loop-at-init g c =
    let made = begun c.in-Ok.pages c.bytes.result c.count.result c.in-Ok.ensures in
    record {
      few = omega (arith, c.count.ensures);
      enough = c.requires.enough;
      room = omega (arith, made.1, c.count.ensures);
      size = made.0 ∙ c.bytes.ensures.is;
      cut = rw made.2 tt;
      position = omega arith;
      within = λ k l. absurd (omega (arith, l));
      pages = rw made.2 (none_kept c.args.houses.now c.args.p c.args.buffer.now c.args.placements.now _ _);
      put = λ k d l. uncalled;
      kept = record { same = refl; rises = λ i. omega arith };
      truth = λ t. t;
      count = refl;
    }

pub keep-requires-clause-room : goal.keep-requires-clause-room
keep-requires-clause-room g c = λ all.
    let i = c.loop-at.invariant in
    let m = length c.args.placements.now in
    let begun : c.loop-at.i * c.args.p < m * c.args.p = omega (arith, i.position, c.loop-at-test.true, i.enough) in
    omega (arith, index_within c.args.p c.loop-at.i m begun, i.room)

pub keep-requires-clause-full : goal.keep-requires-clause-full
keep-requires-clause-full g c = λ all.
    let i = c.loop-at.invariant in
    let within = below_more (λ (k : ℕ). k * c.args.p < length c.args.buffer.now) c.loop-at.i i.within (rw i.position at c.loop-at-test.true) in
    rw i.size (full_before c.args.p c.args.buffer.now c.loop-at.pages.pages (λ k d l. (i.pages.each k d l).bytes) (λ k l. within (k + 1) (omega (arith, l, all))))

pub keep-requires-clause-fits : goal.keep-requires-clause-fits
keep-requires-clause-fits g c =
    let i = c.loop-at.invariant in
    let some : 1 ≤ c.args.p = omega (arith, c.bytes.ensures.is, c.bytes.ensures.bounds.0) in
    rw i.size (page_fits c.args.houses.now c.args.p c.args.buffer.now c.loop-at.at _ _ _ c.in-Ok-put_page.page some c.loop-at-test.true c.in-Ok-put_page.ensures.answered)

pub loop-at-preserved : goal.loop-at-preserved
loop-at-preserved g c =
    let counts : List (Stand g.row.D.Denot) → List ℕ = map (λ s. g.D.Door.faults s.door) in
    let before = counts c.args.stands.now in
    let mid = counts c.loop-at.stands in
    let now = counts c.put_page.new.stands in
    let i = c.loop-at.invariant in
    let p = c.put_page.ensures in
    let k = c.keep.ensures in
    let n = c.loop-at.i in
    let houses = c.args.houses.now in
    let buffer = c.args.buffer.now in
    let placements = c.args.placements.now in
    let size = c.bytes-page_size.ensures.is in
    let begun : n * c.args.p < length placements * c.args.p = omega (arith, i.position, c.loop-at-test.true, i.enough) in
    let below = index_within c.args.p n (length placements) begun in
    let here : IsPageAnswer houses (page_of c.args.p buffer n) (get_or placements n []) mid now c.in-Ok-put_page.page = rw (← i.position, ← c.of-placement.ensures) c.in-Ok-put_page.ensures.answered in
    let answer = answer_since houses (page_of c.args.p buffer n) (get_or placements n []) before mid now c.in-Ok-put_page.page i.kept here in
    record {
      few = i.few;
      enough = i.enough;
      room = rw k.room i.room;
      size = k.page_size ∙ i.size;
      cut = rw (k.page_size, i.size) at (k.cut (rw i.size i.cut));
      position = omega (arith, i.position, size);
      within = below_more (λ (j : ℕ). j * c.args.p < length buffer) n i.within (rw i.position at c.loop-at-test.true);
      pages = rw k.pages (kept_next houses c.args.p buffer placements before mid now n c.loop-at.pages.pages c.in-Ok-put_page.page p.none_fell i.pages answer);
      put = put_page g.D.Door.called c.args.p placements n c.loop-at.at (chosen_of c.of-placement.result.now) c.args.stands.now c.loop-at.stands c.put_page.new.stands below (sym c.of-placement.ensures) i.position c.put_page.auto.stands i.put c.in-Ok-put_page.ensures.put_once;
      kept = none_fell_since before mid now i.kept p.none_fell;
      truth = λ t. p.truth_stays (i.truth t);
      count = c.put_page.auto.stands ∙ i.count;
    }

pub overflow_add-i : goal.overflow_add-i
overflow_add-i g c =
    let m = length c.args.placements.now in
    let i = c.loop-at.invariant in
    let begun : c.loop-at.i * c.args.p < m * c.args.p = omega (arith, i.position, c.loop-at-test.true, i.enough) in
    omega (arith, index_within c.args.p c.loop-at.i m begun, i.few)

pub returns-clause-stored : goal.returns-clause-stored
returns-clause-stored g c =
    let counts : List (Stand g.row.D.Denot) → List ℕ = map (λ s. g.D.Door.faults s.door) in
    let i = c.loop-at.invariant in
    let pages = c.loop-at.pages in
    let all : length pages.pages ≡ c.loop-at.i = omega (arith, i.pages.few, c.count-stored.ensures.count, c.if-stored-i.false) in
    let whole : length c.args.buffer.now ≤ length pages.pages * c.args.p = rw all (omega (arith, i.position, c.loop-at-test.false)) in
    all_stored c.args.houses.now c.args.p c.args.buffer.now c.args.placements.now (counts c.args.stands.now) (counts c.loop-at.stands) pages i.size i.cut i.pages.each whole

pub returns-then-stored-i-clause-first_failed : goal.returns-then-stored-i-clause-first_failed
returns-then-stored-i-clause-first_failed g c =
    let counts : List (Stand g.row.D.Denot) → List ℕ = map (λ s. g.D.Door.faults s.door) in
    let i = c.loop-at.invariant in
    let pages = c.loop-at.pages in
    let less : length pages.pages < c.loop-at.i = omega (arith, c.count-stored.ensures.count, c.if-stored-i.true) in
    first_failed c.args.houses.now c.args.p c.args.buffer.now c.args.placements.now (counts c.args.stands.now) (counts c.loop-at.stands) _ pages (search rules) i.size i.pages.each
    (λ k l. i.within k (omega (arith, l, less))) (i.pages.lost less)

pub returns-clause-put_once : goal.returns-clause-put_once
returns-clause-put_once g c = λ pages cut.
    let i = c.loop-at.invariant in
    let mine : HasPages c.args.p (length c.args.buffer.now) c.loop-at.i = record { whole = omega (arith, i.position, c.loop-at-test.false); within = i.within } in
    let same : pages ≡ c.loop-at.i = omega (arith, one_cut c.args.p _ c.loop-at.i pages mine cut, one_cut c.args.p _ pages c.loop-at.i cut mine) in
    rw same i.put

pub returns-then-stored-i-clause-put_once : goal.returns-then-stored-i-clause-put_once
returns-then-stored-i-clause-put_once g c = λ pages cut.
    let i = c.loop-at.invariant in
    let mine : HasPages c.args.p (length c.args.buffer.now) c.loop-at.i = record { whole = omega (arith, i.position, c.loop-at-test.false); within = i.within } in
    let same : pages ≡ c.loop-at.i = omega (arith, one_cut c.args.p _ c.loop-at.i pages mine cut, one_cut c.args.p _ pages c.loop-at.i cut mine) in
    rw same i.put
