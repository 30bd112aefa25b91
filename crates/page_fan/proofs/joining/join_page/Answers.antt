use Rattle.std.proofs.Common.{ℕ, List, ◌≤◌, arith, length, length-take, map, take, drop, ◌∙◌}
use Rattle.replica_place.specs.Chosen.{chosen}
use Rattle.page_fan.specs.declared.stand.Stand.{Stand}
use Rattle.std.proofs.lemmas.List.{length-map, take_all, drop_all}
use Rattle.page_fan.specs.declared.stand.Put.{Put}
use Rattle.page_fan.specs.Listed.{puts_at}
use Rattle.page_fan.proofs.Owing.{owed_step}
use Rattle.page_fan.proofs.Answering.{answer_at_end}
use Rattle.page_fan.proofs.StoredSoFar.{kept_more, kept_longer, same_bytes, spots_more}
use Rattle.page_fan.proofs.Rises.{none_fell_since}
use Rattle.page_fan.proofs.Standing.{stands_at_next, stands_without_next}
use Rattle.page_fan.proofs.joining.join_page.Goals as goal
use Rattle.page_fan.proofs.joining.join_page.Goals.{in-Stored+in_ok-add_replica-in-Stored, in-Failed}

pub loop-i-preserved : goal.loop-i-preserved
loop-i-preserved g c =
    let counts : List (Stand g.row.D.Denot) → List ℕ = map (λ s. g.D.Door.faults s.door) in
    let content = take c.args.p (drop c.args.at c.args.buffer.now) in
    let mid = counts c.loop-i.stands in
    let now = counts c.answer_at.new.stands in
    let index = c.loop-i.i in
    let i = c.loop-i.invariant in
    let a = c.answer_at.ensures in
    elim c.match-answer_at.branch [
      | in-Stored+in_ok-add_replica-in-Stored w ↦
          let added = w.in_ok-add_replica-in-Stored.ensures.added in
          let page = w.in-Stored.ensures.answer g.before i.replies in
          record {
            stored = rw (w.stored-is, added) (kept_more c.args.houses.now content index c.loop-i.stored w.in-Stored.page i.stored page.here page.bytes);
            replicas = rw (w.stored-is, added) (stands_at_next g.before mid now (chosen c.args.placement.now) index _ _ w.in-Stored.page.spot a.none_fell c.loop-i-test.true page.there (spots_more c.loop-i.stored w.in-Stored.page) i.replicas);
            replies = a.replies g.before i.replies;
            owed = λ done rest first h. owed_step g.D.Door.called c.args.at (chosen c.args.placement.now) index done rest first c.loop-i.stands c.answer_at.new.stands c.loop-i-test.true (λ d r o. a.owed d r first o) (i.owed done rest first h);
            kept = none_fell_since (counts c.args.stands.now) mid now i.kept a.none_fell;
            truth = λ t. a.truth_stays (i.truth t);
            count = c.answer_at.auto.stands ∙ i.count;
          }
      | in-Failed w ↦
          let gone = w.in-Failed.ensures.answer g.before i.replies in
          record {
            stored = rw w.stored-is (kept_longer c.args.houses.now content index c.loop-i.stored i.stored);
            replicas = rw w.stored-is (stands_without_next g.before mid now (chosen c.args.placement.now) index _ a.none_fell c.loop-i-test.true gone.failed i.replicas);
            replies = a.replies g.before i.replies;
            owed = λ done rest first h. owed_step g.D.Door.called c.args.at (chosen c.args.placement.now) index done rest first c.loop-i.stands c.answer_at.new.stands c.loop-i-test.true (λ d r o. a.owed d r first o) (i.owed done rest first h);
            kept = none_fell_since (counts c.args.stands.now) mid now i.kept a.none_fell;
            truth = λ t. a.truth_stays (i.truth t);
            count = c.answer_at.auto.stands ∙ i.count;
          }
    ]

pub returns-clause-answered : goal.returns-clause-answered
returns-clause-answered g c =
    let counts : List (Stand g.row.D.Denot) → List ℕ = map (λ s. g.D.Door.faults s.door) in
    let content = take c.args.p (drop c.args.at c.args.buffer.now) in
    let providers = chosen c.args.placement.now in
    let some : 1 ≤ length providers = omega (arith, length-take c.args.placement.now.count c.args.placement.now.providers) in
    let i = c.loop-i.invariant in
    answer_at_end c.args.houses.now content providers g.before (counts c.loop-i.stands) c.loop-i.i c.loop-i.stored c.loop-i-test.false some i.stored i.replicas

pub add_replica-requires-clause-same : goal.add_replica-requires-clause-same
add_replica-requires-clause-same g c =
    let i = c.loop-i.invariant in
    same_bytes c.args.houses.now (take c.args.p (drop c.args.at c.args.buffer.now)) c.loop-i.i c.loop-i.stored c.in-Stored.page i.stored (c.in-Stored.ensures.answer g.before i.replies).bytes

pub returns-in-NoMemory-clause-replies : goal.returns-in-NoMemory-clause-replies
returns-in-NoMemory-clause-replies g c = c.answer_at.ensures.replies g.before c.loop-i.invariant.replies

pub returns-in_err-add_replica-in-Stored-clause-replies : goal.returns-in_err-add_replica-in-Stored-clause-replies
returns-in_err-add_replica-in-Stored-clause-replies g c = c.answer_at.ensures.replies g.before c.loop-i.invariant.replies

pub returns-clause-owed : goal.returns-clause-owed
returns-clause-owed g c = λ done rest first h.
    let puts = puts_at c.args.at (chosen c.args.placement.now) in
    let over : length puts ≤ c.loop-i.i = omega (arith, c.loop-i-test.false, length-map (chosen c.args.placement.now) (λ (q : ℕ). let put : Put = record { provider = q; at = c.args.at } in put)) in
    rw (take_all c.loop-i.i puts over, drop_all c.loop-i.i puts over) at (c.loop-i.invariant.owed done rest first h)
