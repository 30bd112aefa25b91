use Rattle.std.proofs.Common.{ℕ, List, ◌≡◌, ◌≤◌, arith, refl, length, length-take, map, take, drop, get_or, ◌∙◌}
use Rattle.std.proofs.lemmas.List.{take_all}
use Rattle.replica_place.specs.Chosen.{chosen}
use Rattle.page_store.specs.Calls.{uncalled}
use Rattle.page_fan.specs.declared.stand.Stand.{Stand}
use Rattle.page_fan.proofs.Answering.{answer_at_end}
use Rattle.page_fan.proofs.InTurn.{put_next}
use Rattle.page_fan.proofs.StoredSoFar.{kept_more, kept_longer, same_bytes, spots_more}
use Rattle.page_fan.proofs.Rises.{none_fell_since, risen_since}
use Rattle.page_fan.proofs.Standing.{stands_at_next, stands_without_next}
use Rattle.page_fan.proofs.putting.put_page.Goals as goal
use Rattle.page_fan.proofs.putting.put_page.Goals.{in-Stored+in_ok-add_replica-in-Stored, in-Failed}

pub loop-i-preserved : goal.loop-i-preserved
loop-i-preserved g c =
    let counts : List (Stand g.row.D.Denot) → List ℕ = map (λ s. g.D.Door.faults s.door) in
    let houses = c.args.houses.now in
    let content = take c.args.p (drop c.args.at c.args.buffer.now) in
    let cut : c.page_bytes-bytes.result.now ≡ content = rw c.bytes.ensures.is at c.page_bytes-bytes.ensures.bytes in
    let before = counts c.args.stands.now in
    let mid = counts c.loop-i.stands in
    let now = counts c.put_at.new.stands in
    let providers = chosen c.args.placement.now in
    let index = c.loop-i.i in
    let i = c.loop-i.invariant in
    let a = c.put_at.ensures in
    let put = put_next g.D.Door.called c.args.at providers index c.args.stands.now c.loop-i.stands c.put_at.new.stands c.loop-i-test.true c.put_at.auto.stands i.put (a.put_once c.args.at) in
    elim c.match-put_at.branch [
      | in-Stored+in_ok-add_replica-in-Stored w ↦
          let added = w.in_ok-add_replica-in-Stored.ensures.added in
          let page = rw cut at w.in-Stored.ensures.answer in
          record {
            stored = rw (w.stored-is, added) (kept_more houses content index c.loop-i.stored w.in-Stored.page i.stored page.here page.bytes);
            replicas = rw (w.stored-is, added) (stands_at_next before mid now providers index _ _ w.in-Stored.page.spot a.none_fell c.loop-i-test.true page.there (spots_more c.loop-i.stored w.in-Stored.page) i.replicas);
            put = put;
            kept = none_fell_since before mid now i.kept a.none_fell;
            truth = λ t. a.truth_stays (i.truth t);
            count = c.put_at.auto.stands ∙ i.count;
          }
      | in-Failed w ↦
          let rose = risen_since before mid now i.kept (get_or providers index 0) w.in-Failed.ensures.answer.failed in
          record {
            stored = rw w.stored-is (kept_longer houses content index c.loop-i.stored i.stored);
            replicas = rw w.stored-is (stands_without_next before mid now providers index _ a.none_fell c.loop-i-test.true rose i.replicas);
            put = put;
            kept = none_fell_since before mid now i.kept a.none_fell;
            truth = λ t. a.truth_stays (i.truth t);
            count = c.put_at.auto.stands ∙ i.count;
          }
    ]

pub loop-i-init : goal.loop-i-init
loop-i-init g c = record {
  stored = tt;
  replicas = refl;
  put = λ k d l. uncalled;
  kept = record { same = refl; rises = λ i. omega arith };
  truth = λ t. t;
  count = refl;
}

pub add_replica-requires-clause-same : goal.add_replica-requires-clause-same
add_replica-requires-clause-same g c =
    let content = take c.args.p (drop c.args.at c.args.buffer.now) in
    let cut : c.page_bytes-bytes.result.now ≡ content = rw c.bytes.ensures.is at c.page_bytes-bytes.ensures.bytes in
    let page = rw cut at c.in-Stored.ensures.answer in
    same_bytes c.args.houses.now content c.loop-i.i c.loop-i.stored c.in-Stored.page c.loop-i.invariant.stored page.bytes

pub returns-clause-answered : goal.returns-clause-answered
returns-clause-answered g c =
    let counts : List (Stand g.row.D.Denot) → List ℕ = map (λ s. g.D.Door.faults s.door) in
    let content = take c.args.p (drop c.args.at c.args.buffer.now) in
    let providers = chosen c.args.placement.now in
    let some : 1 ≤ length providers = omega (arith, length-take c.args.placement.now.count c.args.placement.now.providers) in
    let i = c.loop-i.invariant in
    answer_at_end c.args.houses.now content providers (counts c.args.stands.now) (counts c.loop-i.stands) c.loop-i.i c.loop-i.stored c.loop-i-test.false some i.stored i.replicas

pub returns-clause-put_once : goal.returns-clause-put_once
returns-clause-put_once g c = rw (take_all c.loop-i.i (chosen c.args.placement.now) c.loop-i-test.false) at c.loop-i.invariant.put
