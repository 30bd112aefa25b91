use Rattle.std.proofs.Common.{rules, refl, ◌≡◌, ℕ, ◌<◌, length, length-take-le, map, sym, ◌∙◌, arith, get_or}
use Rattle.std.proofs.lemmas.List.{get_or-take}
use Rattle.std.proofs.lemmas.Option.{get_or_from_slice_get, slice_get_within}
use borrow.Author.Count.{below_more}
use Rattle.page_store.specs.Calls.{uncalled}
use Rattle.page_store.specs.Page.{Spot}
use Rattle.page_fan.specs.Counts.{RoseAt}
use Rattle.page_fan.proofs.Rises.{none_fell_since, others_next, still_risen, risen_since, sum_never_falls, sum_rises_at}
use Rattle.page_fan.proofs.Using.{called_next, stay_true_since, all_stay_true, true_since}
use Rattle.page_fan.proofs.fetching.fetch.Goals as goal

pub returns-in-Got-clause-sum_never_falls : goal.returns-in-Got-clause-sum_never_falls
returns-in-Got-clause-sum_never_falls g c =
    let counts = map g.D.Door.faults in
    sum_never_falls g.D.Door.faults c.args.doors.now c.get.new.self (none_fell_since (counts c.args.doors.now) (counts c.loop-i.doors) (counts c.get.new.self) c.loop-i.invariant.kept c.get.ensures.none_fell)

pub loop-i-preserved : goal.loop-i-preserved
loop-i-preserved g c =
    let counts = map g.D.Door.faults in
    let before = counts c.args.doors.now in
    let mid = counts c.loop-i.doors in
    let now = counts c.get.new.self in
    let spots = c.args.page.now.spots in
    let i = c.loop-i.invariant in
    let p = c.get.ensures in
    let within : c.loop-i.i < length spots = slice_get_within spots c.loop-i.i c.replica.result.now.spot c.replica.ensures.spot in
    let is : c.replica.result.now.spot ≡ get_or spots c.loop-i.i c.replica.result.now.spot = sym (get_or_from_slice_get spots c.loop-i.i c.replica.result.now.spot c.replica.result.now.spot c.replica.ensures.spot) in
    record {
      rose = λ k d l. below_more (λ (n : ℕ). RoseAt before now (get_or spots n d).provider) c.loop-i.i
          (λ n h. still_risen before mid now p.none_fell (get_or spots n d).provider (i.rose n d h))
          (rw (get_or_from_slice_get spots c.loop-i.i c.replica.result.now.spot d c.replica.ensures.spot) (risen_since before mid now i.kept c.replica.result.now.spot.provider c.in-Failed.ensures.failed))
          k l;
      kept = none_fell_since before mid now i.kept p.none_fell;
      others = others_next spots c.loop-i.i c.replica.result.now.spot before mid now within i.others (rw (← is) p.others);
      calls = called_next g.D.Door.called spots c.loop-i.i c.replica.result.now.spot c.args.doors.now c.loop-i.doors c.get.new.self within i.count i.calls (rw (← is) p.called);
      stay_true = stay_true_since g.D.Door.is_true c.args.doors.now c.loop-i.doors c.get.new.self i.count i.stay_true p.stay_true;
      count = p.count ∙ i.count;
    }

pub returns-clause-sum_never_falls : goal.returns-clause-sum_never_falls
returns-clause-sum_never_falls g c = sum_never_falls g.D.Door.faults c.args.doors.now c.loop-i.doors c.loop-i.invariant.kept

pub returns-clause-counted : goal.returns-clause-counted
returns-clause-counted g c = λ t.
    let spots = c.args.page.now.spots in
    let d : Spot = record { provider = 0; place = 0; shelf = 0; mark = 0 } in
    sum_rises_at g.D.Door.faults c.args.doors.now c.loop-i.doors (get_or spots 0 d).provider c.loop-i.invariant.kept (c.requires.served 0 d (omega arith)) (c.loop-i.invariant.rose 0 d (omega arith))

pub returns-in-Got-clause-in_order : goal.returns-in-Got-clause-in_order
returns-in-Got-clause-in_order g c = λ t.
    let counts = map g.D.Door.faults in
    let before = counts c.args.doors.now in
    let mid = counts c.loop-i.doors in
    let now = counts c.get.new.self in
    let spots = c.args.page.now.spots in
    let at = c.loop-i.i in
    let spot = c.replica.result.now.spot in
    let i = c.loop-i.invariant in
    let within : at < length spots = slice_get_within spots at spot c.replica.ensures.spot in
    let is : spot ≡ get_or spots at spot = sym (get_or_from_slice_get spots at spot spot c.replica.ensures.spot) in
    record {
      tried = at;
      within = within;
      failed = λ k d l.
          let below : k < at = omega (arith, l, length-take-le at spots (omega (arith, within))) in
          rw (get_or-take at spots k d below) (still_risen before mid now c.get.ensures.none_fell (get_or spots k d).provider (i.rose k d below));
      others = others_next spots at spot before mid now within i.others (rw (← is) c.get.ensures.others);
      calls = called_next g.D.Door.called spots at spot c.args.doors.now c.loop-i.doors c.get.new.self within i.count i.calls (rw (← is) c.get.ensures.called);
    }

pub returns-in-Got-clause-got : goal.returns-in-Got-clause-got
returns-in-Got-clause-got g c = λ t there.
    let spots = c.args.page.now.spots in
    let at = c.loop-i.i in
    let spot = c.replica.result.now.spot in
    let within : at < length spots = slice_get_within spots at spot c.replica.ensures.spot in
    let is : get_or spots at spot ≡ spot = get_or_from_slice_get spots at spot spot c.replica.ensures.spot in
    let here = rw is at (there at spot within) in
    let long : length c.loop-i.out ≡ length c.args.out.now = search rules in
    rw (c.replica.ensures.same, long) at (c.in-Got.ensures.got (true_since g.D.Door.is_true c.args.doors.now c.loop-i.doors spot.provider c.loop-i.invariant.count c.loop-i.invariant.stay_true here))

pub returns-in-Got-clause-stay_true : goal.returns-in-Got-clause-stay_true
returns-in-Got-clause-stay_true g c = stay_true_since g.D.Door.is_true c.args.doors.now c.loop-i.doors c.get.new.self c.loop-i.invariant.count c.loop-i.invariant.stay_true c.get.ensures.stay_true

pub returns-in-Got-clause-truth_stays : goal.returns-in-Got-clause-truth_stays
returns-in-Got-clause-truth_stays g c =
    let stay = stay_true_since g.D.Door.is_true c.args.doors.now c.loop-i.doors c.get.new.self c.loop-i.invariant.count c.loop-i.invariant.stay_true c.get.ensures.stay_true in
    all_stay_true g.D.Door.is_true c.args.doors.now c.get.new.self (c.get.ensures.count ∙ c.loop-i.invariant.count) stay

pub returns-clause-truth_stays : goal.returns-clause-truth_stays
returns-clause-truth_stays g c = all_stay_true g.D.Door.is_true c.args.doors.now c.loop-i.doors c.loop-i.invariant.count c.loop-i.invariant.stay_true

pub loop-i-init : goal.loop-i-init
loop-i-init g c = record {
  rose = λ k d l. absurd (omega (arith, l));
  kept = record { same = refl; rises = λ i. omega arith };
  others = λ n away. refl;
  calls = λ k d l. uncalled;
  stay_true = λ k d l h. h;
  count = refl;
}

pub get-requires-clause-here : goal.get-requires-clause-here
get-requires-clause-here g c =
    let spots = c.args.page.now.spots in
    let at = c.loop-i.i in
    let spot = c.replica.result.now.spot in
    let within : at < length spots = slice_get_within spots at spot c.replica.ensures.spot in
    let is : get_or spots at spot ≡ spot = get_or_from_slice_get spots at spot spot c.replica.ensures.spot in
    rw is at (c.requires.here at spot within)

pub get-requires-clause-served : goal.get-requires-clause-served
get-requires-clause-served g c =
    let spots = c.args.page.now.spots in
    let at = c.loop-i.i in
    let spot = c.replica.result.now.spot in
    let within : at < length spots = slice_get_within spots at spot c.replica.ensures.spot in
    let is : get_or spots at spot ≡ spot = get_or_from_slice_get spots at spot spot c.replica.ensures.spot in
    rw c.loop-i.invariant.count (rw is at (c.requires.served at spot within))
