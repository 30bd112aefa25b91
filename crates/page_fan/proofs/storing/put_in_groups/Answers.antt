use Rattle.std.proofs.Common.{◌≡◌, ◌<◌, ◌≤◌, ℕ, List, arith, length, map, take, rules, ◌∙◌}
use Rattle.std.specs.Prelude.{All}
use Rattle.page_store.specs.House.{IsProvider}
use Rattle.page_fan.specs.Groups.{AllReplied}
use Rattle.page_fan.specs.declared.stand.PutReply.{PutReply}
use Rattle.page_fan.specs.declared.stand.Stand.{Stand}
use Rattle.page_fan.proofs.Rises.{none_fell_since, none_falls_each}
use Rattle.page_fan.specs.Listed.{puts_from}
use Rattle.page_fan.proofs.Owing.{owed_at_first}
use Rattle.page_fan.proofs.Trays.{groups_have}
use Rattle.page_fan.proofs.storing.put_in_groups.Goals as goal

pub put_groups-requires-clause-puts : goal.put_groups-requires-clause-puts
put_groups-requires-clause-puts g c =
    let housed : length c.args.stands.now ≤ length c.args.houses.now = search rules in
    let served : All (All (IsProvider (length c.args.stands.now))) c.args.placements.now = search rules in
    rw c.as_slice.ensures.value (c.in_ok-puts.ensures.can_be_put (length c.args.houses.now) (λ k d l j e m. let s = served k d l j e m in (s.0, omega (arith, s.1, housed))))

pub join_pages-requires : goal.join_pages-requires
join_pages-requires g c =
    let faults : Stand g.row.D.Denot → ℕ = λ s. g.D.Door.faults s.door in
    let tray : Stand g.row.D.Denot → List PutReply = λ s. s.tray.items in
    let new = c.put_groups.new.stands in
    let before : g.before ≡ map faults c.args.stands.now = search rules in
    let same : length new ≡ length c.args.stands.now = c.put_groups.auto.stands in
    let replies : AllReplied c.args.houses.now c.args.p c.args.buffer.now g.before (map faults new) (map tray new) =
    rw before (groups_have faults tray c.args.houses.now c.args.p c.args.buffer.now c.args.stands.now new same c.put_groups.ensures.replies) in
    search rules

pub returns-clause-none_fell : goal.returns-clause-none_fell
returns-clause-none_fell g c =
    let faults : Stand g.row.D.Denot → ℕ = λ s. g.D.Door.faults s.door in
    let was = c.args.stands.now in
    let mid = c.put_groups.new.stands in
    none_fell_since (map faults was) (map faults mid) (map faults c.join_pages.new.stands) (none_falls_each faults was mid c.put_groups.auto.stands (λ k d l. (c.put_groups.ensures.replies k d l).kept)) c.join_pages.ensures.none_fell

pub returns-clause-truth_stays : goal.returns-clause-truth_stays
returns-clause-truth_stays g c = λ t.
    let same : length c.put_groups.new.stands ≡ length c.args.stands.now = c.put_groups.auto.stands in
    c.join_pages.ensures.truth_stays (λ k d l. let within : k < length c.args.stands.now = omega (arith, l, same) in (c.put_groups.ensures.truth_stays k d within).0 (t k d within))

pub returns-clause-put_once : goal.returns-clause-put_once
returns-clause-put_once g c = λ pages cut.
    let was = c.args.stands.now in
    let mid = c.put_groups.new.stands in
    let listed = c.as_slice.ensures.value ∙ c.in_ok-puts.ensures.listed pages cut in
    let puts = puts_from c.args.p 0 (take pages c.args.placements.now) in
    c.join_pages.ensures.put_once pages was cut (owed_at_first g.D.Door.called puts was mid c.put_groups.auto.stands (rw listed at c.put_groups.ensures.each) c.put_groups.ensures.called)
