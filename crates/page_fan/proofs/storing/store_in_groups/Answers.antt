use Rattle.std.proofs.Common.{rules, ◌≡◌, ◌≤◌, ℕ, List, arith, length, map, get_or, [], ap, ◌∙◌}
use Rattle.page_fan.specs.Answer.{IsLost}
use Rattle.page_fan.specs.declared.stand.Stand.{Stand}
use Rattle.page_fan.proofs.Failing.{all_stored, first_failed}
use Rattle.page_fan.proofs.Joined.{few_pages, first_few, lengths_of, stored_at}
use Rattle.page_fan.proofs.storing.store_in_groups.Goals as goal

pub gather-requires-clause-room : goal.gather-requires-clause-room
gather-requires-clause-room g c =
    let placements = c.args.placements.now in
    let few : length c.in-Ok-put_in_groups.answer.items ≤ length placements = few_pages c.args.p _ (length placements) _ c.in-Ok-put_in_groups.ensures.answered.within c.requires.enough in
    let room = ap (λ p. p.room) c.in-Ok.ensures in
    omega (arith, few, room, c.count.ensures)

pub gather-requires-clause-lengths : goal.gather-requires-clause-lengths
gather-requires-clause-lengths g c =
    let size = ap (λ p. p.page_size) c.in-Ok.ensures ∙ c.bytes.ensures.is in
    rw size (lengths_of c.args.houses.now c.args.p c.args.buffer.now c.args.placements.now _ _ c.in-Ok-put_in_groups.answer.items (omega (arith, c.bytes.ensures.is, c.bytes.ensures.bounds.0)) c.in-Ok-put_in_groups.ensures.answered)

pub returns-in-Ok-gather-clause-stored : goal.returns-in-Ok-gather-clause-stored
returns-in-Ok-gather-clause-stored g c =
    let counts : List (Stand g.row.D.Denot) → List ℕ = map (λ s. g.D.Door.faults s.door) in
    let before = counts c.args.stands.now in
    let now = counts c.put_in_groups.new.stands in
    let houses = c.args.houses.now in
    let buffer = c.args.buffer.now in
    let placements = c.args.placements.now in
    let size = ap (λ p. p.page_size) c.in-Ok.ensures ∙ c.bytes.ensures.is in
    let pages = c.in-Ok-gather.pages in
    let answer = c.in-Ok-put_in_groups.answer.items in
    let answered = c.in-Ok-put_in_groups.ensures.answered in
    let got = rw size at c.in-Ok-gather.ensures.all in
    let count : length pages.pages ≡ length answer = omega (arith, first_few answer pages.pages (length answer) got.all) in
    all_stored houses c.args.p buffer placements before now pages got.size got.cut
    (stored_at houses c.args.p buffer placements before now answer pages.pages (length answer) answered got.all) (rw count answered.whole)

pub returns-in-Err-clause-first_failed : goal.returns-in-Err-clause-first_failed
returns-in-Err-clause-first_failed g c =
    let counts : List (Stand g.row.D.Denot) → List ℕ = map (λ s. g.D.Door.faults s.door) in
    let before = counts c.args.stands.now in
    let now = counts c.put_in_groups.new.stands in
    let houses = c.args.houses.now in
    let buffer = c.args.buffer.now in
    let placements = c.args.placements.now in
    let size = ap (λ p. p.page_size) c.in-Ok.ensures ∙ c.bytes.ensures.is in
    let pages = c.in-Err.before in
    let n = length pages.pages in
    let answer = c.in-Ok-put_in_groups.answer.items in
    let answered = c.in-Ok-put_in_groups.ensures.answered in
    let lost = c.in-Err.ensures.lost.0 in
    let got = rw size at c.in-Err.ensures.lost.1 in
    let gone : IsLost (get_or placements n []) before now = rw lost.lost at (answered.each n lost.within) in
    first_failed houses c.args.p buffer placements before now _ pages (search rules) got.size
    (stored_at houses c.args.p buffer placements before now answer pages.pages n answered got.all) (λ k l. answered.within k (omega (arith, l, lost.within))) gone
