use Rattle.std.proofs.Common.{◌≡◌, ℕ, ◌-◌, ◌*◌, ◌^◌, ◌<◌, ◌≤◌, List, length, map, take, drop, []}
use Rattle.std.specs.Prelude.{All, None, slice_index_or, vec_capacity}
use Rattle.page_fan.specs.Answer.{page_of, IsPageAnswer}
use Rattle.page_fan.specs.Counts.{NoneFell}
use Rattle.page_fan.specs.Listed.{HasPages, puts_from}
use Rattle.page_fan.specs.Stands.{EachOwed}
use Rattle.page_fan.specs.declared.stand.Stand.{Stand}
use Rattle.page_fan.specs.Groups.{AllReplied}
use Rattle.page_fan.proofs.joining.join_pages.Given as goal

abbrev pub ghost-join_page : goal.ghost-join_page
ghost-join_page g a = g.before

abbrev pub invariant-loop-at : goal.invariant-loop-at
invariant-loop-at g l =
    let counts = map (λ s. g.D.Door.faults s.door) in
    record {
      few : length l.placements < 2 ^ 32;
      enough : length l.buffer ≤ length l.placements * l.p;
      room : length l.placements ≤ vec_capacity l.answer;
      counted : length l.answer.items ≡ l.i;
      position : l.at ≡ l.i * l.page_size;
      within : (k : ℕ) → k < l.i → k * l.page_size < length l.buffer;
      each : (k : ℕ) → k < length l.answer.items → IsPageAnswer l.houses (page_of l.page_size l.buffer k) (slice_index_or l.placements k []) g.before (counts l.stands) (slice_index_or l.answer.items k None);
      replies : AllReplied l.houses l.p l.buffer g.before (counts l.stands) (map (λ s. s.tray.items) l.stands);
      owed : (pages : ℕ) (first : List (Stand g.row.D.Denot)) → HasPages l.p (length l.buffer) pages → EachOwed g.D.Door.called [] (puts_from l.p 0 (take pages l.placements)) first l.fn.stands
          → EachOwed g.D.Door.called (puts_from l.p 0 (take l.i (take pages l.placements))) (puts_from l.p l.i (drop l.i (take pages l.placements))) first l.stands;
      kept : NoneFell (counts l.fn.stands) (counts l.stands);
      truth : All (λ s. g.D.Door.is_true s.door) l.fn.stands → All (λ s. g.D.Door.is_true s.door) l.stands;
      count : length l.stands ≡ length l.fn.stands;
    }

abbrev pub decreases-loop-at : goal.decreases-loop-at
decreases-loop-at g l = length l.buffer - l.at
