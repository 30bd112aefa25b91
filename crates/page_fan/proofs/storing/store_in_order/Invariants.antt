use Rattle.std.proofs.Common.{◌≡◌, ℕ, ◌-◌, ◌*◌, ◌^◌, ◌<◌, ◌≤◌, length, map, take}
use Rattle.std.specs.Prelude.{All}
use Rattle.page_store.specs.Stored.{IsCut}
use Rattle.page_fan.specs.Counts.{NoneFell}
use Rattle.page_fan.specs.Listed.{puts_from}
use Rattle.page_fan.specs.Stands.{EachPut}
use Rattle.page_fan.proofs.Kept.{AreKept}
use Rattle.page_fan.proofs.storing.store_in_order.Given as goal

abbrev pub invariant-loop-at : goal.invariant-loop-at
invariant-loop-at g l =
    let counts = map (λ s. g.D.Door.faults s.door) in
    record {
      few : length l.placements < 2 ^ 32;
      enough : length l.buffer ≤ length l.placements * l.p;
      room : length l.placements ≤ l.pages.room;
      size : l.pages.page_size ≡ l.p;
      cut : IsCut l.p l.pages.pages;
      position : l.at ≡ l.i * l.p;
      within : (k : ℕ) → k < l.i → k * l.p < length l.buffer;
      pages : AreKept l.houses l.p l.buffer l.placements (counts l.fn.stands) (counts l.stands) l.i l.pages.pages;
      put : EachPut g.D.Door.called (puts_from l.p 0 (take l.i l.placements)) l.fn.stands l.stands;
      kept : NoneFell (counts l.fn.stands) (counts l.stands);
      truth : All (λ s. g.D.Door.is_true s.door) l.fn.stands → All (λ s. g.D.Door.is_true s.door) l.stands;
      count : length l.stands ≡ length l.fn.stands;
    }

abbrev pub decreases-loop-at : goal.decreases-loop-at
decreases-loop-at g l = length l.buffer - l.at
