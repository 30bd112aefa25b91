use Rattle.std.proofs.Common.{◌≡◌, ℕ, ◌<◌, length, map, take}
use Rattle.std.specs.Prelude.{slice_index_or}
use Rattle.page_store.specs.Page.{Spot}
use Rattle.page_fan.specs.Counts.{NoneFell, RoseAt, OthersStay}
use Rattle.page_fan.specs.Used.{StayTrue, CalledFor}
use Rattle.page_fan.proofs.fetching.fetch.Given as goal

abbrev pub invariant-loop-i : goal.invariant-loop-i
invariant-loop-i g l =
    let counts = map g.D.Door.faults in
    record {
      rose : (k : ℕ) (d : Spot) → k < l.i → RoseAt (counts l.fn.doors) (counts l.doors) (slice_index_or l.page.spots k d).provider;
      kept : NoneFell (counts l.fn.doors) (counts l.doors);
      others : OthersStay (take l.i l.page.spots) (counts l.fn.doors) (counts l.doors);
      calls : CalledFor g.D.Door.called (take l.i l.page.spots) l.fn.doors l.doors;
      stay_true : StayTrue g.D.Door.is_true l.fn.doors l.doors;
      count : length l.doors ≡ length l.fn.doors;
    }
