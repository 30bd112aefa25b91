use Rattle.std.proofs.Common.{◌≡◌, sym, ◌∙◌, ap, ℕ, ◌+◌, ◌-◌, List, ◌++◌, append_assoc, length, take, drop, slice_index_or, arith}
use Rattle.std.proofs.lemmas.Slice.{take-put_mid}
use borrow.Rule.Slice.PartMut.{put_mid}
use Rattle.blob_model.specs.Content.{content}
use Rattle.range_log.specs.Updates.{extents}
use Rattle.range_reader.proofs.Counting.{kept_twice}
use Rattle.range_reader.specs.Ranges.{joined}
use Rattle.range_reader.proofs.JoinedRanges.{range_here, visits_here, one_lost}
use Rattle.range_reader.proofs.ranges.fill_ranges.Goals as goal

pub returns-in-Err-clause-answers : goal.returns-in-Err-clause-answers
returns-in-Err-clause-answers g c =
    let here = range_here c.args.ranges.now c.loop-range.range-index c.loop-range.filled c.loop-range.out c.loop-range-test.true (omega (arith, c.loop-range.auto.out, c.loop-range.invariant.left)) in
    one_lost c.args.source.now.view.now c.args.ranges.now c.loop-range.range-index _ _ _ _ _ _ c.in-Err.fault c.loop-range-test.true c.loop-range.invariant.kept
    (rw here.part at c.in-Err.ensures.answers)

pub returns-in-Err-clause-steps : goal.returns-in-Err-clause-steps
returns-in-Err-clause-steps g c us tell =
    let s = c.args.source.now.view.now in
    let here = range_here c.args.ranges.now c.loop-range.range-index c.loop-range.filled c.loop-range.out c.loop-range-test.true (omega (arith, c.loop-range.auto.out, c.loop-range.invariant.left)) in
    let few = rw here.part at (c.read_into.ensures.steps.few us tell) in
    omega (arith, few, visits_here c.args.ranges.now c.loop-range.range-index s.page_size (length s.rows) (extents us) c.loop-range-test.true, c.loop-range.invariant.steps us tell)

pub returns-in-Err-clause-kept : goal.returns-in-Err-clause-kept
returns-in-Err-clause-kept g c = kept_twice _ _ _ _ _ _ c.loop-range.invariant.kept c.read_into.ensures.kept

pub loop-range-preserved : goal.loop-range-preserved
loop-range-preserved g c =
    let s = c.args.source.now.view.now in
    let ranges = c.args.ranges.now in
    let k = c.loop-range.range-index in
    let filled = c.loop-range.filled in
    let out = c.loop-range.out in
    let inv = c.loop-range.invariant in
    let r : ℕ × ℕ = slice_index_or ranges k (0, 0) in
    let here = range_here ranges k filled out c.loop-range-test.true (omega (arith, c.loop-range.auto.out, inv.left)) in
    record {
      left = omega (arith, inv.left, here.bytes);
      bytes = λ us tell.
          let c' : List ℕ = content us (length s.rows) in
          let ys = c.read_into.new.out in
          let rest : List ℕ = joined c' (drop (k + 1) ranges) in
          let own : ys ≡ take r.1 (drop r.0 c') = c.in-Ok.ensures.bytes us tell ∙ ap (λ (n : ℕ). take n (drop r.0 c')) here.part in
          let long : length ys ≡ r.1 = c.read_into.auto.out ∙ here.part in
          let front : take (filled + r.1) (put_mid filled (filled + r.1 - filled) out ys) ≡ take filled out ++ ys =
          take-put_mid filled (filled + r.1 - filled) out ys (filled + r.1) (omega (arith, long)) (omega (arith, c.loop-range.auto.out, inv.left))
          in
          ap (λ (l : List ℕ). l ++ rest) front
          ∙ (append_assoc (take filled out) ys rest
          ∙ (ap (λ (l : List ℕ). take filled out ++ (l ++ rest)) own
          ∙ (ap (λ (rs : List (ℕ × ℕ)). take filled out ++ joined c' rs) (sym here.tail)
          ∙ inv.bytes us tell)));
      steps = λ us tell.
          let few = rw here.part at (c.read_into.ensures.steps.few us tell) in
          omega (arith, few, visits_here ranges k s.page_size (length s.rows) (extents us) c.loop-range-test.true, inv.steps us tell);
      kept = kept_twice _ _ _ _ _ _ inv.kept c.read_into.ensures.kept;
      doors = c.read_into.ensures.doors_stay ∙ inv.doors;
      room = c.read_into.ensures.room_stays ∙ inv.room;
      known = c.read_into.ensures.known;
      truth = c.read_into.ensures.truth_stays;
    }

pub overflow_add-end : goal.overflow_add-end
overflow_add-end g c =
    let here = range_here c.args.ranges.now c.loop-range.range-index c.loop-range.filled c.loop-range.out c.loop-range-test.true (omega (arith, c.loop-range.auto.out, c.loop-range.invariant.left)) in
    omega (arith, c.loop-range.auto.out, c.loop-range.invariant.left, here.bytes)

pub slice_bounds-part-end : goal.slice_bounds-part-end
slice_bounds-part-end g c =
    let here = range_here c.args.ranges.now c.loop-range.range-index c.loop-range.filled c.loop-range.out c.loop-range-test.true (omega (arith, c.loop-range.auto.out, c.loop-range.invariant.left)) in
    omega (arith, c.loop-range.auto.out, c.loop-range.invariant.left, here.bytes)

pub read_into-requires-clause-doors : goal.read_into-requires-clause-doors
read_into-requires-clause-doors g c = c.loop-range.invariant.doors ∙ c.requires.doors

pub returns-in-Err-clause-doors_stay : goal.returns-in-Err-clause-doors_stay
returns-in-Err-clause-doors_stay g c = c.read_into.ensures.doors_stay ∙ c.loop-range.invariant.doors

pub returns-in-Err-clause-room_stays : goal.returns-in-Err-clause-room_stays
returns-in-Err-clause-room_stays g c = c.read_into.ensures.room_stays ∙ c.loop-range.invariant.room
