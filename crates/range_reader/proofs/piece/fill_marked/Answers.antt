use Rattle.std.proofs.Common.{◌≡◌, ◌-◌, ◌≤◌, length, take, drop, arith, ◌∙◌}
use borrow.Rule.Slice.PartMut.{put_mid}
use Rattle.range_reader.proofs.Parts.{length_part, length_put}
use Rattle.range_reader.proofs.Running.{more_marked, more_unmarked}
use Rattle.page_fan.proofs.Using.{true_at_all}
use Rattle.range_reader.proofs.Counting.{kept_twice}
use Rattle.range_reader.proofs.piece.fill_marked.Goals as goal

pub loop-first-preserved : goal.loop-first-preserved
loop-first-preserved g c =
    let i = c.loop-first.invariant in
    let first = c.loop-first.first in
    let past = c.first_marked-past.result in
    let out = c.loop-first.out in
    let marks = c.args.marks.now in
    let next = c.first_marked-first-in-loop-first in
    let f = c.fetch.ensures in
    let kept : length out ≡ length c.args.out.now = c.loop-first.auto.out in
    let few : past ≤ length out = omega (arith, c.first_marked-past.ensures.most, c.requires.marked, kept) in
    let order : first ≤ past = c.first_marked-past.ensures.least in
    let held : length (take (past - first) (drop first out)) ≡ past - first = length_part out first (past - first) (omega (arith, few, order)) in
    let len : length c.fetch.new.out ≡ past - first = c.fetch.auto.out ∙ held in
    let whole : length (put_mid first (past - first) out c.fetch.new.out) ≡ length out = length_put first (past - first) out c.fetch.new.out (omega (arith, few, order)) len in
    record {
      within = omega (arith, whole, next.ensures.most, c.requires.marked, kept);
      found = λ lt. next.ensures.found (omega (arith, whole, lt, c.requires.marked, kept));
      marked = λ all. more_marked c.args.from first past (length (take (past - first) (drop first out))) c.args.stored.now.bytes out c.fetch.new.out marks order few
          (f.got c.if-not-fetch.false (true_at_all g.D.Door.is_true c.loop-first.doors c.args.stored.now.spots (i.truth all))) held len next.result (i.marked all)
          (λ x from lt. next.ensures.none x from lt);
      unmarked = λ x lt no. more_unmarked first past out c.fetch.new.out marks order few len c.first_marked-past.ensures.none x no ∙ i.unmarked x (omega (arith, whole, lt)) no;
      kept = kept_twice _ _ _ _ _ _ i.kept (record { none_fell = f.none_fell; total = f.sum_never_falls });
      count = f.count ∙ i.count;
      truth = λ all. f.truth_stays (i.truth all);
    }
