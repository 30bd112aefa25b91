use Rattle.std.proofs.Common.{◌≡◌, ℕ, length, map, arith, sym, subst, ◌∙◌}
use Rattle.std.proofs.lemmas.List.{length-take-le}
use Rattle.range_log.specs.Rows.{leaf_len}
use Rattle.range_reader.proofs.Counting.{kept_twice, risen_since}
use Rattle.tree_weaver.specs.Planned.{own_extent}
use Rattle.tree_weaver.specs.Anew.{OwnFailed, Unfetched, Unread}
use Rattle.tree_weaver.proofs.Filled.{page_filled, filled_room}
use Rattle.tree_weaver.proofs.StoredParts.{part_since}
use Rattle.tree_weaver.proofs.folding.Folding.fill_anew.Goals as goal

pub slice_bounds-older-end : goal.slice_bounds-older-end
slice_bounds-older-end g c = omega (arith, c.requires.whole, c.changed_part-part.ensures.valid, c.changed_part-part.ensures.whole)

pub read_before-requires-clause-older : goal.read_before-requires-clause-older
read_before-requires-clause-older g c =
    let e = c.changed_part-part.ensures in
    length-take-le c.changed_part-part.result.older c.args.out.now (omega (arith, c.requires.whole, e.valid, e.whole)) ∙ e.older

pub returns-then-not-read_before-clause-lost : goal.returns-then-not-read_before-clause-lost
returns-then-not-read_before-clause-lost g c = λ _.
    let no = c.if-not-read_before.true in
    record { failed = Unread (c.read_before.ensures.failed no); counted = c.read_before.ensures.counted no }

pub returns-clause-kept : goal.returns-clause-kept
returns-clause-kept g c = kept_twice _ _ _ _ _ _ c.read_before.ensures.kept c.fetch_own.ensures.kept

pub returns-clause-bytes : goal.returns-clause-bytes
returns-clause-bytes g c = λ ok.
    let part = c.changed_part-part.result in
    let e = c.changed_part-part.ensures in
    let out = c.args.out.now in
    let r = c.read_before.new.out in
    let whole = c.requires.whole ∙ sym e.valid ∙ e.whole in
    let size : length r ≡ part.older = c.read_before.auto.out ∙ length-take-le part.older out (omega (arith, whole)) in
    page_filled c.args.self.now.ticket.now c.args.page part.older part.start part.from part.len _ r c.fetch_own.new.out out size e.start e.from e.len e.begins whole
    (omega (arith, e.within, c.stands.ensures.len)) (c.read_before.ensures.bytes c.if-not-read_before.false)
    (filled_room part.older part.start part.len r out whole e.begins size) (c.fetch_own.ensures.bytes ok)

pub returns-clause-lost : goal.returns-clause-lost
returns-clause-lost g c = λ lost.
    let t = c.args.self.now.ticket.now in
    let part = c.changed_part-part.result in
    let e = c.changed_part-part.ensures in
    let out = c.args.out.now in
    let r = c.read_before.new.out in
    let old = map g.D.Door.faults c.args.doors.now in
    let now = map g.D.Door.faults c.fetch_own.new.doors in
    let whole = c.requires.whole ∙ sym e.valid ∙ e.whole in
    let size : length r ≡ part.older = c.read_before.auto.out ∙ length-take-le part.older out (omega (arith, whole)) in
    let room = filled_room part.older part.start part.len r out whole e.begins size in
    let failed = part_since t old (map g.D.Door.faults c.read_before.new.doors) now part.from _ c.read_before.ensures.kept.none_fell (c.fetch_own.ensures.failed lost) in
    let P : ℕ → Type 0 = λ n. OwnFailed t old now part.from n in
    let Q : ℕ → Type 0 = λ b. OwnFailed t old now b (leaf_len t.snapshot.page_size (own_extent t) c.args.page) in
    record {
      failed = Unfetched (subst Q e.from (subst P (room ∙ e.len) failed));
      counted = risen_since _ _ _ c.read_before.ensures.kept.total (c.fetch_own.ensures.counted lost);
    }
