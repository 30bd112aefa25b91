use Rattle.std.proofs.Common.{◌≡◌, ℕ, List, length, take, get_or, refl, sym, ap, ◌∙◌, subst, arith}
use Rattle.std.specs.Arc.{arc_value}
use Rattle.std.proofs.lemmas.List.{length-map}
use Rattle.radix_list.specs.Puts.{names_of}
use Rattle.radix_list.specs.Tails.{IsTailed}
use Rattle.radix_list.proofs.Tailed.{tailed_pushed}
use Rattle.radix_list.proofs.grown.Grown.new.Goals as goal

pub invariant_of-result : goal.invariant_of-result
invariant_of-result g c =
    let whole = c.args.whole in
    let slots = c.in_ok-slots.slots.items in
    let slot = c.index.result.now in
    let puts : List (ℕ × g.row.T.Denot) = c.in_ok-puts.puts in
    let put : ℕ × g.row.T.Denot = (c.in_ok-last.last.of, arc_value c.in_ok-last.last.value) in
    let count : length puts ≡ length c.args.kept.now =
    sym (length-map puts (λ (p : ℕ × g.row.T.Denot). p.1)) ∙ (ap length c.in_ok-puts.ensures.items ∙ length-map c.args.kept.now arc_value) in
    let room : length slots ≡ c.room.result = c.in_ok-slots.ensures in
    let read : slot ≡ get_or slots (length puts) slot = subst (λ n. slot ≡ get_or slots n slot) (sym count) c.index.ensures in
    let kept : IsTailed c.args.body whole slots whole puts = record {
      cut = c.requires.within;
      aligned = c.requires.aligned;
      few = omega (arith, room, c.room.ensures.few);
      within = omega arith;
      follows = λ some. refl;
      told = c.in_ok-puts.ensures.slots ∙ (ap (λ l. take (length c.args.kept.now) (names_of l)) c.deref.ensures.value ∙ ap (λ n. take n (names_of slots)) (sym count));
      room = omega (arith, count, c.requires.room);
    } in
    rw (c.in_ok-new.ensures.ok, c.push.ensures)
    (tailed_pushed kept put slot refl (omega (arith, count, room, c.room.ensures.more)) (omega (arith, count, c.requires.room)) read c.in_ok-last.ensures.slot)
