use Rattle.std.proofs.Common.{◌≡◌, ℕ, [], ◌∷◌, ◌++◌, take, map, get_or, sym, ap, ◌∙◌, arith}
use Rattle.std.specs.Arc.{arc_value}
use Rattle.std.proofs.lemmas.List.{map-append, map_more}
use Rattle.radix_list.specs.Puts.{items_put, slots_told}
use Rattle.radix_list.proofs.Tailed.{slots_pushed}
use Rattle.radix_list.proofs.grown.filled.Goals as goal

pub loop-k-preserved : goal.loop-k-preserved
loop-k-preserved g c =
    let items = c.args.items.now in
    let k = c.loop-k.k in
    let item = c.index-items-k.result in
    let written = c.in_ok-set_slot.field-0 in
    let put : ℕ × g.row.T.Denot = (written.of, arc_value written.value) in
    let value : put.1 ≡ arc_value (get_or items k item) = ap arc_value c.in_ok-set_slot.ensures.item ∙ (c.in_ok-try_clone.ensures ∙ ap arc_value c.index-items-k.is) in
    record {
      items =
          ap items_put c.push.ensures
          ∙ (map-append (λ (p : ℕ × g.row.T.Denot). p.1) c.loop-k.puts (put ∷ [])
          ∙ (ap (λ l. l ++ put.1 ∷ []) c.loop-k.invariant.items
          ∙ (ap (λ x. map arc_value (take k items) ++ x ∷ []) value ∙ sym (map_more arc_value items k item c.loop-k-test.true))));
      slots =
          ap slots_told c.push.ensures
          ∙ slots_pushed c.loop-k.puts put c.args.slots.now k c.index-slots-k.result c.loop-k.invariant.slots (omega (arith, c.loop-k-test.true, c.requires.room)) c.index-slots-k.is c.in_ok-set_slot.ensures.slot;
    }
