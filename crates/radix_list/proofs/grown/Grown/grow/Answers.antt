use Rattle.std.proofs.Common.{◌≡◌, ℕ, ◌+◌, ◌<◌, ◌≤◌, List, [], ◌∷◌, ◌++◌, length, get_or, ap, ◌∙◌, arith}
use Rattle.std.specs.Arc.{arc_value}
use Rattle.std.proofs.lemmas.List.{take_all}
use Rattle.radix_list.proofs.Tailed.{length_tailed, tailed_pushed}
use Rattle.radix_list.proofs.grown.Grown.grow.Goals as goal

pub invariant_of-result : goal.invariant_of-result
invariant_of-result g c =
    let trunk = arc_value c.self.inside.trunk in
    let front = c.self.inside.front in
    let puts : List (ℕ × g.row.T.Denot) = c.self.inside.puts in
    let slot = c.index.result.now in
    let put : ℕ × g.row.T.Denot = (c.in-Ok-set_written.written.of, arc_value c.in-Ok-set_written.written.value) in
    let within : front ≤ length trunk.body = omega (arith, c.self.invariant.within, c.self.invariant.cut) in
    let here : front ≡ trunk.whole = omega (arith, c.self.invariant.within, rw c.deref.ensures at c.if-self-deref.false) in
    let more : length puts < length trunk.slots.items =
    omega (arith, c.len-next.ensures.is, c.if-next-len.false, rw c.deref-else-self-deref.ensures at c.len.ensures, trunk.slots.ok.0) in
    let room : front + length puts < 1048576 = omega (arith, c.requires, length_tailed trunk.body front puts within, ap length c.self.view_is) in
    let read : slot ≡ get_or trunk.slots.items (length puts) slot = rw (c.deref-2.ensures, c.in-Ok.ensures, c.len-next.ensures.is) at c.index.ensures in
    let now : c.push.new.self ≡ puts ++ put ∷ [] =
    c.push.ensures ∙ ap (λ l. l ++ put ∷ []) (c.in-Ok-front.ensures ∙ take_all c.len-next.result puts (omega (arith, c.len-next.ensures.is))) in
    rw (c.in-Ok.ensures, now) (tailed_pushed c.self.invariant put slot here more room read c.in-Ok-set_written.ensures.0.0)
