use Rattle.std.proofs.Common.{List, [], ◌∷◌, length, arith, ap, sym, subst, ◌∙◌, length-append}
use Rattle.range_log.specs.declared.open.OpenTouch.{OpenTouch}
use Rattle.range_log.specs.Open.{Rises}
use Rattle.range_log.proofs.Opens.{rises_push}
use Rattle.range_log.proofs.open.OpenList.add.Goals as goal

pub invariant_of-self : goal.invariant_of-self
invariant_of-self c =
    let old = c.self.inside.items.items in
    let room = rw (← c.self.view_is) at c.requires.room in
    let next = rw (← c.self.view_is) at c.requires.next in
    let more = c.push_reserved.ensures.items in
    let count = ap length more ∙ length-append old (c.args.open ∷ []) in
    let P : List OpenTouch → Type 0 = λ l. Rises l in
    (omega (arith, count, room), omega (arith, c.push_reserved.ensures.capacity, c.self.invariant.1), subst P (sym more) (rises_push old c.args.open c.self.invariant.2 next))
