use Rattle.std.proofs.Common.{map, arith}
use Rattle.publisher.specs.WindowInvariant.{row_in}
use Rattle.publisher.proofs.Windows.{told, counts}
use Rattle.publisher.proofs.window.Window.place.Goals as goal

pub overflow_sub-result : goal.overflow_sub-result
overflow_sub-result g c =
    let w = c.self.inside in
    let n = counts w.snapshot w.waiting (map row_in w.slots.items) c.args.self.now.numbered (told c.self.view_is) c.self.invariant.0 in
    omega (arith, c.version.ensures.count, c.requires, n.published)

pub overflow_sub-result-2 : goal.overflow_sub-result-2
overflow_sub-result-2 g c =
    let w = c.self.inside in
    let n = counts w.snapshot w.waiting (map row_in w.slots.items) c.args.self.now.numbered (told c.self.view_is) c.self.invariant.0 in
    omega (arith, c.version.ensures.count, c.requires, n.published)

pub overflow_cast-result : goal.overflow_cast-result
overflow_cast-result g c =
    let w = c.self.inside in
    let n = counts w.snapshot w.waiting (map row_in w.slots.items) c.args.self.now.numbered (told c.self.view_is) c.self.invariant.0 in
    omega (arith, c.version.ensures.count, c.requires, n.published, n.assigned, c.self.invariant.0.paired, c.self.invariant.0.few)

pub returns : goal.returns
returns g c =
    let w = c.self.inside in
    let n = counts w.snapshot w.waiting (map row_in w.slots.items) c.args.self.now.numbered (told c.self.view_is) c.self.invariant.0 in
    omega (arith, c.version.ensures.count, c.requires, n.published)
