use Rattle.std.proofs.Common.{◌≡◌, ◌+◌, ◌-◌, ◌<◌, length, map, true, arith, sym, ◌∙◌, subst}
use Rattle.std.specs.Arc.{arc_value}
use Rattle.std.proofs.lemmas.List.{length-map}
use Rattle.publisher.specs.Windows.{Numbered, is_finished}
use Rattle.publisher.specs.WindowInvariant.{row_in}
use Rattle.publisher.proofs.Leading.{some_seen}
use Rattle.publisher.proofs.Windows.{told, counts, finished_below, finished_read}
use Rattle.publisher.proofs.window.Window.is_finished.Goals as goal

pub returns-then-version-published : goal.returns-then-version-published
returns-then-version-published g c =
    let w = c.self.inside in
    let F : Numbered → Type 0 = λ x. true ≡ is_finished x c.args.version in
    subst F (told c.self.view_is)
    (sym (finished_below w.snapshot w.waiting (map row_in w.slots.items) c.args.version c.requires.0 (omega (arith, c.version-published.ensures.count, c.if-version-published.true))))

pub returns : goal.returns
returns g c =
    let w = c.self.inside in
    let items = w.slots.items in
    let version = c.args.version in
    let slot = version - c.version-published.result - 1 in
    let n = counts w.snapshot w.waiting (map row_in items) c.args.self.now.numbered (told c.self.view_is) c.self.invariant.0 in
    let is : version ≡ length w.snapshot.rows + slot + 1 = omega (arith, c.version-published.ensures.count, c.if-version-published.false) in
    let within : slot < length items = omega (arith, is, n.assigned, c.requires.1, c.self.invariant.0.paired, length-map items row_in) in
    let F : Numbered → Type 0 = λ x. c.is_some.result ≡ is_finished x version in
    let at = c.index.result.now in
    subst F (told c.self.view_is)
    (c.is_some.ensures ∙ sym (some_seen arc_value at.row) ∙ sym (finished_read w.snapshot w.waiting row_in items version slot at is within c.index.ensures))
