use Rattle.std.proofs.Common.{◌≡◌, ◌+◌, ◌-◌, ◌<◌, List, [], ◌∷◌, ◌++◌, length, map, Option, None, arith, ap, sym, ◌∙◌, subst}
use Rattle.std.proofs.lemmas.List.{length-map, map-append}
use Rattle.range_log.specs.declared.open.OpenTouch.{OpenTouch}
use Rattle.node_store.specs.UpdateRows.{UpdateRow}
use Rattle.publisher.specs.WindowInvariant.{row_in, KeepsWindow}
use Rattle.publisher.proofs.Windows.{told, counts, open_version, keeps_numbered}
use Rattle.publisher.proofs.window.Window.number.Goals as goal

pub add-requires-clause-room : goal.add-requires-clause-room
add-requires-clause-room g c =
    let w = c.self.inside in
    let n = counts w.snapshot w.waiting (map row_in w.slots.items) c.args.self.now.numbered (told c.self.view_is) c.self.invariant.0 in
    omega (arith, c.requires.few, n.published, n.assigned)

pub add-requires-clause-next : goal.add-requires-clause-next
add-requires-clause-next g c some =
    let w = c.self.inside in
    let above = map row_in w.slots.items in
    let n = counts w.snapshot w.waiting above c.args.self.now.numbered (told c.self.view_is) c.self.invariant.0 in
    let last = open_version w.snapshot w.waiting above c.self.invariant.0 (length w.waiting - 1) (omega arith) in
    omega (arith, c.assigned-version.ensures.log, n.assigned, last)

pub push_reserved-requires : goal.push_reserved-requires
push_reserved-requires g c =
    let w = c.self.inside in
    let n = counts w.snapshot w.waiting (map row_in w.slots.items) c.args.self.now.numbered (told c.self.view_is) c.self.invariant.0 in
    omega (arith, w.slots.ok.0, length-map w.slots.items row_in, c.self.invariant.0.paired, c.self.invariant.1, c.requires.few, n.published, n.assigned)

pub invariant_of-self : goal.invariant_of-self
invariant_of-self g c =
    let w = c.self.inside in
    let above = map row_in w.slots.items in
    let n = counts w.snapshot w.waiting above c.args.self.now.numbered (told c.self.view_is) c.self.invariant.0 in
    let version = c.assigned-version.result + 1 in
    let is : version ≡ length w.snapshot.rows + length w.waiting + 1 = omega (arith, c.assigned-version.ensures.log, n.assigned) in
    let counted : length w.snapshot.rows + length w.waiting < 1048576 = omega (arith, c.requires.room, n.assigned) in
    let few : length w.waiting < 64 = omega (arith, c.requires.few, n.published, n.assigned) in
    let kept = keeps_numbered w.snapshot w.waiting above version c.args.touch c.self.invariant.0 is few counted in
    let items = ap (map row_in) c.push_reserved.ensures.items ∙ map-append row_in w.slots.items (record { update = c.args.update; row = None } ∷ []) in
    let O : List OpenTouch → Type 0 = λ l. KeepsWindow w.snapshot l (above ++ None ∷ []) in
    let A : List (Option UpdateRow) → Type 0 = λ l. KeepsWindow w.snapshot c.add.new.self l in
    (subst A (sym items) (subst O (sym c.add.ensures) kept), omega (arith, c.push_reserved.ensures.capacity, c.self.invariant.1))
