use Rattle.std.proofs.Common.{◌≡◌, ◌+◌, ◌-◌, List, ◌∷◌, ◌++◌, length, drop, map, Option, Some, arith, ap, sym, ◌∙◌, subst}
use Rattle.std.specs.Arc.{arc_value}
use Rattle.std.proofs.lemmas.List.{length-map, drop-map, map-set}
use lib.Seq.{map-set_same}
use Rattle.range_log.specs.declared.open.OpenTouch.{OpenTouch}
use Rattle.node_store.specs.UpdateRows.{UpdateRow}
use Rattle.publisher.specs.declared.slot.Slot.{Slot}
use Rattle.publisher.specs.Windows.{Numbered, WindowState, leading, published_of, with_finished, IsRowIn}
use Rattle.publisher.specs.WindowInvariant.{row_in, update_in, KeepsWindow, over, Ready}
use Rattle.publisher.proofs.Windows.{IsPlaced, HasMoved, told, counts, placed, over_kept, keeps_set, published_kept, tail_is, ready_moved, has_moved}
use Rattle.publisher.proofs.window.Window.finish.Given.{Over}
use Rattle.publisher.proofs.window.Window.finish.Goals.{After-version-published, In-Ok, After-version-now}
use Rattle.publisher.proofs.window.Window.finish.Goals as goal

-- the version's slot
place : (g : Over) (c : After-version-published g) → IsPlaced c.self.inside.snapshot (map row_in c.self.inside.slots.items) c.args.version (c.args.version - c.version-published.result - 1)
place g c =
    let w = c.self.inside in
    placed w.snapshot w.waiting (map row_in w.slots.items) c.args.self.now.numbered c.args.version c.version-published.result (told c.self.view_is) c.self.invariant.0 c.requires.numbered
    (sym c.is_finished.ensures ∙ c.if-is_finished.false) c.version-published.ensures.count

-- the window once its published version moved on
moves : (g : Over) (c : After-version-now g) → IsPlaced c.self.inside.snapshot (map row_in c.self.inside.slots.items) c.args.version (c.args.version - c.version-published.result - 1)
    → HasMoved c.self.inside.snapshot c.in-Ok.next c.self.inside.waiting (map row_in c.self.inside.slots.items) (c.version-now.result - c.version-published.result)
    (with_finished (over c.self.inside.snapshot c.self.inside.waiting (map row_in c.self.inside.slots.items)) c.args.version (arc_value c.args.row))
moves g c at =
    let w = c.self.inside in
    let items = w.slots.items in
    let above = map row_in items in
    let row = arc_value c.args.row in
    let next : c.args.version ≡ length w.snapshot.rows + 1 = omega (arith, at.is, c.if-slot-gt0.false) in
    let own = subst (λ (x : Numbered). IsRowIn x c.args.version row) (sym (told c.self.view_is)) c.requires.own in
    let tail = tail_is row_in items c.deref.result.now c.deref.ensures.value in
    let far = ap (λ n. n - c.version-published.result) c.version-now.ensures.count ∙ ap (λ n. length c.in-Ok.next.rows - n) c.version-published.ensures.count in
    has_moved w.snapshot c.in-Ok.next w.waiting above _ c.args.version _ row c.self.invariant.0 next (omega (arith, at.within)) own tail c.in-Ok.ensures.blob c.in-Ok.ensures.page_size c.in-Ok.ensures.rows far

pub overflow_sub-slot : goal.overflow_sub-slot
overflow_sub-slot g c = omega (arith, c.version-published.ensures.count, (place g (goal.at.overflow_sub-slot g c).After-version-published).waits)

pub overflow_sub-slot-2 : goal.overflow_sub-slot-2
overflow_sub-slot-2 g c = omega (arith, c.version-published.ensures.count, (place g (goal.at.overflow_sub-slot-2 g c).After-version-published).waits)

pub index_mut-requires : goal.index_mut-requires
index_mut-requires g c =
    let at = place g (goal.at.index_mut-requires g c).After-version-published in
    omega (arith, at.within, length-map c.self.inside.slots.items row_in, c.self.inside.slots.ok.0)

pub invariant_of-self : goal.invariant_of-self
invariant_of-self g c =
    let w = c.self.inside in
    let slot = c.args.version - c.version-published.result - 1 in (
      subst (λ (l : List (Option UpdateRow)). KeepsWindow w.snapshot w.waiting l) (sym (map-set row_in w.slots.items slot _))
          (keeps_set w.snapshot w.waiting (map row_in w.slots.items) slot (arc_value c.args.row) c.self.invariant.0 c.if-slot-gt0.true),
      c.self.invariant.1,
    )

pub returns-then-slot-gt0-clause-finished : goal.returns-then-slot-gt0-clause-finished
returns-then-slot-gt0-clause-finished g c =
    let w = c.self.inside in
    let above = map row_in w.slots.items in
    let row = arc_value c.args.row in
    let version = c.args.version in
    let slot = version - c.version-published.result - 1 in
    let at = place g (goal.at.returns-then-slot-gt0-clause-finished g c).After-version-published in
    ap (over w.snapshot w.waiting) (map-set row_in w.slots.items slot _)
    ∙ over_kept w.snapshot w.waiting above version slot row at.is
    ∙ ap (λ (x : Numbered). with_finished x version row) (told c.self.view_is)

pub returns-then-slot-gt0-clause-updates : goal.returns-then-slot-gt0-clause-updates
returns-then-slot-gt0-clause-updates g c =
    let w = c.self.inside in
    let slot = c.args.version - c.version-published.result - 1 in
    let n = counts w.snapshot w.waiting (map row_in w.slots.items) c.args.self.now.numbered (told c.self.view_is) c.self.invariant.0 in
    let new : Slot g.row.U.Denot = record { update = c.index_mut.result.now.update; row = Some c.args.row } in
    let none : 0 ≡ c.version-published.result - published_of c.args.self.now.numbered = omega (arith, c.version-published.ensures.count, n.published) in
    map-set_same update_in w.slots.items slot new c.index_mut.result.now (ap update_in c.index_mut.ensures.value)
    ∙ ap (λ (x : WindowState g.row.U.Denot). x.updates) c.self.view_is
    ∙ ap (λ k. drop k c.args.self.now.updates) none

pub returns-then-slot-gt0-clause-published : goal.returns-then-slot-gt0-clause-published
returns-then-slot-gt0-clause-published g c =
    let w = c.self.inside in
    let version = c.args.version in
    let row = arc_value c.args.row in
    let at = place g (goal.at.returns-then-slot-gt0-clause-published g c).After-version-published in
    c.version-published.ensures.count
    ∙ published_kept w.snapshot w.waiting (map row_in w.slots.items) version (version - c.version-published.result - 1) row c.self.invariant.0.least c.if-slot-gt0.true at.is
    ∙ ap (λ (x : Numbered). published_of (with_finished x version row)) (told c.self.view_is)

pub scale_in_slice-moved_on : goal.scale_in_slice-moved_on
scale_in_slice-moved_on g c =
    let at = place g (goal.at.scale_in_slice-moved_on g c).After-version-published in
    omega (arith, at.within, length-map c.self.inside.slots.items row_in, ap length c.deref.ensures.value)

pub slice_bounds-moved_on-count : goal.slice_bounds-moved_on-count
slice_bounds-moved_on-count g c =
    let at = place g (goal.at.slice_bounds-moved_on-count g c).After-version-published in
    omega (arith, at.within, length-map c.self.inside.slots.items row_in, ap length c.deref.ensures.value)

pub slice_bounds-moved_on-start : goal.slice_bounds-moved_on-start
slice_bounds-moved_on-start g c =
    let at = place g (goal.at.slice_bounds-moved_on-start g c).After-version-published in
    omega (arith, at.within, length-map c.self.inside.slots.items row_in, ap length c.deref.ensures.value)

pub moved_on-requires : goal.moved_on-requires
moved_on-requires g c =
    let w = c.self.inside in
    let items = w.slots.items in
    let above = map row_in items in
    let row = arc_value c.args.row in
    let version = c.args.version in
    let at = place g (goal.at.moved_on-requires g c).After-version-published in
    let next : version ≡ length w.snapshot.rows + 1 = omega (arith, at.is, c.if-slot-gt0.false) in
    let own = subst (λ (x : Numbered). IsRowIn x version row) (sym (told c.self.view_is)) c.requires.own in
    let tail = tail_is row_in items c.deref.result.now c.deref.ensures.value in
    subst (λ (l : List (Option UpdateRow)). Ready w.snapshot.page_size (w.snapshot.rows ++ row ∷ leading l)) (sym tail)
    (ready_moved w.snapshot w.waiting above version row c.self.invariant.0 next (omega (arith, at.within)) own.0 own.1 own.2)

pub drop_first-requires : goal.drop_first-requires
drop_first-requires g c = omega (arith, (moves g (goal.at.drop_first-requires g c).After-version-now (place g (goal.at.drop_first-requires g c).After-version-published)).few, c.self.invariant.0.paired)

pub drop_first-requires-2 : goal.drop_first-requires-2
drop_first-requires-2 g c =
    let items = c.self.inside.slots.items in
    omega (arith, (moves g (goal.at.drop_first-requires-2 g c).After-version-now (place g (goal.at.drop_first-requires-2 g c).After-version-published)).few, c.self.inside.slots.ok.0, length-map items row_in)

pub invariant_of-self-2 : goal.invariant_of-self-2
invariant_of-self-2 g c =
    let items = c.self.inside.slots.items in
    let count = c.version-now.result - c.version-published.result in
    let has = moves g (goal.at.invariant_of-self-2 g c).After-version-now (place g (goal.at.invariant_of-self-2 g c).After-version-published) in
    let left = ap (map row_in) c.drop_first-2.ensures.items ∙ sym (drop-map row_in count items) in
    let P : List OpenTouch → Type 0 = λ l. KeepsWindow c.in-Ok.next l (drop count (map row_in items)) in
    let Q : List (Option UpdateRow) → Type 0 = λ l. KeepsWindow c.in-Ok.next c.drop_first.new.self l in
    (subst Q (sym left) (subst P (sym c.drop_first.ensures) has.keeps), omega (arith, c.drop_first-2.ensures.room, c.self.invariant.1))

pub returns-clause-finished : goal.returns-clause-finished
returns-clause-finished g c =
    let items = c.self.inside.slots.items in
    let row = arc_value c.args.row in
    let version = c.args.version in
    let count = c.version-now.result - c.version-published.result in
    let has = moves g (goal.at.returns-clause-finished g c).After-version-now (place g (goal.at.returns-clause-finished g c).After-version-published) in
    let left = ap (map row_in) c.drop_first-2.ensures.items ∙ sym (drop-map row_in count items) in
    ap (over c.in-Ok.next c.drop_first.new.self) left
    ∙ ap (λ (l : List OpenTouch). over c.in-Ok.next l (drop count (map row_in items))) c.drop_first.ensures
    ∙ has.view
    ∙ ap (λ (x : Numbered). with_finished x version row) (told c.self.view_is)

pub returns-clause-updates : goal.returns-clause-updates
returns-clause-updates g c =
    let w = c.self.inside in
    let items = w.slots.items in
    let count = c.version-now.result - c.version-published.result in
    let n = counts w.snapshot w.waiting (map row_in items) c.args.self.now.numbered (told c.self.view_is) c.self.invariant.0 in
    let far : count ≡ c.version-now.result - published_of c.args.self.now.numbered = omega (arith, c.version-published.ensures.count, n.published) in
    ap (map update_in) c.drop_first-2.ensures.items
    ∙ sym (drop-map update_in count items)
    ∙ ap (λ (x : WindowState g.row.U.Denot). drop count x.updates) c.self.view_is
    ∙ ap (λ k. drop k c.args.self.now.updates) far

pub returns-clause-published : goal.returns-clause-published
returns-clause-published g c =
    let has = moves g (goal.at.returns-clause-published g c).After-version-now (place g (goal.at.returns-clause-published g c).After-version-published) in
    c.version-now.ensures.count ∙ has.published ∙ ap (λ (x : Numbered). published_of (with_finished x c.args.version (arc_value c.args.row))) (told c.self.view_is)
