use Rattle.std.proofs.Common.{ℕ, [], ◌∷◌, ◌++◌, map, option_map, ap, sym, ◌∙◌, subst}
use Rattle.std.specs.Arc.{arc_value}
use Rattle.std.proofs.lemmas.List.{append_assoc}
use Rattle.snapshot.specs.Versions.{Version}
use Rattle.publisher.specs.Windows.{leading}
use Rattle.publisher.specs.WindowInvariant.{Ready, row_in}
use Rattle.publisher.proofs.Leading.{slot_leads}
use Rattle.publisher.proofs.Standing.{ready_front, ready_next}
use Rattle.publisher.proofs.moving.moved_past.Goals as goal

pub with_shared-requires : goal.with_shared-requires
with_shared-requires g c =
    let s = c.args.base.now in
    let row = arc_value c.args.row.now in
    let rest = leading (map row_in c.args.above.now) in
    ready_front s.page_size (s.rows ++ row ∷ []) rest (subst (Ready s.page_size) (sym (append_assoc s.rows (row ∷ []) rest)) c.requires)

pub with_shared-requires-in-Some : goal.with_shared-requires-in-Some
with_shared-requires-in-Some g c =
    let s = c.loop-slot.snapshot in
    let base = c.args.base.now in
    let row = arc_value c.args.row.now in
    let next = arc_value c.in-Some.row in
    let rest = leading (map row_in c.args.above.now) in
    let first = c.in_ok-snapshot.ensures in
    let pages = c.loop-slot.invariant.page_size ∙ ap (λ (v : Version). v.page_size) first in
    let whole = c.loop-slot.invariant.rows ∙ ap (λ (v : Version). v.rows ++ rest) first ∙ append_assoc base.rows (row ∷ []) rest in
    let leads = slot_leads row_in c.args.above.now c.loop-slot.slot-index c.slot-item.result next c.loop-slot-test.true c.slot-item.is (ap (option_map arc_value) c.in-Some.is) in
    let P : ℕ → Type 0 = λ p. Ready p (s.rows ++ next ∷ []) in
    subst P (sym pages) (ready_next base.page_size s.rows next _ _ _ whole leads c.requires)
