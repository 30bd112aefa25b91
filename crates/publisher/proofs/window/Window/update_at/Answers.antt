use Rattle.std.proofs.Common.{◌≡◌, ◌<◌, length, map, refl, arith, ap, sym, ◌∙◌, subst}
use Rattle.std.specs.Prelude.{Some, slice_get, option_map}
use Rattle.std.proofs.lemmas.List.{length-map}
use Rattle.std.proofs.lemmas.Option.{slice_get_read, slice_get-map}
use Rattle.publisher.specs.Windows.{WindowState}
use Rattle.publisher.specs.WindowInvariant.{row_in, update_in}
use Rattle.publisher.proofs.Windows.{told, counts}
use Rattle.publisher.proofs.window.Window.update_at.Goals as goal

pub index-slot-requires : goal.index-slot-requires
index-slot-requires g c =
    let w = c.self.inside in
    let items = w.slots.items in
    let n = counts w.snapshot w.waiting (map row_in items) c.args.self.now.numbered (told c.self.view_is) c.self.invariant.0 in
    omega (arith, c.place-place.ensures, c.requires, n.published, n.assigned, c.self.invariant.0.paired, length-map items row_in, w.slots.ok.0)

pub returns : goal.returns
returns g c =
    let w = c.self.inside in
    let items = w.slots.items in
    let at = c.index-slot.result.now in
    let i = c.place-place.result in
    let n = counts w.snapshot w.waiting (map row_in items) c.args.self.now.numbered (told c.self.view_is) c.self.invariant.0 in
    let within : i < length items = omega (arith, c.place-place.ensures, c.requires, n.published, n.assigned, c.self.invariant.0.paired, length-map items row_in) in
    let here = slice_get-map update_in items i ∙ ap (option_map update_in) (slice_get_read items (length items) i at refl within c.index-slot.ensures) in
    let P : WindowState g.row.U.Denot → Type 0 = λ x. slice_get x.updates i ≡ Some at.update in
    ap (slice_get c.args.self.now.updates) (sym c.place-place.ensures) ∙ subst P c.self.view_is here
