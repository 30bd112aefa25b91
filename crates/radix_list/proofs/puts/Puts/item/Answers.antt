use Rattle.std.proofs.Common.{◌≡◌, ℕ, Some, take, refl, sym, ap, ◌∙◌, length}
use Rattle.std.specs.Prelude.{slice_get}
use Rattle.std.proofs.lemmas.Option.{slice_get_read}
use Rattle.radix_list.proofs.Tailed.{slot_read}
use Rattle.radix_list.proofs.puts.Puts.item.Goals as goal

pub value-requires : goal.value-requires
value-requires g c =
    let shown = take c.self.inside.count c.self.inside.shown in
    let put = c.in_ok-put.put.now in
    let is : slice_get c.args.self.now c.args.k ≡ Some put =
    ap (λ l. slice_get l c.args.k) (sym c.self.view_is) ∙ slice_get_read shown (length shown) c.args.k put refl c.in_ok-put.ensures.lookup.3.0 c.in_ok-put.ensures.lookup.1 in
    ap (λ (p : ℕ × g.row.T.Denot). p.0) c.put.view_is
    ∙ slot_read c.args.self.now c.args.slots.now c.args.k put c.index-slots-k.result c.requires is c.index-slots-k.is
