use Rattle.std.proofs.Common.{◌≡◌, ◌∙◌, ℕ, List, ◌++◌, refl, sym, ap, subst}
use Rattle.items.specs.Items.{after_item}
use Rattle.items.specs.Framing.{item_of, framed}
use Rattle.items.specs.BegunFrame.{begun_bytes}
use Rattle.items.specs.Taken.{IsOpen}
use Rattle.items.specs.declared.begun_frame.Begun.{Begun}
use Rattle.items.proofs.FrameTaken.{incomplete_open, complete_gives}
use Rattle.items.proofs.frame.Frame.give.Goals as goal

pub returns-then-not-is_complete : goal.returns-then-not-is_complete
returns-then-not-is_complete g c =
    (subst IsOpen c.self.view_is (incomplete_open g.B.Body.framing g.met.B.Body.is_framing g.B.Body.come c.self.inside.begun c.self.invariant (sym c.is_complete.ensures ∙ c.if-not-is_complete.true)), refl)

pub returns : goal.returns
returns g c =
    let value = c.replace.ensures.value in
    let gives : List ℕ → Type 0 = λ l. (more : List ℕ) → framed g.B.Body.framing (l ++ more) ≡ after_item c.item.result (framed g.B.Body.framing more) in
    let test = sym c.is_complete.ensures ∙ c.if-not-is_complete.false in (
      subst gives c.self.view_is (complete_gives g.B.Body.framing g.met.B.Body.is_framing g.B.Body.come c.self.inside.begun c.item.result c.self.invariant test (ap (λ (b : Begun g.row.B.Denot). item_of g.B.Body.framing (begun_bytes g.B.Body.come b)) (sym value) ∙ c.item.ensures.says)),
      ap (begun_bytes g.B.Body.come) c.replace.ensures.after ∙ c.nothing.ensures.bytes,
      c.item.ensures.well,
    )
