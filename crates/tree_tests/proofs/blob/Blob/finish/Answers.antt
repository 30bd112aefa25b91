use Rattle.std.proofs.Common.{◌≡◌, ℕ, [], arith, sym, ◌∙◌, subst}
use Rattle.std.specs.Arc.{arc_value}
use Rattle.tree_tests.specs.Blobs.{OneBlob, IsTicketOf, IsPlanOf, updates_in}
use Rattle.snapshot.specs.Versions.{IsRowOf}
use Rattle.tree_tests.proofs.Steady.{blob_of, own_row, finished_or_not, still_blob, is_counted}
use Rattle.tree_tests.proofs.blob.Blob.finish.Goals as goal

pub finish-requires-clause-own : goal.finish-requires-clause-own
finish-requires-clause-own g c =
    let b : OneBlob = blob_of c.self.inside.nodes c.self.inside.window.numbered c.self.inside.touches.items c.self.inside.begun.items in
    let t = c.ticket-ticket.result in
    let row = arc_value c.put-row.result in
    let T : OneBlob → Type 0 = λ x. IsTicketOf x t in
    let P : OneBlob → Type 0 = λ x. IsPlanOf x t c.plan-planned.result.0 in
    let plan = subst P (sym c.self.view_is) c.plan-planned.ensures in
    let none : c.plan-planned.result.0.folded ≡ [] = c.check_none_anew.ensures in
    let V : ℕ → Type 0 = λ v. IsRowOf b.window.page_size (updates_in b) v row in (
      updates_in b,
      c.self.invariant.stands,
      subst V (sym c.version-version.ensures.version) (
          own_row c.stored_rows_are_rows.ensures c.rows_stay.ensures.more b t row (subst T (sym c.self.view_is) c.ticket-ticket.ensures) c.version-version.ensures.stands c.put-row.ensures.version c.put-row.ensures.offset c.put-row.ensures.touch c.put-row.ensures.pages
          (c.put-row.ensures.nodes ∙ plan.nodes) c.put-row.ensures.folds (sym plan.folded ∙ none)
          ),
    )

pub invariant_of-self : goal.invariant_of-self
invariant_of-self g c =
    let b : OneBlob = blob_of c.self.inside.nodes c.self.inside.window.numbered c.self.inside.touches.items c.self.inside.begun.items in
    let t = c.ticket-ticket.result in
    let row = arc_value c.put-row.result in
    let v = c.version-version.result in
    let T : OneBlob → Type 0 = λ x. IsTicketOf x t in
    let P : OneBlob → Type 0 = λ x. IsPlanOf x t c.plan-planned.result.0 in
    let plan = subst P (sym c.self.view_is) c.plan-planned.ensures in
    let none : c.plan-planned.result.0.folded ≡ [] = c.check_none_anew.ensures in
    let k = subst T (sym c.self.view_is) c.ticket-ticket.ensures in
    let nodes = c.put-row.ensures.nodes ∙ plan.nodes in
    let own = own_row c.stored_rows_are_rows.ensures c.rows_stay.ensures.more b t row k c.version-version.ensures.stands c.put-row.ensures.version c.put-row.ensures.offset c.put-row.ensures.touch c.put-row.ensures.pages nodes c.put-row.ensures.folds (sym plan.folded ∙ none) in
    let V : ℕ → Type 0 = λ n. IsRowOf b.window.page_size (updates_in b) n row in
    still_blob c.windows_stand.ensures.finished b c.self.invariant v row c.finish.new.self.numbered (omega (arith, c.version-version.ensures.version, k.some))
    (omega (arith, c.version-version.ensures.version, k.numbered, is_counted b c.self.invariant)) (subst V (sym c.version-version.ensures.version) own) c.put-row.ensures.here
    (finished_or_not c.finish.result c.finish.new.self c.self.inside.window v row _ c.finish.ensures.finished c.finish.ensures.same)
