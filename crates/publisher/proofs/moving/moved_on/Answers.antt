use Rattle.std.proofs.Common.{◌≡◌, List, [], ◌∷◌, ◌++◌, map, ap, sym, ◌∙◌, subst}
use Rattle.std.specs.Arc.{arc_value}
use Rattle.std.proofs.lemmas.List.{append_assoc}
use Rattle.std.proofs.lemmas.Result.{IfOk-weaker}
use Rattle.node_store.specs.UpdateRows.{UpdateRow}
use Rattle.snapshot.specs.Versions.{Version}
use Rattle.publisher.specs.Windows.{leading}
use Rattle.publisher.specs.WindowInvariant.{Ready, row_in}
use Rattle.publisher.proofs.Standing.{ready_front}
use Rattle.publisher.proofs.moving.moved_on.Goals as goal

pub with_next-requires : goal.with_next-requires
with_next-requires g c =
    let s = c.args.base.now in
    let row = arc_value c.args.row in
    let rest = leading (map row_in c.args.above.now) in
    ready_front s.page_size (s.rows ++ row ∷ []) rest (subst (Ready s.page_size) (sym (append_assoc s.rows (row ∷ []) rest)) c.requires)

pub returns-then-not-leads : goal.returns-then-not-leads
returns-then-not-leads g c =
    let s = c.args.base.now in
    let row = arc_value c.args.row in
    let rest = leading (map row_in c.args.above.now) in
    let none : rest ≡ [] = rw c.if-not-leads.true at c.leads.ensures in
    record {
      blob = IfOk-weaker c.with_next.result _ _ (λ v is. ap (λ (x : Version). x.blob) is) c.with_next.ensures.ok;
      page_size = IfOk-weaker c.with_next.result _ _ (λ v is. ap (λ (x : Version). x.page_size) is) c.with_next.ensures.ok;
      rows = IfOk-weaker c.with_next.result _ _ (λ v is. ap (λ (x : Version). x.rows) is ∙ ap (λ (l : List UpdateRow). s.rows ++ row ∷ l) (sym none)) c.with_next.ensures.ok;
      same = c.with_next.ensures.err;
    }
