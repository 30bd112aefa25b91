use Rattle.std.proofs.Common.{◌≡◌, ◌∙◌, ap, subst, List}
use Rattle.std.specs.Prelude.{IfSome}
use Rattle.std.specs.Arc.{arc_value}
use Rattle.boxcar.specs.Table.{Shelves}
use Rattle.page_store.specs.House.{House}
use Rattle.page_store.specs.Stored.{LieAmong}
use Rattle.tree_weaver.specs.Woven.{IsWoven}
use Rattle.client_session.specs.Sessions.{SessionState}
use Rattle.client_session.proofs.Opened.{may_finish_if_woven}
use Rattle.client_session.proofs.session.Session.woven.Goals as goal

pub returns-clause-may : goal.returns-clause-may
returns-clause-may g c =
    let s = c.args.self.now in
    let t = c.args.ticket.now in
    let row = c.in_ok-woven in
    let house : c.nodes.result.now ≡ s.store.fixed.nodes = c.nodes.ensures ∙ ap (λ (x : SessionState g.row.D.Denot). x.store.fixed.nodes) c.self.view_is in
    let woven = subst (λ (n : List Shelves). IfSome row.woven (λ r. (houses : List House) → LieAmong houses t.pages.pages → IsWoven n houses t (arc_value r))) house row.ensures.woven in
    may_finish_if_woven (λ r. arc_value r) row.woven s.store.fixed s.log t c.requires woven row.ensures.none_anew
