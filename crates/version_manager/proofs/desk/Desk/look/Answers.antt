use Rattle.std.proofs.Common.{◌≡◌, map, sym, subst, arith}
use Rattle.blob_model.specs.History.{store_of}
use Rattle.blob_model.specs.declared.call.Outcome.TheVariants as Outcomes
use Rattle.blob_model.specs.declared.call.Refusal.TheVariants as Refusals
use Rattle.version_manager.specs.Desks.{DeskState, outcome_now}
use Rattle.version_manager.specs.Entries.{event_of}
use Rattle.version_manager.specs.Looks.{look_call}
use Rattle.version_manager.proofs.Desks.{absent, at_index}
use Rattle.version_manager.proofs.Stores.{look_none}
use Rattle.version_manager.proofs.desk.Desk.look.Goals as goal

pub returns-in-Some : goal.returns-in-Some
returns-in-Some c = λ caller.
    let d = c.self.inside in
    let h = map event_of d.history.entries in
    let x = at_index c.self.invariant.kept c.args.blob c.in-Some.index _ c.index.result.now d.windows.ok.0 c.in-Some.ensures c.index.ensures in
    let P : DeskState → Type 0 = λ v. c.look_in.result ≡ outcome_now v caller (look_call c.args.look c.args.blob) in
    subst P c.self.view_is (c.look_in.ensures d.limits (store_of d.limits h) caller c.args.blob x.found.b x.found.at x.keeps)

pub returns-in-None : goal.returns-in-None
returns-in-None c = λ caller.
    let d = c.self.inside in
    let h = map event_of d.history.entries in
    let none = absent c.self.invariant.kept c.args.blob (λ some. omega (arith, d.windows.ok.0, c.in-None.ensures some)) in
    let P : DeskState → Type 0 = λ v. Outcomes.Refused (Refusals.NoBlob c.args.blob) ≡ outcome_now v caller (look_call c.args.look c.args.blob) in
    subst P c.self.view_is (sym (look_none c.args.look (store_of d.limits h) caller c.args.blob none))
