use Rattle.std.proofs.Common.{◌≡◌, ℕ, List, map, sym, ◌∙◌, ap, subst, arith}
use Rattle.std.specs.Prelude.{IfOk, IfErr}
use Rattle.std.specs.Arc.{arc_value}
use Rattle.blob_model.specs.Answer.{answer, in_blob}
use Rattle.blob_model.specs.Content.{Update}
use Rattle.blob_model.specs.History.{store_of}
use Rattle.blob_model.specs.declared.call.Call.TheVariants as Calls
use Rattle.blob_model.specs.declared.call.Outcome.TheVariants as Outcomes
use Rattle.blob_model.specs.declared.call.Refusal.TheVariants as Refusals
use Rattle.snapshot.specs.Laws.{TellUpdates}
use Rattle.snapshot.specs.Versions.{Version, IsVersionIn, older_version, size_now}
use Rattle.publisher.specs.Windows.{Numbered, version_of}
use Rattle.version_manager.specs.declared.fault.OpenFault.{OpenFault}
use Rattle.version_manager.specs.declared.look.Look.TheVariants as Looks
use Rattle.version_manager.specs.Desks.{DeskState, window_in, updates_in, updates_or_none, unopened_size}
use Rattle.version_manager.specs.Entries.{event_of}
use Rattle.version_manager.specs.Origins.{LieUnderOrigins}
use Rattle.version_manager.proofs.Desks.{IsAt, absent, at_index}
use Rattle.version_manager.proofs.Houses.{older_in}
use Rattle.version_manager.proofs.Keeping.{lies_at, under_at}
use Rattle.version_manager.proofs.Stores.{look_none}
use Rattle.version_manager.proofs.Origins.{older_under}
use Rattle.version_manager.proofs.Results.{if_ok}
use Rattle.version_manager.proofs.desk.Desk.snapshot_of.Goals.{After-index}
use Rattle.version_manager.proofs.desk.Desk.snapshot_of.Goals as goal

-- the blob's window
at : (c : After-index)
    → IsAt c.self.invariant.kept c.args.blob c.in-Some.index c.index.result.now
at c =
    let d = c.self.inside in
    at_index c.self.invariant.kept c.args.blob c.in-Some.index _ c.index.result.now d.windows.ok.0 c.in-Some.ensures c.index.ensures

pub returns-in-Some-clause-this : goal.returns-in-Some-clause-this
returns-in-Some-clause-this c =
    let x = at (goal.at.returns-in-Some-clause-this c).After-index in
    let P : DeskState → Type 0 = λ s. IfOk c.snapshot_in.result (λ (a : Version). a ≡ older_version (version_of (window_in s c.args.blob)) c.args.version) in
    subst P c.self.view_is (if_ok c.snapshot_in.result _ _ (λ (a : Version) e. e ∙ ap (λ (w : Numbered). older_version (version_of w) c.args.version) x.window) c.snapshot_in.ensures.this)

pub returns-in-Some-clause-size : goal.returns-in-Some-clause-size
returns-in-Some-clause-size c = λ caller.
    let d = c.self.inside in
    let x = at (goal.at.returns-in-Some-clause-size c).After-index in
    let s = store_of d.limits (map event_of d.history.entries) in
    let P : DeskState → Type 0 = λ v. IfOk c.snapshot_in.result (λ (a : Version). (answer (store_of v.limits v.history) caller (Calls.Size c.args.blob c.args.version)).1 ≡ Outcomes.Size (size_now a)) in
    subst P c.self.view_is (rw (x.found.at, in_blob) (c.snapshot_in.ensures.size d.limits s x.found.b x.keeps))

pub returns-in-Some-clause-blob : goal.returns-in-Some-clause-blob
returns-in-Some-clause-blob c =
    let x = at (goal.at.returns-in-Some-clause-blob c).After-index in
    if_ok c.snapshot_in.result _ _ (λ (a : Version) e. ap (λ (v : Version). v.blob) e ∙ x.id) c.snapshot_in.ensures.this

pub returns-in-Some-clause-page_size : goal.returns-in-Some-clause-page_size
returns-in-Some-clause-page_size c =
    let x = at (goal.at.returns-in-Some-clause-page_size c).After-index in
    if_ok c.snapshot_in.result _ _ (λ (a : Version) e. ap (λ (v : Version). v.page_size) e ∙ x.page ∙ ap (λ (v : DeskState). v.page_size) c.self.view_is) c.snapshot_in.ensures.this

pub returns-in-Some-clause-tells : goal.returns-in-Some-clause-tells
returns-in-Some-clause-tells c =
    let d = c.self.inside in
    let x = at (goal.at.returns-in-Some-clause-tells c).After-index in
    let b = x.found.b in
    let P : DeskState → Type 0 = λ v. IfOk c.snapshot_in.result (λ (a : Version). TellUpdates v.page_size (updates_in v c.args.blob) a.rows) in
    let Q : List Update → Type 0 = λ us. IfOk c.snapshot_in.result (λ (a : Version). TellUpdates d.page_size us a.rows) in
    let R : ℕ → Type 0 = λ p. IfOk c.snapshot_in.result (λ (a : Version). TellUpdates p b.updates a.rows) in
    subst P c.self.view_is (subst Q (ap updates_or_none (sym x.found.at)) (subst R x.page (c.snapshot_in.ensures.tells d.limits b x.keeps)))

pub returns-in-Some-clause-not_opened : goal.returns-in-Some-clause-not_opened
returns-in-Some-clause-not_opened c = λ caller.
    let d = c.self.inside in
    let x = at (goal.at.returns-in-Some-clause-not_opened c).After-index in
    let s = store_of d.limits (map event_of d.history.entries) in
    let P : DeskState → Type 0 = λ v. IfErr c.snapshot_in.result (λ (fault : OpenFault). (answer (store_of v.limits v.history) caller (Calls.Size c.args.blob c.args.version)).1 ≡ unopened_size fault) in
    subst P c.self.view_is (rw (x.found.at, in_blob) (c.snapshot_in.ensures.not_opened d.limits s x.found.b x.keeps))

pub returns-in-Some-clause-here : goal.returns-in-Some-clause-here
returns-in-Some-clause-here c =
    let d = c.self.inside in
    let nodes = arc_value d.nodes in
    let houses = arc_value d.houses in
    let w = c.index.result.now in
    let x = at (goal.at.returns-in-Some-clause-here c).After-index in
    let lies = lies_at c.self.invariant c.args.blob c.in-Some.index w x in
    let P : DeskState → Type 0 = λ s. IfOk c.snapshot_in.result (λ (a : Version). IsVersionIn s.nodes s.houses a) in
    subst P c.self.view_is (if_ok c.snapshot_in.result _ _ (λ (a : Version) e. subst (λ (v : Version). IsVersionIn nodes houses v) (sym e) (older_in nodes houses w.numbered c.args.version lies)) c.snapshot_in.ensures.this)

pub returns-in-Some-clause-origins : goal.returns-in-Some-clause-origins
returns-in-Some-clause-origins c =
    let d = c.self.inside in
    let h = map event_of d.history.entries in
    let blob = c.args.blob in
    let w = c.index.result.now in
    let x = at (goal.at.returns-in-Some-clause-origins c).After-index in
    let under = under_at c.self.invariant blob c.in-Some.index w x in
    let P : DeskState → Type 0 = λ s. IfOk c.snapshot_in.result (λ (a : Version). LieUnderOrigins s.history blob a.rows) in
    subst P c.self.view_is (if_ok c.snapshot_in.result _ _ (λ (a : Version) e. subst (λ (v : Version). LieUnderOrigins h blob v.rows) (sym e) (older_under h blob c.args.version w.numbered under)) c.snapshot_in.ensures.this)

pub returns-in-None-clause-not_opened : goal.returns-in-None-clause-not_opened
returns-in-None-clause-not_opened c = λ caller.
    let d = c.self.inside in
    let h = map event_of d.history.entries in
    let none = absent c.self.invariant.kept c.args.blob (λ some. omega (arith, d.windows.ok.0, c.in-None.ensures some)) in
    let P : DeskState → Type 0 = λ v. (answer (store_of v.limits v.history) caller (Calls.Size c.args.blob c.args.version)).1 ≡ Outcomes.Refused (Refusals.NoBlob c.args.blob) in
    subst P c.self.view_is (look_none (Looks.Size c.args.version) (store_of d.limits h) caller c.args.blob none)
