use Rattle.std.proofs.Common.{◌≡◌, ◌∙◌, ℕ, List, ap, subst, sym}
use Rattle.std.specs.Prelude.{Ok}
use Rattle.blob_model.specs.Limits.{Bounds, greatest}
use Rattle.blob_model.specs.History.{IsLegal}
use Rattle.blob_model.specs.declared.call.Event.{Event}
use Rattle.turn_lock.specs.History.{LacksUngiven}
use Rattle.turn_lock.specs.Shown.{OwnerView}
use Rattle.version_manager.specs.declared.journal.DeskFixed.{DeskFixed}
use Rattle.version_manager.specs.Log.{IsLog, tagged, events}
use Rattle.workload_law.specs.declared.plan.LoadPlan.{LoadPlan}
use Rattle.workload_law.specs.declared.plan.Summary.{Summary}
use Rattle.workload_run.specs.Stages.{ClosesAs, TellsLoad}
use Rattle.workload_run.proofs.Returns.{closed_history, events_tagged}
use Rattle.workload_run.proofs.loading.load.Goals as goal

-- what is known of the closed store's history
told_of : (f : DeskFixed) (plan : LoadPlan) (summary : Summary) (owner : OwnerView Event DeskFixed) (history : List Event) → f.limits ≡ greatest → IsLog f owner.seen
    → ClosesAs plan f.page_size (Ok summary) owner → tagged history ≡ owner.seen → LacksUngiven owner.made (tagged history) → TellsLoad plan f.page_size (Ok summary) history
told_of f plan summary owner history limits log closes is lacks =
    subst (λ (h : List Event). TellsLoad plan f.page_size (Ok summary) h) (ap (λ (l : List (ℕ × Event)). events l) (sym is) ∙ events_tagged history)
    (closes (subst (λ (l : List (ℕ × Event)). LacksUngiven owner.made l) is lacks) (subst (λ (b : Bounds). IsLegal b (events owner.seen)) limits log.legal) log.tags)

pub returns-in-Ok-told-clause-history : goal.returns-in-Ok-told-clause-history
returns-in-Ok-told-clause-history g c =
    closed_history c.in-Ok.desk c.args.shared.fixed c.in-Ok.ensures.fixed c.requires.limits c.stands.ensures.legal c.stands.ensures.short c.stands.ensures.in_order

pub returns-in-Ok-told-clause-loaded : goal.returns-in-Ok-told-clause-loaded
returns-in-Ok-told-clause-loaded g c =
    let x = c.in-Ok.ensures in
    let told = told_of c.args.shared.fixed c.args.plan c.in-Ok-told.summary c.run_load-told.new.owner c.in-Ok.desk.history c.requires.limits
    c.run_load-told.ensures.owner.log c.in-Ok-told.ensures.closes x.history x.no_other in
    told.1

pub returns-in-Ok-told-clause-finishes : goal.returns-in-Ok-told-clause-finishes
returns-in-Ok-told-clause-finishes g c =
    let x = c.in-Ok.ensures in
    let told = told_of c.args.shared.fixed c.args.plan c.in-Ok-told.summary c.run_load-told.new.owner c.in-Ok.desk.history c.requires.limits
    c.run_load-told.ensures.owner.log c.in-Ok-told.ensures.closes x.history x.no_other in
    told.2
