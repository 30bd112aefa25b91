use Rattle.std.proofs.Common.{ℕ, List, ◌+◌, ◌*◌, refl, ◌∙◌, ap}
use Rattle.blob_model.specs.Limits.{greatest}
use Rattle.blob_model.specs.declared.call.Event.{Event}
use Rattle.version_manager.specs.Log.{IsHistory}
use Rattle.settings.specs.Values.{SettingsValues}
use Rattle.workload_law.specs.Load.{IsLoad}
use Rattle.workload_law.specs.Said.{said}
use Rattle.workload_law.specs.declared.plan.LoadPlan.{LoadPlan}
use Rattle.workload_run.specs.Stages.{AreFinishedByOwn}
use Rattle.blobseer_run.specs.Loading.{plan_of, CameToLoad, DidLoad}
use Rattle.blobseer_run.proofs.Lendings.{all_sessions, ended_early}
use Rattle.blobseer_run.proofs.Measures.{whole_there, ended_there, at_plan}
use Rattle.blobseer_run.proofs.Early.{ended_so}
use Rattle.blobseer_run.proofs.loading.load_store.Goals as goal

-- what the closed store came to
came_of : (page : ℕ) (plan : LoadPlan) (history : List Event) → IsHistory page greatest history → IsLoad plan history → AreFinishedByOwn plan history → CameToLoad page plan history
came_of page plan history is_history loaded finishes = record { is_history = is_history; loaded = loaded; finishes = finishes }

pub returns-in-Ok-clause-did : goal.returns-in-Ok-clause-did
returns-in-Ok-clause-did g c =
    let lines = ap (said _) c.in-Ok.ensures.summary in
    let told = c.tell_lines.ensures.told _ c.load_lines.ensures in
    let came = came_of _ _ _ c.in-Ok.ensures.history c.in-Ok.ensures.loaded c.in-Ok.ensures.finishes in
    let did = whole_there _ _ _ _ (record { given = refl; left = refl; reads = refl; ends = refl }) refl _ _ lines c.in-Ok.desk.history came told in
    at_plan DidLoad _ _ _ _ _ _ _ c.requires.store.page_size (ap (λ (s : SettingsValues). plan_of s) c.settings.view_is) did

pub returns-in-Ok-clause-lent : goal.returns-in-Ok-clause-lent
returns-in-Ok-clause-lent g c =
    let many = ap (λ n. (c.args.settings.now.workers + 2) * n) c.requires.store.providers in
    let of_settings = ap (λ (s : SettingsValues). (s.workers + 2) * c.args.shared.providers) c.settings.view_is in
    all_sessions g.M.DoorMaker.hands_out g.M.DoorMaker.takes_back _ _ _ _ _ (of_settings ∙ many) c.in-Ok.ensures.lent

pub returns-in-Err-clause-did : goal.returns-in-Err-clause-did
returns-in-Err-clause-did g c =
    ended_there _ _ _ _ (record { given = refl; left = refl; reads = refl; ends = refl }) refl refl _ (ended_so _ c.in-Err.fault _ _ _ c.status_of.ensures c.in-Err.ensures.early)

pub returns-in-Err-clause-lent : goal.returns-in-Err-clause-lent
returns-in-Err-clause-lent g c =
    ended_early g.M.DoorMaker.hands_out g.M.DoorMaker.takes_back _ _ _ _ _ _ (ended_so _ c.in-Err.fault _ _ _ c.status_of.ensures c.in-Err.ensures.early) c.in-Err.ensures.lent
