-- What a watch's keeper keeps from refresh to refresh, and why a refresh isn't done.
use Rattle.std.specs.Prelude.{◌≡◌, ◌+◌, [], ◌∷◌, length, None, All, IfErr, OnOk}
use Rattle.blob_model.specs.Limits.{greatest}
use Rattle.blob_model.specs.Store.{blob_at}
use Rattle.blob_model.specs.History.{store_of}
use Rattle.version_manager.specs.Log.{events}
use Rattle.request_form.specs.declared.form.Fault.{Fault}
use Rattle.request_form.specs.declared.form.Fault.TheVariants as Faults
use Rattle.client_session.specs.Sessions.{SessionState}
use Rattle.read_board.specs.declared.refresh.Refresh.{Refresh}
use Rattle.read_board.specs.Keeping.{KeeperState}
use Rattle.read_board.specs.Refreshing.{AllHold}
use Rattle.workload_run.specs.Idling.{Idles}
use Rattle.workload_run.specs.Callers.{Told}
use Rattle.workload_law.specs.declared.watch_plan.WatchPlan.{WatchPlan}

-- The keeper may refresh by this session, and all its refreshes are of blob 1.
pub record MayRefresh {D : Type 0} (k : KeeperState) (s : SessionState D) : Type 0 where
  pub store : k.board.store ≡ s.store ∷ []
  pub limits : s.store.fixed.limits ≡ greatest
  pub hold : AllHold s.store.fixed s.log k.all
  pub of_one : All (λ (r : Refresh). r.blob ≡ 1) k.all

-- why a refresh isn't done: no memory was found, or the blob isn't there in what the session has seen
pub data RefreshHindered {D : Type 0} (s' : SessionState D) (fault : Fault) : Type 0 where
  starved : fault ≡ Faults.NoMemory → RefreshHindered s' fault
  missing : fault ≡ Faults.NoBlob 1 → blob_at (store_of greatest (events s'.log)) 1 ≡ None → RefreshHindered s' fault

-- so far the keeper has refreshed by this session
pub record Refreshes {D : Type 0} (k k' : KeeperState) (s s' : SessionState D) : Type 0 where
  pub may : MayRefresh k' s'
  pub board : k'.board ≡ k.board
  pub idles : Idles s s'
  pub rest : s' ≡ record s { log = s'.log; turns = s'.turns }

-- a keeper that was handed its session has ended: where it came to its end, it refreshed as often as the plan has operations
pub record HasKept {D : Type 0} (plan : WatchPlan) (told : Told) (k k' : KeeperState) (s s' : SessionState D) : Type 0 where
  pub count : OnOk told (length k'.all ≡ length k.all + plan.ops)
  pub hindered : IfErr told (RefreshHindered s')
  pub refreshes : Refreshes k k' s s'
