-- The store that a command works with.
use Rattle.std.specs.Prelude.{◌≡◌, []}
use Rattle.blob_model.specs.Limits.{Bounds}
use Rattle.blob_model.specs.declared.call.Event.{Event}
use Rattle.turn_lock.specs.Shown.{OwnerView}
use Rattle.version_manager.specs.declared.journal.DeskFixed.{DeskFixed}
use Rattle.client_session.specs.Sessions.{StoreState, IsOwnerOf}
use Rattle.settings.specs.Values.{SettingsValues}

-- A new store with these limits and with the settings' page size, providers and replicas, and the owner of its passes, who made none yet.
pub record IsNewStore (settings : SettingsValues) (bounds : Bounds) (store : StoreState) (owner : OwnerView Event DeskFixed) : Type 0 where
  pub owned : IsOwnerOf store owner
  pub no_pass : owner.made ≡ 0
  pub none_out : owner.out ≡ 0
  pub none_seen : owner.seen ≡ []
  pub limits : store.fixed.limits ≡ bounds
  pub page_size : store.fixed.page_size ≡ settings.page
  pub providers : store.providers ≡ settings.providers
  pub replicas : store.replicas ≡ settings.replicas
