-- Sessions that enter nothing.
use Rattle.std.specs.Prelude.{◌≡◌}
use Rattle.blob_model.specs.History.{events_by}
use Rattle.version_manager.specs.Log.{events}
use Rattle.client_session.specs.Sessions.{SessionState, Continues}

-- the session went on and entered nothing
pub record Idles {D : Type 0} (old new : SessionState D) : Type 0 where
  pub none : events_by old.caller (events new.log) ≡ events_by old.caller (events old.log)
  pub goes_on : Continues old new
