-- What a session that waits has done so far: it has seen events of others, and nothing else.
use Rattle.std.specs.Prelude.{◌≡◌, ◌≤◌, List}
use Rattle.blob_model.specs.History.{AllOther}
use Rattle.blob_model.specs.declared.call.Event.{Event}
use Rattle.turn_lock.specs.History.{Begins}
use Rattle.request_form.specs.Session.{sees}
use Rattle.client_session.specs.Sessions.{SessionState, session_of}

pub record Waits {D : Type 0} (old new : SessionState D) : Type 0 where
  pub others : List Event
  pub is_gap : AllOther old.caller others
  pub seen : session_of new ≡ sees (session_of old) others
  pub rest : new ≡ record old { log = new.log; turns = new.turns }
  pub turns : old.turns ≤ new.turns
  pub begins : Begins old.log new.log
