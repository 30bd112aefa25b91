-- A session that was just made.
use Rattle.std.specs.Prelude.{◌≡◌, ℕ, ◌+◌, List, [], sum_by}
use Rattle.blob_model.specs.declared.call.Event.{Event}
use Rattle.version_manager.specs.declared.journal.DeskFixed.{DeskFixed}
use Rattle.turn_lock.specs.History.{entries_by}
use Rattle.turn_lock.specs.Shown.{OwnerView}
use Rattle.request_form.specs.Answers.{max_update}
use Rattle.client_session.specs.Sessions.{StoreState, SessionState}

-- The session is of that store, and works with the owner's next pass: it has seen what the owner has, where its caller has no
-- entry. It holds no ticket, its updates have at most as many bytes as at first, and its doors have counted no fault.
pub record IsNewSession {D : Type 0} (faults : D → ℕ) (store : StoreState) (owner : OwnerView Event DeskFixed) (session : SessionState D) : Type 0 where
  pub of_store : session.store ≡ store
  pub caller : session.caller ≡ owner.made + 1
  pub log : session.log ≡ owner.seen
  pub none : entries_by session.caller session.log ≡ []
  pub none_held : session.held ≡ []
  pub first_next : session.next ≡ 1
  pub limit : session.limit ≡ max_update
  pub no_fault : sum_by faults session.doors ≡ 0

-- The session is of that store, and works with the owner's next pass: it has seen what the owner has by then, where its caller has no
-- entry. It holds no ticket, its updates have at most as many bytes as at first, and it has the doors of another session.
pub record IsRenewed {D : Type 0} (store : StoreState) (owner : OwnerView Event DeskFixed) (seen : List (ℕ × Event)) (ended session : SessionState D) : Type 0 where
  pub of_store : session.store ≡ store
  pub caller : session.caller ≡ owner.made + 1
  pub log : session.log ≡ seen
  pub none : entries_by session.caller session.log ≡ []
  pub none_held : session.held ≡ []
  pub first_next : session.next ≡ 1
  pub limit : session.limit ≡ max_update
  pub doors : session.doors ≡ ended.doors
