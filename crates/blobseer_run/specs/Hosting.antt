-- What the command `serve` promises: what its listener did, that its peers were served by sessions of one store, and the line that tells how many they were.
use Rattle.std.specs.Prelude.{◌≡◌, ◌⊎◌, ℕ, true, List, [], ◌∷◌, ◌++◌, IfSome, codes}
use Rattle.std.specs.Fmt.{decimal}
use Rattle.std.specs.Io.KnownBytes.{Appends}
use Rattle.faults.specs.Counts.{RoseBy}
use Rattle.blob_model.specs.declared.call.Event.{Event}
use Rattle.request_form.specs.Session.{Fixed}
use Rattle.version_manager.specs.Log.{IsHistory}
use Rattle.client_session.specs.Sessions.{StoreState, SessionState, session_of}
use Rattle.blob_server.specs.Serving.{Handing, TookPeers, FailedAfter, WasServed, ServedMany}
use Rattle.blob_server.specs.declared.server.ServeFault.{ServeFault}
use Rattle.blob_server.specs.declared.server.ServeFault.TheVariants as Faults
use Rattle.blobseer_run.specs.declared.status.Status.{Status}
use Rattle.blobseer_run.specs.declared.status.Status.TheVariants as Statuses
use Rattle.blobseer_run.specs.Status.{out_of_memory, listener_fault}
use Rattle.blobseer_run.specs.Writing.{WritesLine}
use Rattle.blobseer_run.specs.Outside.{Net, Outside, LeavesInput}

-- the line that tells the number of the connections that were served
abbrev pub served_line : ℕ → List ℕ
served_line peers = codes "served " ++ decimal peers ++ 10 ∷ []

-- how a server ends that was ended early
abbrev pub status_of : ServeFault → Status
status_of Faults.Listener = Statuses.ListenerFault
status_of Faults.NoMemory = Statuses.OutOfMemory

-- no peer was handed out, and so many faults were counted
pub record HandsOutNone (faults : ℕ) (old new : Handing) : Type 0 where
  pub handed : new.handed ≡ old.handed
  pub done : new.is_done ≡ old.is_done
  pub rose : RoseBy faults old.faults new.faults

-- it listens at that address, as far as its address is known
pub record ListensAt (address : List ℕ) (net : Net) : Type 0 where
  pub listens : net.listens ≡ true
  pub here : IfSome net.address (λ here. here ≡ address)

-- it listens as it did before
pub record ListensAsBefore (old new : Net) : Type 0 where
  pub listens : new.listens ≡ old.listens
  pub address : new.address ≡ old.address

-- One store, which keeps to this, served so many peers, each by a session of it, of which that is told. The store came to a history of a desk, and what a
-- session had seen when it let its peer go is a beginning of that history.
pub record ServedByStore {D P : Type 0} (Converses : SessionState D → P → SessionState D → Type 0) (fixed : Fixed) (peers : ℕ) : Type 0 where
  pub store : StoreState
  pub keeps_to : record { limits = store.fixed.limits; page = store.fixed.page_size } ≡ fixed
  pub history : List Event
  pub is_history : IsHistory fixed.page fixed.limits history
  pub served : ServedMany (WasServed (λ s. s.store) (λ s. (session_of s).seen) Converses store history) peers

-- How a server ended, by the address and the number of connections that it was told, by what it tells of so many peers that were served, by the status and by
-- the text that was written.
pub data Hosted (address : List ℕ) (connections : ℕ) (Served : ℕ → Type 0) (net net' : Net) (text : List ℕ) (writes writes' status : ℕ) : Type 0 where
  -- as many connections as were asked for were served, or fewer where the listener gave no more, and their number was told
  served : (peers : ℕ) → ListensAt address net' → TookPeers connections peers net.handing net'.handing → Served peers → WritesLine (served_line peers) text writes writes' status →
      Hosted address connections Served net net' text writes writes' status
  -- it couldn't listen, and listens as it did before
  deaf : (status ≡ listener_fault) → ListensAsBefore net net' → HandsOutNone 1 net.handing net'.handing → (text ≡ []) →
      Hosted address connections Served net net' text writes writes' status
  -- the listener failed after fewer peers than were asked for; these were served, and none was taken after that
  unserved : (status ≡ listener_fault) → ListensAt address net' → (failed : FailedAfter connections net.handing net'.handing) → Served failed.peers → (text ≡ []) →
      Hosted address connections Served net net' text writes writes' status
  -- no memory was found, before it listened or then for the sessions, and no peer was taken
  starved : (status ≡ out_of_memory) → ListensAsBefore net net' ⊎ ListensAt address net' → HandsOutNone 0 net.handing net'.handing → (text ≡ []) →
      Hosted address connections Served net net' text writes writes' status

-- Connections to that address were served, as many as that unless the listener gave no more, the output got the text, and the input was left alone.
pub record DidServe (address : List ℕ) (connections : ℕ) (Served : ℕ → Type 0) (old new : Outside) (status : ℕ) : Type 0 where
  pub text : List ℕ
  pub adds : Appends old.written new.written text
  pub ended : Hosted address connections Served old.net new.net text old.writes new.writes status
  pub input : LeavesInput old new
