-- What one connection is served, and what its session keeps.
use Rattle.std.specs.Prelude.{◌≡◌, ℕ, Option, Some, IfSome, List, [], sum_by}
use Rattle.faults.specs.Counts.{RoseBy}
use Rattle.blob_model.specs.History.{AllOther}
use Rattle.ports.specs.Listener.{IsFresh}
use Rattle.request_form.specs.Session.{Session}
use Rattle.request_form.specs.HangUp.{GivenUpCounts, HungUp}
use Rattle.request_form.specs.Answers.{max_update}
use Rattle.frame_wire.specs.Frames.{heard}
use Rattle.frame_wire.specs.Said.{said}
use Rattle.server_core.specs.Progress.{Point}
use Rattle.server_core.specs.Served.{Input, Served, end_read_faults, end_write_faults, end_ends}
use Rattle.server_core.specs.declared.flow.End.{End}
use Rattle.client_session.specs.Sessions.{StoreState, SessionState, session_of}

-- the most bytes that are taken of a connection
abbrev pub connection_limit : ℕ
connection_limit = 4294967296

-- The frames of a connection were answered from one point on, and then the session gave up the tickets that it held. What the doors counted meanwhile is
-- at least the page faults of that.
pub record ServedFrames (old : Point) (before after : Input) (new : Point) (end : End) : Type 0 where
  pub mid : Session
  pub faults : ℕ
  pub served : Served said old heard before after connection_limit (record { session = mid; faults = faults; written = new.written }) end
  pub counts : GivenUpCounts
  pub hung_up : HungUp AllOther mid counts new.session
  pub rose : RoseBy counts.page_fault faults new.faults

-- the session is of that store, holds no ticket, its next one is number 1, and its updates have as many bytes as at first
pub record IsIdle {D : Type 0} (store : StoreState) (session : SessionState D) : Type 0 where
  pub of_store : session.store ≡ store
  pub none_held : session.held ≡ []
  pub first_next : session.next ≡ 1
  pub first_limit : session.limit ≡ max_update

-- what a session's doors have counted
abbrev pub faults_of_doors : {D : Type 0} → (D → ℕ) → SessionState D → ℕ
faults_of_doors faults session = sum_by faults session.doors

-- What became of a session and of a new peer that it served, of which these are the meanings. Nothing was read of the peer yet and nothing was written to it,
-- as far as it told, and the session held no ticket. The connection came to this end, its frames were answered as a session's requests are, and the peer's
-- counts rose as the end says. Where the peer tells, its reads gave the bytes that were answered, and its writes took the replies to them.
pub record Converses {D P : Type 0} (faults : D → ℕ) (given left written : P → Option (List ℕ)) (ends read_faults write_faults : P → ℕ) (old : SessionState D) (before : P)
    (new : SessionState D) : Type 0 where
  pub fresh : IsFresh (given before) (written before)
  pub idle : IsIdle old.store old
  pub after : P
  pub end : End
  pub served : ServedFrames (record { session = session_of old; faults = sum_by faults old.doors; written = written before }) (record { given = given before; left = left before; ends = ends before })
      (record { given = given after; left = left after; ends = ends after }) (record { session = session_of new; faults = sum_by faults new.doors; written = written after }) end
  pub gave : IfSome (given before) (λ _. given after ≡ Some served.served.taken)
  pub got : IfSome (written before) (λ _. written after ≡ Some served.served.progress.out)
  pub faults_read : RoseBy (end_read_faults end) (read_faults before) (read_faults after)
  pub faults_written : RoseBy (end_write_faults end) (write_faults before) (write_faults after)
  pub ended : RoseBy (end_ends end) (ends before) (ends after)
