-- What a connection was served.
use Rattle.std.proofs.Common.{◌≡◌, List, [], ◌++◌, ℕ, refl, ap, subst}
use Rattle.std.specs.Prelude.{Option, None, Some, IfSome, sum_by}
use Rattle.std.specs.Io.KnownBytes.{Appends}
use Rattle.faults.specs.Counts.{RoseBy}
use Rattle.blob_model.specs.History.{AllOther}
use Rattle.ports.specs.Listener.{IsFresh}
use Rattle.request_form.specs.Session.{Session}
use Rattle.request_form.specs.HangUp.{GivenUpCounts, HungUp}
use Rattle.request_form.specs.Laws.{RunsMakeOwnEvents, HangUpsHold}
use Rattle.frame_wire.specs.Frames.{heard}
use Rattle.frame_wire.specs.Fed.{Fed, heard_by}
use Rattle.frame_wire.specs.Said.{said}
use Rattle.server_core.specs.declared.flow.End.{End}
use Rattle.server_core.specs.declared.flow.End.TheVariants as Ends
use Rattle.server_core.specs.Progress.{Point}
use Rattle.server_core.specs.Served.{Input, Served, end_read_faults, end_write_faults, end_ends}
use Rattle.server_core.proofs.Served.{Served-none}
use Rattle.client_session.specs.Sessions.{SessionState, session_of}
use Rattle.blob_server.specs.Peers.{connection_limit, ServedFrames, IsIdle, Converses}
use Rattle.blob_server.specs.Serving.{IsBeginningOf}
use Rattle.blob_server.proofs.Beginnings.{begins_on}

-- nothing was taken for want of memory
pub served_none : (old : Point) (input : Input) → Served said old heard input input connection_limit old Ends.NoMemory
served_none old input = Served-none said old heard input connection_limit refl

-- a dialect that was fed nothing hears the whole stream
pub served_new : (old new : Point) (before after : Input) (end : End) (fed : Fed) → fed ≡ record { version = None; bytes = [] }
    → Served said old (heard_by fed) before after connection_limit new end → Served said old heard before after connection_limit new end
served_new old new before after end fed none served = subst (λ (f : Fed). Served said old (heard_by f) before after connection_limit new end) none served

-- what the session had seen before, it has seen after its answers and after it hung up
pub seen_still : RunsMakeOwnEvents → HangUpsHold → (old mid : Point) (before after : Input) (end : End) (counts : GivenUpCounts) (new : Session)
    → Served said old heard before after connection_limit mid end → HungUp AllOther mid.session counts new → IsBeginningOf old.session.seen new.seen
seen_still runs hold old mid before after end counts new served hung_up =
    let run = runs old.session served.items served.progress.replies mid.session served.progress.run in
    let gave_up = (hold mid.session counts new hung_up).makes in
    begins_on old.session.seen mid.session.seen new.seen (run.more, run.seen) (gave_up.more, gave_up.seen)

-- bytes that were known to be none before are known after it
told_since : (old new : Option (List ℕ)) (bytes : List ℕ) → IfSome old (λ b. b ≡ []) → Appends old new bytes → IfSome old (λ _. new ≡ Some bytes)
told_since None new bytes none grew = tt
told_since (Some xs) None bytes none grew = absurd grew
told_since (Some xs) (Some ys) bytes none grew = ap (λ (l : List ℕ). Some l) (subst (λ (l : List ℕ). ys ≡ l ++ bytes) none grew)

-- what became of a peer that is this one, and was new
pub converses : {D P : Type 0} (faults : D → ℕ) (given left written : P → Option (List ℕ)) (ends read_faults write_faults : P → ℕ) (old new : SessionState D) (peer before after : P) (end : End)
    → before ≡ peer → IsFresh (given before) (written before) → IsIdle old.store old
    → ServedFrames (record { session = session_of old; faults = sum_by faults old.doors; written = written before }) (record { given = given before; left = left before; ends = ends before })
    (record { given = given after; left = left after; ends = ends after }) (record { session = session_of new; faults = sum_by faults new.doors; written = written after }) end
    → RoseBy (end_read_faults end) (read_faults before) (read_faults after) → RoseBy (end_write_faults end) (write_faults before) (write_faults after) → RoseBy (end_ends end) (ends before) (ends after)
    → Converses faults given left written ends read_faults write_faults old peer new
converses faults given left written ends read_faults write_faults old new peer before after end is fresh idle served reads writes ended =
    subst (λ p. Converses faults given left written ends read_faults write_faults old p new) is (record {
      fresh = fresh;
      idle = idle;
      after = after;
      end = end;
      served = served;
      gave = told_since (given before) (given after) served.served.taken fresh.0 served.served.takes.given;
      got = told_since (written before) (written after) served.served.progress.out fresh.1 served.served.progress.adds;
      faults_read = reads;
      faults_written = writes;
      ended = ended;
    })
