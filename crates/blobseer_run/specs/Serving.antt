-- What a run's session made of its script.
use Rattle.std.specs.Prelude.{◌≡◌, ℕ, List, Option}
use Rattle.blob_model.specs.declared.call.Event.{Event}
use Rattle.request_form.specs.Session.{Fixed, Session, AllOwn}
use Rattle.request_form.specs.Transcript.{first_session}
use Rattle.script_text.specs.Lines.{heard}
use Rattle.script_text.specs.Said.{said}
use Rattle.server_core.specs.Progress.{Point}
use Rattle.server_core.specs.Served.{Input, Served}
use Rattle.server_core.specs.declared.flow.End.{End}
use Rattle.blobseer_run.specs.Conversation.{input_limit}

-- The lines of a script were served from a point on, and in the end the session has seen these events.
pub record ServedLines (old : Point) (before after : Input) (seen : List Event) (faults : ℕ) (written : Option (List ℕ)) (end : End) : Type 0 where
  pub last : Session
  pub sees : last.seen ≡ seen
  pub served : Served said old heard before after input_limit (record { session = last; faults = faults; written = written }) end

-- They were served by the first session of a store that keeps to this, and nobody else was there.
pub record ServedByOne (fixed : Fixed) (before after : Input) (faults faults' : ℕ) (written written' : Option (List ℕ)) (end : End) : Type 0 where
  pub seen : List Event
  pub own : AllOwn 1 seen
  pub lines : ServedLines (record { session = first_session fixed 1; faults = faults; written = written }) before after seen faults' written' end
