-- What a stream of requests is about, and where it stands.
use Rattle.std.specs.Prelude.{ℕ, List}
use Rattle.blob_model.specs.History.{AllOther}
use Rattle.request_form.specs.Session.{Session}
use Rattle.request_form.specs.Stream.{IsWellHeard}
use Rattle.request_form.specs.Transcript.{ItemReply, is_last, item_faults}
use Rattle.request_form.specs.declared.form.Reply.{Reply}
use Rattle.request_form.specs.declared.form.Heard.{Heard}
use Rattle.server_core.specs.Talk.{Talk, PointOf}

-- requests to a session, whose replies are written so
abbrev pub requests : (Reply → List ℕ) → Talk Heard
requests said = record {
  Reply = Reply;
  Session = Session;
  Answers = ItemReply AllOther;
  is_last = is_last;
  fault_count = item_faults;
  said = said;
  IsWell = IsWellHeard;
}

-- where a stream of requests stands
abbrev pub Point : Type 0
Point = PointOf Session
