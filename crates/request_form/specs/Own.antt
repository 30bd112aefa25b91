-- What a request, by its reply, makes of a session's own events.
use Rattle.std.specs.Prelude.{◌≡◌, ℕ, List, [], ◌∷◌, ◌++◌, Option, Some, None}
use Rattle.blob_model.specs.History.{events_by, event_of}
use Rattle.blob_model.specs.declared.call.Place.{Place}
use Rattle.blob_model.specs.declared.call.Call.{Call}
use Rattle.blob_model.specs.declared.call.Event.{Event}
use Rattle.blob_model.specs.declared.call.Event.TheVariants as Events
use Rattle.request_form.specs.declared.form.Request.{Request}
use Rattle.request_form.specs.declared.form.Reply.{Reply}
use Rattle.request_form.specs.declared.form.Reply.TheVariants as Replies
use Rattle.request_form.specs.declared.form.Fault.TheVariants as Faults
use Rattle.request_form.specs.declared.form.Heard.{Heard}
use Rattle.request_form.specs.declared.form.Heard.TheVariants.{Asked, Wrong}
use Rattle.request_form.specs.Session.{Session, HeldTicket, ticket_at}
use Rattle.request_form.specs.Answers.{Gap, Class, class_of}
use Rattle.request_form.specs.Transcript.{Run}

-- a call that adds a blob: its event, unless it was refused
abbrev pub add_made : ℕ → Call → Reply → List Event
add_made caller call (Replies.Refused fault) = []
add_made caller call _ = event_of caller call

-- An update: its numbering and its finish. Where it is held, or others finished it, the numbering alone.
abbrev pub update_made : ℕ → ℕ → Place → List ℕ → Reply → List Event
update_made caller blob place bytes (Replies.Appended version at size) = Events.Assign caller blob place bytes ∷ Events.Finish caller blob version ∷ []
update_made caller blob place bytes (Replies.Wrote version at size) = Events.Assign caller blob place bytes ∷ Events.Finish caller blob version ∷ []
update_made caller blob place bytes (Replies.AppendStarted ticket version at size) = Events.Assign caller blob place bytes ∷ []
update_made caller blob place bytes (Replies.WriteStarted ticket version at size) = Events.Assign caller blob place bytes ∷ []
update_made caller blob place bytes (Replies.Refused (Faults.NoMemoryTicket ticket)) = Events.Assign caller blob place bytes ∷ []
update_made caller blob place bytes (Replies.Refused (Faults.Already version)) = Events.Assign caller blob place bytes ∷ []
update_made caller blob place bytes _ = []

-- a finish of that version
abbrev pub finish_made : ℕ → ℕ → ℕ → Reply → List Event
finish_made caller blob version (Replies.Finished published) = Events.Finish caller blob version ∷ []
finish_made caller blob version (Replies.Repaired published) = Events.Finish caller blob version ∷ []
finish_made caller blob version _ = []

-- the finish by a number, of the ticket that is held under it
abbrev pub held_made : ℕ → Option HeldTicket → Reply → List Event
held_made caller None reply = []
held_made caller (Some ticket) reply = finish_made caller ticket.blob ticket.version reply

abbrev pub class_made : Session → Class → Reply → List Event
class_made s (Class.adds call) reply = add_made s.caller call reply
class_made s (Class.starts blob place bytes) reply = update_made s.caller blob place bytes reply
class_made s (Class.updates blob place bytes) reply = update_made s.caller blob place bytes reply
class_made s (Class.reports number) reply = held_made s.caller (ticket_at s.tickets number) reply
class_made s (Class.repairs blob version) reply = finish_made s.caller blob version reply
class_made s _ reply = []

-- the events that a session's request with this reply made, in order
abbrev pub events_made : Session → Request → Reply → List Event
events_made s request reply = class_made s (class_of request) reply

-- a wrong item makes none
abbrev pub item_made : Session → Heard → Reply → List Event
item_made s (Asked request) reply = events_made s request reply
item_made s (Wrong fault) reply = []

-- the events that the items of a run made, one item after another
abbrev pub made_by : (gap : Gap) (s : Session) (items : List Heard) (replies : List Reply) (s' : Session) → Run gap s items replies s' → List Event
made_by gap s [] [] s' run = []
made_by gap s (item ∷ items) (reply ∷ replies) s' (mid, first, rest) = item_made s item reply ++ made_by gap mid items replies s' rest
made_by gap s [] (reply ∷ replies) s' none = absurd none
made_by gap s (item ∷ items) [] s' none = absurd none

-- The session goes on as another that has seen more. Of its own events, these have come, and no others.
pub record Makes (s : Session) (own : List Event) (s' : Session) : Type 0 where
  pub fixed : s'.fixed ≡ s.fixed
  pub caller : s'.caller ≡ s.caller
  pub more : List Event
  pub seen : s'.seen ≡ s.seen ++ more
  pub own_after : events_by s.caller s'.seen ≡ events_by s.caller s.seen ++ own
