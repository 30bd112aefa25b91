use Rattle.std.specs.Prelude.{◌≡◌, ℕ, ◌+◌, ◌==◌, ◌&&◌, if◌then◌else◌, List, [], ◌∷◌, ◌++◌, Option, Some, None}
use Rattle.blob_model.specs.Limits.{Bounds}
use Rattle.blob_model.specs.Store.{Store}
use Rattle.blob_model.specs.Answer.{answer}
use Rattle.blob_model.specs.History.{caller_of, store_of}
use Rattle.blob_model.specs.declared.call.Call.{Call}
use Rattle.blob_model.specs.declared.call.Event.{Event}
use Rattle.blob_model.specs.declared.call.Outcome.{Outcome}

-- what no call changes: how much the store takes, and its page size
pub record Fixed : Type 0 where
  pub limits : Bounds
  pub page : ℕ

-- an update that its session has numbered and not yet finished
pub record HeldTicket : Type 0 where
  pub number : ℕ
  pub blob : ℕ
  pub version : ℕ

-- a session: its caller, the history that it has seen, the tickets that it holds, the number of its next one, and the most bytes
-- of an update
pub record Session : Type 0 where
  pub fixed : Fixed
  pub caller : ℕ
  pub seen : List Event
  pub tickets : List HeldTicket
  pub next : ℕ
  pub limit : ℕ

-- no events: nobody else is there
abbrev pub IsNobody : ℕ → List Event → Type 0
IsNobody caller others = others ≡ []

-- events of that caller alone
abbrev pub AllOwn : ℕ → List Event → Type 0
AllOwn caller [] = Unit {0}
AllOwn caller (e ∷ es) = (caller_of e ≡ caller) × AllOwn caller es

-- the store once more events have come
abbrev pub store_at : Session → List Event → Store
store_at s more = store_of s.fixed.limits (s.seen ++ more)

-- what the store answers a call once more events have come
abbrev pub outcome_at : Session → List Event → Call → Outcome
outcome_at s more call = (answer (store_at s more) s.caller call).1

-- the session once it has seen more
abbrev pub sees : Session → List Event → Session
sees s more = record { fixed = s.fixed; caller = s.caller; seen = s.seen ++ more; tickets = s.tickets; next = s.next; limit = s.limit }

-- the session once it holds a version under its next ticket
abbrev pub holds : Session → ℕ → ℕ → Session
holds s blob version = record {
  fixed = s.fixed;
  caller = s.caller;
  seen = s.seen;
  tickets = s.tickets ++ record { number = s.next; blob = blob; version = version } ∷ [];
  next = s.next + 1;
  limit = s.limit;
}

-- the ticket of that number among those that are held
abbrev pub ticket_at : List HeldTicket → ℕ → Option HeldTicket
ticket_at [] number = None
ticket_at (ticket ∷ tickets) number = if ticket.number == number then Some ticket else ticket_at tickets number

-- those tickets without the one of that number
abbrev pub without_ticket : List HeldTicket → ℕ → List HeldTicket
without_ticket [] number = []
without_ticket (ticket ∷ tickets) number = if ticket.number == number then tickets else ticket ∷ without_ticket tickets number

-- the session once it has given up the ticket of that number
abbrev pub drops : Session → ℕ → Session
drops s number = record { fixed = s.fixed; caller = s.caller; seen = s.seen; tickets = without_ticket s.tickets number; next = s.next; limit = s.limit }

-- those tickets without the first one of that version of the blob
abbrev pub without_version : List HeldTicket → ℕ → ℕ → List HeldTicket
without_version [] blob version = []
without_version (ticket ∷ tickets) blob version =
    if ticket.blob == blob && ticket.version == version then tickets else ticket ∷ without_version tickets blob version

-- the session once it has given up its ticket of that version, where it holds one
abbrev pub lets_go : Session → ℕ → ℕ → Session
lets_go s blob version =
    record { fixed = s.fixed; caller = s.caller; seen = s.seen; tickets = without_version s.tickets blob version; next = s.next; limit = s.limit }

-- the session with another limit on the bytes of an update
abbrev pub takes_up_to : Session → ℕ → Session
takes_up_to s limit = record { fixed = s.fixed; caller = s.caller; seen = s.seen; tickets = s.tickets; next = s.next; limit = limit }
