-- What a session knows where it answers want of memory: nothing that it has seen stands against the call.
use Rattle.std.specs.Prelude.{◌≡◌, ℕ, false, List, [], Contains}
use Rattle.blob_model.specs.History.{is_refused}
use Rattle.blob_model.specs.declared.call.Call.{Call}
use Rattle.blob_model.specs.declared.call.Call.TheVariants as Calls
use Rattle.request_form.specs.Session.{Session, outcome_at}
use Rattle.request_form.specs.Answers.{IsUnfinishedAt}
use Rattle.request_form.specs.declared.form.Fault.{Fault}
use Rattle.request_form.specs.declared.form.Fault.TheVariants as Faults
use Rattle.client_session.specs.Tickets.{OpenUpdate, IsHeldAt}

-- a fact, where the fault is want of memory
abbrev pub IfNoMemory : Fault → Type 0 → Type 0
IfNoMemory fault P = fault ≡ Faults.NoMemory → P

-- the store of all that the session has seen refuses nothing of the call
abbrev pub IsTakenNow : Session → Call → Type 0
IsTakenNow s call = is_refused (outcome_at s [] call) ≡ false

-- it refuses neither the version nor any of these ranges of it
pub record AreTakenNow (s : Session) (blob version : ℕ) (ranges : List (ℕ × ℕ)) : Type 0 where
  pub there : IsTakenNow s (Calls.Size blob version)
  pub each : (range : ℕ × ℕ) → Contains ranges range → IsTakenNow s (Calls.Read blob version range.0 range.1)

-- in that store the update is numbered, and isn't finished
abbrev pub IsLeft : Session → ℕ → ℕ → Type 0
IsLeft s blob version = IsUnfinishedAt s [] blob version

-- so it is with the update that is held under that number
pub record IsHeldLeft (held : List OpenUpdate) (number : ℕ) (s : Session) : Type 0 where
  pub index : ℕ
  pub at : IsHeldAt held number index
  pub left : IsLeft s at.update.ticket.blob at.update.ticket.version
