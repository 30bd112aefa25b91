-- A file session as its clauses see it.
use Rattle.std.specs.Prelude.{◌≡◌, length, Result, Ok, Err}
use Rattle.turn_lock.specs.Shown.{PassView}
use Rattle.faults.specs.declared.no_memory.NoMemory.{NoMemory}
use Rattle.client_session.specs.Sessions.{SessionState, session_of, Continues}
use Rattle.file_names.specs.declared.tree.Entered.{Entered}
use Rattle.file_names.specs.declared.form.FileReply.{FileReply}
use Rattle.file_names.specs.declared.form.FileReply.TheVariants as Says
use Rattle.file_layer.specs.Files.{Files}

-- a session of the store, and a pass of the names
pub record FileState (D : Type 0) : Type 0 where
  pub session : SessionState D
  pub names : PassView Entered (Unit {0})

-- as the definition of its answers sees it
abbrev pub files_of : {D : Type 0} → FileState D → Files
files_of s = record { store = session_of s.session; providers = length s.session.store.fixed.houses; by = s.names.caller; names = s.names.seen }

-- The store, the names and the callers stay, and what was seen only grows.
pub record GoesOn {D : Type 0} (old new : FileState D) : Type 0 where
  pub session : Continues old.session new.session
  pub names : new.names ≡ record old.names { seen = new.names.seen; turns = new.names.turns }

-- the reply that a line got: where no memory was found for the names, or for what is said of them, it isn't said
abbrev pub said_of : Result FileReply NoMemory → FileReply
said_of (Ok reply) = reply
said_of (Err none) = Says.Unsaid
