-- When a session looks first whether the store would refuse an update.
use Rattle.std.specs.Prelude.{◌≡◌, ℕ, ◌+◌, Bool, true, false, Result, Ok, Err}
use Rattle.request_form.specs.declared.form.Fault.{Fault}
use Rattle.request_form.specs.declared.form.Fault.TheVariants as Faults
use Rattle.client_session.specs.Sessions.{SessionState}
use Rattle.client_session.specs.TurnCounts.{look_turns}

-- Whether it looks first at its next updates, after one with that fault. It does where the store refused this one, and doesn't where it was
-- numbered. Where it was neither, by the session's own refusal, a lost page or want of memory, that stays as it was.
abbrev pub looks_after : Bool → Fault → Bool
looks_after before (Faults.NoBlob blob) = true
looks_after before (Faults.OffsetPastSize offset size) = true
looks_after before (Faults.BlobTooBig end limit) = true
looks_after before (Faults.TooManyVersions limit) = true
looks_after before (Faults.TooManyOpen limit) = true
looks_after before (Faults.Already version) = false
looks_after before (Faults.NoMemoryTicket ticket) = false
looks_after before fault = before

-- and after one that may have been done
abbrev pub looks_then : {A : Type 0} → Bool → Result A Fault → Bool
looks_then before (Ok said) = false
looks_then before (Err fault) = looks_after before fault

-- A page of an update of that many bytes is lost: the first look was its one turn, and where none was taken nothing more was seen.
pub record LostBehindLook {D : Type 0} (s : SessionState D) (bytes : ℕ) (s' : SessionState D) : Type 0 where
  pub turns : s'.turns ≡ s.turns + look_turns s.looks_first s.store.fixed.page_size bytes
  pub unseen : look_turns s.looks_first s.store.fixed.page_size bytes ≡ 0 → s'.log ≡ s.log
