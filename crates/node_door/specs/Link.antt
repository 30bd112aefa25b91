-- Where a link stands, and what went over it.
use Rattle.std.specs.Prelude.{◌≡◌, ◌⊎◌, ℕ, ◌+◌, ◌<◌, ◌≤◌, Bool, true, false, List, [], ◌++◌, length, take, drop, Option, Some, None}
use Rattle.std.specs.Io.KnownBytes.{Appends, Consumes}
use Rattle.faults.specs.Counts.{RoseBy}
use Rattle.page_node.specs.declared.form.NodeReply.TheVariants as Replies
use Rattle.page_node.specs.declared.form.NodeFault.TheVariants as Faults
use Rattle.node_door.specs.declared.wire.Exchanged.{Exchanged}
use Rattle.node_door.specs.declared.wire.Exchanged.TheVariants as Exchange
use Rattle.page_node.specs.Said.{said}
use Rattle.page_node.specs.Grammar.{is_reply_frame, IsOutside}

-- a link: the bytes that it gave, those that it has left and those that were written to it, where it tells them, and its counts
pub record LinkAt : Type 0 where
  pub given : Option (List ℕ)
  pub left : Option (List ℕ)
  pub written : Option (List ℕ)
  pub read_faults : ℕ
  pub write_faults : ℕ
  pub ends : ℕ

-- these bytes were written to the link, and it gave those; no count fell
pub record Passed (sent got : List ℕ) (before after : LinkAt) : Type 0 where
  pub written : Appends before.written after.written sent
  pub given : Appends before.given after.given got
  pub left : Consumes before.left after.left got
  pub read_faults : before.read_faults ≤ after.read_faults
  pub write_faults : before.write_faults ≤ after.write_faults
  pub ends : before.ends ≤ after.ends

-- a write of the link failed
abbrev pub WriteBroke : LinkAt → LinkAt → Type 0
WriteBroke before after = RoseBy 1 before.write_faults after.write_faults

-- a read of the link failed, or it ended
abbrev pub ReadBroke : LinkAt → LinkAt → Type 0
ReadBroke before after = RoseBy 1 before.read_faults after.read_faults ⊎ RoseBy 1 before.ends after.ends

-- the link failed, or ended
abbrev pub Broke : LinkAt → LinkAt → Type 0
Broke before after = WriteBroke before after ⊎ ReadBroke before after

-- ---- what is written and read

-- some bytes were written, or a front of them, since a write failed
pub record Sends (frame : List ℕ) (before after : LinkAt) (ok : Bool) : Type 0 where
  pub sent : List ℕ
  pub rest : List ℕ
  pub joins : frame ≡ sent ++ rest
  pub passed : Passed sent [] before after
  pub whole : ok ≡ true → rest ≡ []
  pub part : ok ≡ false → (0 < length rest) × WriteBroke before after

-- a read put so many bytes into a buffer at a place, or none, since the link failed or ended
abbrev pub TakesAt : List ℕ → ℕ → List ℕ → LinkAt → LinkAt → Option ℕ → Type 0
TakesAt old at new before after (Some n) = (0 < n) × (at + n ≤ length old) × (take at new ≡ take at old) × Passed [] (take n (drop at new)) before after
TakesAt old at new before after None = (take at new ≡ take at old) × Passed [] [] before after × ReadBroke before after

-- a buffer was filled by reads, unless the link failed or ended before
pub record Fills (buf : List ℕ) (before after : LinkAt) (ok : Bool) : Type 0 where
  pub got : List ℕ
  pub passed : Passed [] got before after
  pub whole : ok ≡ true → got ≡ buf
  pub broke : ok ≡ false → ReadBroke before after

-- so many bytes were read, and are those that are wanted or not, unless the link failed or ended before
abbrev pub AreCompared : ℕ → List ℕ → List ℕ → LinkAt → LinkAt → Option Bool → Type 0
AreCompared count want got before after (Some same) = (length got ≡ count) × (same ≡ true → got ≡ want) × (same ≡ false → (got ≡ want) → ⊥)
AreCompared count want got before after None = ReadBroke before after

-- so many of the bytes were read, and are a front of those that are wanted, or can't be any more
pub record ComparesSoFar (count : ℕ) (want : List ℕ) (at : ℕ) (same : Bool) (before after : LinkAt) : Type 0 where
  pub got : List ℕ
  pub passed : Passed [] got before after
  pub many : length got ≡ at
  pub alike : same ≡ true → (count ≡ length want) × (got ≡ take at want)
  pub unlike : same ≡ false → (rest : List ℕ) → length got + length rest ≡ count → got ++ rest ≡ want → ⊥

pub record Compares (count : ℕ) (want : List ℕ) (before after : LinkAt) (same : Option Bool) : Type 0 where
  pub got : List ℕ
  pub passed : Passed [] got before after
  pub compared : AreCompared count want got before after same

-- ---- replies

-- a reply that isn't one of those that are looked for
pub record IsOther (want frame : List ℕ) : Type 0 where
  pub reply : is_reply_frame frame ≡ true
  pub not_kept : (id : ℕ) → frame ≡ said (Replies.Kept id) → ⊥
  pub not_wanted : frame ≡ said (Replies.Given want) → ⊥
  pub not_memory : frame ≡ said (Replies.Refused Faults.NoMemory) → ⊥

-- what the bytes of a reply tell
abbrev pub Tells : List ℕ → List ℕ → Exchanged → Type 0
Tells want got (Exchange.Kept id) = got ≡ said (Replies.Kept id)
Tells want got Exchange.Same = (got ≡ said (Replies.Given want)) × (is_reply_frame got ≡ true)
Tells want got Exchange.NoMemory = got ≡ said (Replies.Refused Faults.NoMemory)
Tells want got Exchange.Other = IsOther want got
Tells want got Exchange.Broken = IsOutside got

-- the same of a reply that is read, where the link may have failed or ended
abbrev pub IsHeard : List ℕ → List ℕ → LinkAt → LinkAt → Exchanged → Type 0
IsHeard want got before after Exchange.Broken = ReadBroke before after ⊎ IsOutside got
IsHeard want got before after exchanged = Tells want got exchanged

-- bytes were read behind these, and all of them tell this
pub record Hears (want front : List ℕ) (before after : LinkAt) (exchanged : Exchanged) : Type 0 where
  pub got : List ℕ
  pub passed : Passed [] got before after
  pub heard : IsHeard want (front ++ got) before after exchanged

-- a frame was written and a reply read
abbrev pub IsExchanged : List ℕ → List ℕ → List ℕ → List ℕ → LinkAt → LinkAt → Exchanged → Type 0
IsExchanged frame want sent got before after Exchange.Broken =
    ((rest : List ℕ) × (frame ≡ sent ++ rest) × (got ≡ []) × WriteBroke before after) ⊎ (sent ≡ frame) × (ReadBroke before after ⊎ IsOutside got)
IsExchanged frame want sent got before after exchanged = (sent ≡ frame) × Tells want got exchanged

pub record Exchanges (frame want : List ℕ) (before after : LinkAt) (exchanged : Exchanged) : Type 0 where
  pub sent : List ℕ
  pub got : List ℕ
  pub passed : Passed sent got before after
  pub comes : IsExchanged frame want sent got before after exchanged
