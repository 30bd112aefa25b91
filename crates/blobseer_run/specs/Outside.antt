-- What stands outside a command, before it and after it.
use Rattle.std.specs.Prelude.{◌≡◌, ℕ, ◌+◌, ◌-◌, ◌^◌, ◌<◌, ◌≤◌, Bool, List, Option}
use Rattle.std.specs.Io.KnownBytes.{Appends, Consumes}
use Rattle.faults.specs.Counts.{RoseBy}
use Rattle.blob_server.specs.Serving.{Handing}

-- a listener: whether it listens, at which address, where that is known, and what it has handed out
pub record Net : Type 0 where
  pub listens : Bool
  pub address : Option (List ℕ)
  pub handing : Handing

-- A command's objects: the bytes that the input gave and has left, the faults of its reads and its ends; the bytes that the output got, and the faults of its
-- writes; the listener; and the faults of the doors that came back to their maker.
pub record Outside : Type 0 where
  pub given : Option (List ℕ)
  pub left : Option (List ℕ)
  pub reads : ℕ
  pub ends : ℕ
  pub written : Option (List ℕ)
  pub writes : ℕ
  pub net : Net
  pub doors : ℕ

-- an input, and an output
pub record Incoming : Type 0 where
  pub given : Option (List ℕ)
  pub left : Option (List ℕ)
  pub reads : ℕ
  pub ends : ℕ

pub record Outgoing : Type 0 where
  pub written : Option (List ℕ)
  pub writes : ℕ

-- the objects, one by one
abbrev pub outside : Incoming → Outgoing → Net → ℕ → Outside
outside input output net doors = record {
  given = input.given;
  left = input.left;
  reads = input.reads;
  ends = input.ends;
  written = output.written;
  writes = output.writes;
  net = net;
  doors = doors;
}

-- these bytes came off the input, which gave them and has them no more
pub record TakesOff (old new : Outside) (bytes : List ℕ) : Type 0 where
  pub gave : Appends old.given new.given bytes
  pub took : Consumes old.left new.left bytes

-- the input was left alone
pub record LeavesInput (old new : Outside) : Type 0 where
  pub given : new.given ≡ old.given
  pub left : new.left ≡ old.left
  pub reads : new.reads ≡ old.reads
  pub ends : new.ends ≡ old.ends

-- the listener was left alone
abbrev pub LeavesNet : Outside → Outside → Type 0
LeavesNet old new = new.net ≡ old.net

-- the doors were left alone
abbrev pub LeavesDoors : Outside → Outside → Type 0
LeavesDoors old new = new.doors ≡ old.doors

-- a count rose, which stands still at the greatest u64
abbrev pub Rises : ℕ → ℕ → Type 0
Rises before after = after < 2 ^ 64 - 1 → before + 1 ≤ after

-- no count falls
pub record NoneFell (old new : Outside) : Type 0 where
  pub reads : RoseBy 0 old.reads new.reads
  pub writes : RoseBy 0 old.writes new.writes
  pub listener : RoseBy 0 old.net.handing.faults new.net.handing.faults
  pub doors : new.doors < 2 ^ 64 - 1 → old.doors ≤ new.doors
