-- What a read and a write do to a stream, by their answers.
use Rattle.std.specs.Prelude.{◌≡◌, ℕ, ◌<◌, ◌≤◌, List, [], length, take, drop, Option, ⊤}
use Rattle.std.specs.Io.KnownBytes.{IsAtEnd}
use Rattle.faults.specs.Counts.{RoseBy}
use Rattle.ports.specs.declared.stream.Taken.{Taken}
use Rattle.ports.specs.declared.stream.Taken.TheVariants as Takens
use Rattle.ports.specs.declared.stream.Written.{Written}
use Rattle.ports.specs.declared.stream.Written.TheVariants as Writtens

-- the bytes that a read took off the stream, which stand at the front of the buffer
abbrev pub taken_bytes : List ℕ → Taken → List ℕ
taken_bytes buf (Takens.Got n) = take n buf
taken_bytes buf Takens.End = []
taken_bytes buf Takens.Failed = []

-- one to all places of a buffer were filled from the front, and the other places are as before
pub record FillsFront (n : ℕ) (old new : List ℕ) : Type 0 where
  pub some : 0 < n
  pub within : n ≤ length old
  pub rest : drop n new ≡ drop n old

-- a read changes no place of the buffer but those of the bytes that it took
abbrev pub IsPiece : List ℕ → List ℕ → Taken → Type 0
IsPiece old new (Takens.Got n) = FillsFront n old new
IsPiece old new Takens.End = new ≡ old
IsPiece old new Takens.Failed = new ≡ old

-- a read answers End only where nothing is left, here after it
abbrev pub EndsAtEnd : Option (List ℕ) → Taken → Type 0
EndsAtEnd left (Takens.Got n) = ⊤
EndsAtEnd left Takens.End = IsAtEnd left
EndsAtEnd left Takens.Failed = ⊤

-- the count of ends rose where a read answered End, and stayed where it didn't
abbrev pub CountsEnd : Taken → ℕ → ℕ → Type 0
CountsEnd (Takens.Got n) before after = after ≡ before
CountsEnd Takens.End before after = RoseBy 1 before after
CountsEnd Takens.Failed before after = after ≡ before

-- the faults that a read's answer tells of
abbrev pub read_fault_count : Taken → ℕ
read_fault_count (Takens.Got n) = 0
read_fault_count Takens.End = 0
read_fault_count Takens.Failed = 1

-- the bytes that a write appended
abbrev pub appended_bytes : List ℕ → Written → List ℕ
appended_bytes bytes Writtens.Whole = bytes
appended_bytes bytes (Writtens.Failed n) = take n bytes

-- a write that failed left at least one byte out
abbrev pub LeavesOut : List ℕ → Written → Type 0
LeavesOut bytes Writtens.Whole = ⊤
LeavesOut bytes (Writtens.Failed n) = n < length bytes

-- the faults that a write's answer tells of
abbrev pub write_fault_count : Written → ℕ
write_fault_count Writtens.Whole = 0
write_fault_count (Writtens.Failed n) = 1

-- a read took one to so many bytes, or none
abbrev pub IsWithin : ℕ → Taken → Type 0
IsWithin room (Takens.Got n) = (0 < n) × (n ≤ room)
IsWithin room Takens.End = ⊤
IsWithin room Takens.Failed = ⊤
