-- Streams in memory.
use Rattle.std.specs.Prelude.{ℕ, Bool, true, false, List, [], ◌∷◌, length, min, nat_le}
use Rattle.ports.specs.declared.stream.Taken.{Taken}
use Rattle.ports.specs.declared.stream.Taken.TheVariants as Takens
use Rattle.ports.specs.declared.stream.Written.{Written}
use Rattle.ports.specs.declared.stream.Written.TheVariants as Writtens

-- A source in memory: the bytes that it gave and those that are left, the greatest length of a piece, which of its next calls fail, and its counts.
pub record Reading : Type 0 where
  pub given : List ℕ
  pub left : List ℕ
  pub piece : ℕ
  pub plan : List Bool
  pub faults : ℕ
  pub ends : ℕ

-- whether the next call fails
abbrev pub fails_next : List Bool → Bool
fails_next [] = false
fails_next (fails ∷ later) = fails

-- a piece of what is left, where the call doesn't fail
abbrev pub next_piece : List ℕ → ℕ → ℕ → Taken
next_piece [] piece room = Takens.End
next_piece (b ∷ left) piece room = Takens.Got (min piece (min (length (b ∷ left)) room))

-- what a read answers, by whether it fails, what is left, the length of a piece and the room in the buffer
abbrev pub read_answer : Bool → List ℕ → ℕ → ℕ → Taken
read_answer true left piece room = Takens.Failed
read_answer false left piece room = next_piece left piece room

-- A sink in memory: the bytes that it took, how many it takes in all, and its count.
pub record SinkState : Type 0 where
  pub bytes : List ℕ
  pub limit : ℕ
  pub faults : ℕ

-- what a write answers, by whether all bytes fit, and the room
abbrev pub answer_of_room : Bool → ℕ → Written
answer_of_room true room = Writtens.Whole
answer_of_room false room = Writtens.Failed room

-- what a write of so many bytes answers, by the room
abbrev pub write_answer : ℕ → ℕ → Written
write_answer count room = answer_of_room (nat_le count room) room
