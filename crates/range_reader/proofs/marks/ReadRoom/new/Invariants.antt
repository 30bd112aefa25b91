use Rattle.std.proofs.Common.{◌≡◌, ◌≤◌, vec_len}
use Rattle.std.specs.Prelude.{vec_capacity}
use Rattle.range_reader.proofs.marks.ReadRoom.new.Given as goal

abbrev pub invariant-loop-byte : goal.invariant-loop-byte
invariant-loop-byte l = record {
  count : vec_len l.wanted ≡ l._byte;
  room : l.bytes ≤ vec_capacity l.wanted;
}
