use Rattle.std.proofs.Common.{◌≡◌, ◌≤◌, vec_len}
use Rattle.std.specs.Prelude.{vec_capacity}
use Rattle.node_store.proofs.house.NodeHouse.new.Given as goal

abbrev pub invariant-loop-shard : goal.invariant-loop-shard
invariant-loop-shard l = record {
  count : vec_len l.shards ≡ l._shard;
  room : 16 ≤ vec_capacity l.shards;
}
