use Rattle.std.proofs.Common.{◌≡◌, ◌+◌, take, sum}
use Rattle.provider_manager.specs.Loads.{with_replicas}
use Rattle.provider_manager.proofs.loads.add_replicas.Given as goal

abbrev pub invariant-loop-provider : goal.invariant-loop-provider
invariant-loop-provider l =
    (l.loads ≡ with_replicas l.initial.loads (take l.provider-index l.providers)) × (sum l.loads ≡ sum l.initial.loads + l.provider-index)
