use Rattle.std.proofs.Common.{◌≡◌, ◌-◌, ◌++◌, map, take, drop}
use Rattle.provider_manager.proofs.loads.lower_by.Given as goal

abbrev pub invariant-loop-load : goal.invariant-loop-load
invariant-loop-load l = l.loads ≡ map (λ load. load - l.amount) (take l.load-index l.initial.loads) ++ drop l.load-index l.initial.loads
