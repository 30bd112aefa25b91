use Rattle.std.proofs.Common.{map}
use Rattle.page_fan.proofs.storing.store_in_groups.Given as goal

abbrev pub ghost-put_in_groups : goal.ghost-put_in_groups
ghost-put_in_groups g a = map (λ s. g.D.Door.faults s.door) a.stands.now
