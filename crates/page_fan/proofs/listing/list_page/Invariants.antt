use Rattle.std.proofs.Common.{◌≡◌, ℕ, ◌<◌, ◌++◌, List, length, take}
use Rattle.std.specs.Prelude.{All}
use Rattle.page_store.specs.House.{IsProvider}
use Rattle.replica_place.specs.Chosen.{chosen}
use Rattle.page_fan.specs.Groups.{CanBePut}
use Rattle.page_fan.specs.Listed.{puts_at}
use Rattle.page_fan.proofs.listing.list_page.Given as goal

abbrev pub invariant-loop-provider : goal.invariant-loop-provider
invariant-loop-provider l = record {
  listed : l.puts.items ≡ l.fn.puts.items ++ puts_at l.at (take l.provider-index (chosen l.placement));
  can_be_put : (providers : ℕ) (buffer : List ℕ) → l.at < length buffer → All (IsProvider providers) (chosen l.placement) → All (CanBePut providers buffer) l.fn.puts.items → All (CanBePut providers buffer) l.puts.items;
}
