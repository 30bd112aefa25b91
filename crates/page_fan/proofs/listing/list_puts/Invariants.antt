use Rattle.std.proofs.Common.{◌≡◌, ℕ, ◌-◌, ◌*◌, ◌<◌, length, take}
use Rattle.std.specs.Prelude.{All}
use Rattle.page_store.specs.House.{IsProvider}
use Rattle.page_fan.specs.Groups.{CanBePut}
use Rattle.page_fan.specs.Listed.{puts_from}
use Rattle.page_fan.proofs.listing.list_puts.Given as goal

abbrev pub invariant-loop-at : goal.invariant-loop-at
invariant-loop-at l = record {
  listed : l.puts.items ≡ puts_from l.fn.p 0 (take l.i l.placements);
  within : (k : ℕ) → k < l.i → k * l.fn.p < length l.buffer;
  position : l.at ≡ l.i * l.page_size;
  can_be_put : (providers : ℕ) → All (All (IsProvider providers)) l.placements → All (CanBePut providers l.buffer) l.puts.items;
}

abbrev pub decreases-loop-at : goal.decreases-loop-at
decreases-loop-at l = length l.buffer - l.at
