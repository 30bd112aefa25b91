-- A list as a front of a body and the few items after it, which lie in slots.
use Rattle.std.specs.Prelude.{◌≡◌, ℕ, ◌+◌, ◌%◌, ◌≤◌, List, length, take}
use Rattle.boxcar.specs.Slot.{Named}
use Rattle.radix_list.specs.Puts.{slots_told, names_of}

-- The list's first items stand in the body, and those that were put follow in the slots, from the first one on. The slots, of which
-- there are no more than a leaf has room for, stand after whole leaves of the body.
pub record IsTailed {T : Type 0} (body : List T) (whole : ℕ) (slots : List Named) (front : ℕ) (puts : List (ℕ × T)) : Type 0 where
  pub cut : whole ≤ length body
  pub aligned : whole % 32 ≡ 0
  pub few : length slots ≤ 32
  pub within : front ≤ whole
  pub follows : 1 ≤ length puts → front ≡ whole
  pub told : slots_told puts ≡ take (length puts) (names_of slots)
  pub room : front + length puts ≤ 1048576
