-- Parts of a range.
use Rattle.std.proofs.Common.{◌≡◌, ℕ, ◌+◌, ◌≤◌, List, arith}
use Rattle.tree_geom.specs.declared.range.Range.{Range}
use Rattle.tree_geom.specs.declared.touch.Touch.{Touch}
use Rattle.tree_geom.specs.Geometry.{Meets}
use Rattle.range_log.specs.Log.{newest_of}
use Rattle.range_log.proofs.Greatest.{links_agree}

abbrev pub Within : Range → Range → Type 0
Within s r = (r.offset ≤ s.offset) × (s.offset + s.size ≤ r.offset + r.size)

pub meets_wider : (p : ℕ) (t : Touch) (s r : Range) → Within s r → Meets p t s → Meets p t r
meets_wider p t s r w m = (omega (arith, w, m), omega (arith, w, m), omega (arith, w, m))

pub newest_within : (p : ℕ) (log : List Touch) (k : ℕ) (s r : Range) → Within s r → newest_of p log (newest_of p log k r) s ≡ newest_of p log k s
newest_within p log k s r w = links_agree p k log s r w.0 w.1
