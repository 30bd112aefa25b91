use Rattle.std.proofs.Common.{◌≡◌, ℕ, ◌+◌, ◌*◌, ◌^◌, ◌≤◌, arith, rules, ap, sym, ◌∙◌, List, length}
use Rattle.tree_geom.specs.declared.range.Range.{Range}
use Rattle.tree_geom.specs.declared.touch.Touch.{Touch}
use Rattle.tree_geom.specs.Geometry.{height_of}
use Rattle.range_log.specs.Log.{touch_at, size_at}
use Rattle.range_log.specs.Extents.{IsLog}
use Rattle.range_log.specs.Rows.{levels_of, row_keys_of}
use Rattle.range_log.proofs.Levels.{touch_read, touch_fits, row_keys_are, level_added, levels_done}
use Rattle.range_log.proofs.keys.row_keys.Goals as goal

-- what is known of the touch that the code reads
read_fits : (p : ℕ) (log : List Touch) (k : ℕ) (t : Touch) → t ≡ touch_at log k → (1 ≤ k) × (k ≤ length log) → 1 ≤ p → IsLog p log → size_at log k ≤ 2 ^ 40
    → (1 ≤ t.size) × (t.first ≤ t.last) × (t.last * p ≤ 2 ^ 40)
read_fits p log k t e in_log pos is fits =
    let f = touch_fits p log k pos in_log.0 in_log.1 is in
    rw e (omega (arith, f), f.0, omega (arith, f))

pub height-level-requires-clause-some : goal.height-level-requires-clause-some
height-level-requires-clause-some c = (read_fits c.args.p c.args.log.now c.args.k _ (touch_read c.args.log.now c.args.k c.requires.version.0) c.requires.version (search rules) c.requires.of_updates c.requires.fits).0

pub add_level-requires-clause-ordered : goal.add_level-requires-clause-ordered
add_level-requires-clause-ordered c = (read_fits c.args.p c.args.log.now c.args.k _ (touch_read c.args.log.now c.args.k c.requires.version.0) c.requires.version (search rules) c.requires.of_updates c.requires.fits).1

pub add_level-requires-clause-fits : goal.add_level-requires-clause-fits
add_level-requires-clause-fits c = (read_fits c.args.p c.args.log.now c.args.k _ (touch_read c.args.log.now c.args.k c.requires.version.0) c.requires.version (search rules) c.requires.of_updates c.requires.fits).2

pub loop-level-preserved : goal.loop-level-preserved
loop-level-preserved c = level_added c.args.p _ c.loop-level.level _ c.loop-level.keys.items c.add_level.new.keys.items (omega arith) c.loop-level.invariant c.in_ok-add_level.ensures

-- what was written is the row
row_is : (p : ℕ) (log : List Touch) (k h : ℕ) (t : Touch) (made : List Range) → t ≡ touch_at log k → h ≡ height_of p t.size → made ≡ levels_of p t (h + 1) → made ≡ row_keys_of p log k
row_is p log k h t made e high is = is ∙ ap (λ u. levels_of p u (h + 1)) e ∙ sym (row_keys_are p log k h (high ∙ ap (λ (u : Touch). height_of p u.size) e))

pub returns : goal.returns
returns c =
    row_is c.args.p c.args.log.now c.args.k c.height-level.result _ c.loop-level.keys.items (touch_read c.args.log.now c.args.k c.requires.version.0) c.height-level.ensures.is
    (levels_done c.args.p _ c.loop-level.level _ c.loop-level.keys.items (omega arith) c.loop-level.invariant)
