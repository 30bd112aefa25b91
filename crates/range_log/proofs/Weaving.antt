-- The newest version, by what waits after a version and by the links of that version.
use Rattle.std.proofs.Common.{◌≡◌, ℕ, ◌+◌, zero, suc, List, arith, inl, inr, ap, sym, ◌∙◌, true, false}
use Rattle.std.specs.Prelude.{◌==◌, if◌then◌else◌}
use Rattle.std.proofs.lemmas.Bool.Decides.{nat_tests}
use Rattle.tree_geom.specs.declared.range.Range.{Range}
use Rattle.tree_geom.specs.declared.touch.Touch.{Touch}
use Rattle.tree_geom.specs.Geometry.{meets_of, tree_range}
use Rattle.range_log.specs.Log.{touch_at, newest_of}
use Rattle.range_log.specs.Extents.{touches}
use Rattle.range_log.specs.Walk.{waiting_of, WeaverFinds}
use Rattle.tree_geom.proofs.Touches.{meets_cases, meets_true, meets_false}
use Rattle.range_log.proofs.Greatest.{newest_hit, newest_miss}
use Rattle.range_log.proofs.Walk.{links_find}

waits : (p : ℕ) (log : List Touch) (v n : ℕ) (r : Range)
    → newest_of p log (v + n) r ≡ (if waiting_of p log v n r == 0 then newest_of p log v r else waiting_of p log v n r)
unfolding waiting_of
waits p log v zero r = let e : v + 0 ≡ v = omega arith in ap (λ k. newest_of p log k r) e
waits p log v (suc n) r =
    let e : v + suc n ≡ suc (v + n) = omega arith in
    ap (λ k. newest_of p log k r) e
    ∙ elim (meets_cases p (touch_at log (suc (v + n))) r) [
      | inl hit ↦
          let t : meets_of p (touch_at log (suc (v + n))) r ≡ true = meets_true p (touch_at log (suc (v + n))) r hit in
          let f : (suc (v + n) == 0) ≡ false = grind (arith, nat_tests) in
          rw (t, f) (newest_hit p log (v + n) r hit)
      | inr miss ↦
          let t : meets_of p (touch_at log (suc (v + n))) r ≡ false = meets_false p (touch_at log (suc (v + n))) r miss in
          rw t (newest_miss p log (v + n) r miss ∙ waits p log v n r)
    ]

pub weaver_finds : WeaverFinds
weaver_finds p v n h q us pos bounds in_list =
    let log : List Touch = touches p us in
    let r : Range = tree_range p h q in
    waits p log v n r
    ∙ ap (λ k. if waiting_of p log v n r == 0 then k else waiting_of p log v n r) (sym (links_find p v h q us pos bounds (omega arith)))
