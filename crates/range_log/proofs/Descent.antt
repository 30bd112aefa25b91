-- Where a link leads.
use Rattle.std.proofs.Common.{ℕ, ◌+◌, ◌≤◌, List, length, inr, sym, subst}
use Rattle.tree_geom.specs.declared.range.Range.{Range}
use Rattle.tree_geom.specs.declared.touch.Touch.{Touch}
use Rattle.tree_geom.specs.Geometry.{Aligned, span_of}
use Rattle.range_log.specs.Log.{size_at, newest_of, HasNode}
use Rattle.range_log.specs.Extents.{IsLog}
use Rattle.range_log.specs.Laws.{Grown}
use Rattle.range_log.proofs.Grown.{grown_updates}
use Rattle.range_log.proofs.Links.{newest_has_node}

pub grown_log : (p : ℕ) (log : List Touch) → 1 ≤ p → IsLog p log → Grown p log
grown_log p log pos is = let P : List Touch → Type 0 = λ l. Grown p l in subst P (sym is.2) (grown_updates p is.0 pos is.1)

pub link_stands : (p : ℕ) (log : List Touch) (j : ℕ) (s : Range) → 1 ≤ p → Grown p log → j ≤ length log → Aligned p s → s.offset + s.size ≤ span_of p (size_at log j)
    → 1 ≤ newest_of p log j s → HasNode p log (newest_of p log j s) s
link_stands p log j s pos g in_log (h, q, e) =
    let P : Range → Type 0 = λ x. x.offset + x.size ≤ span_of p (size_at log j) → 1 ≤ newest_of p log j x → HasNode p log (newest_of p log j x) x in
    subst P (sym e) (λ within some. newest_has_node p log j h q pos g in_log (inr within) some)
