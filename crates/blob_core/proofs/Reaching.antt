-- What links and backs lead to from a published root is there.
use Rattle.std.proofs.Common.{◌≡◌, ℕ, ◌-◌, ◌/◌, ◌≤◌, Bool, true, false, List, [], ◌∷◌, arith, inl, inr, refl}
use Rattle.std.specs.Prelude.{◌==◌, if◌then◌else◌, Option, Some, None}
use Rattle.std.proofs.lemmas.Bool.{cases_lt}
use Rattle.blob_model.specs.Content.{Update}
use Rattle.tree_geom.specs.declared.range.Range.{Range}
use Rattle.tree_geom.specs.declared.node.Node.{Node}
use Rattle.tree_geom.specs.Nodes.{left_link, right_link, back_link}
use Rattle.range_log.proofs.Links.{back_cases}
use Rattle.range_log.proofs.Nodes.{leaf_cases}
use Rattle.tree_geom.specs.Geometry.{left_half, right_half, page_range}
use Rattle.range_log.specs.Log.{HasNode}
use Rattle.range_log.specs.Extents.{Extent, touches}
use Rattle.range_log.specs.Updates.{extents, Replayable}
use Rattle.range_log.specs.Rows.{node_of, leaf_of, inner_of, back_of}
use Rattle.blob_core.specs.World.{World, IsKnown, node_in, log_of}
use Rattle.blob_core.specs.Walk.{Way, to_left, to_right, to_back, version_on, range_on, reached}
use Rattle.blob_core.proofs.Growing.{Cited}
use Rattle.blob_core.proofs.Finding.{RowsKnown}

record LinksBelow (n : Node) (j : ℕ) : Type 0 where
  left : left_link n ≤ j
  right : right_link n ≤ j
  back : back_link n ≤ j

back_of_below : (c : Cited) (p : ℕ) (us : List Extent) (j i : ℕ) → back_of p us j i ≤ j
back_of_below c p us j i = elim (back_cases p us j i) [
  | inl none ↦ omega (arith, none)
  | inr led ↦ omega (arith, led.2, (c.greatest p (j - 1) (touches p us) (page_range p i)).0.upto)
]

links_below : (c : Cited) (p : ℕ) (us : List Extent) (j : ℕ) (r : Range) (t : Bool) → LinksBelow (if t then leaf_of p us j (r.offset / p) else inner_of p us j r) j
links_below c p us j r true =
    leaf_cases (λ n. LinksBelow n j) p j (r.offset / p) us
    (λ anew. record { left = omega arith; right = omega arith; back = omega arith })
    (λ kept. record { left = omega arith; right = omega arith; back = back_of_below c p us j (r.offset / p) })
links_below c p us j r false = record {
  left = (c.greatest p j (touches p us) (left_half r)).0.upto;
  right = (c.greatest p j (touches p us) (right_half r)).0.upto;
  back = omega arith;
}

way_below : (n : Node) (j : ℕ) (way : Way) → LinksBelow n j → version_on n way ≤ j
way_below n j to_left h = h.left
way_below n j to_right h = h.right
way_below n j to_back h = h.back

row_leads : (c : Cited) (p : ℕ) (us : List Update) (j : ℕ) (r : Range) (way : Way) → 1 ≤ p → Replayable us → HasNode p (log_of p us) j r
    → 1 ≤ version_on (node_of p (extents us) j r) way → HasNode p (log_of p us) (version_on (node_of p (extents us) j r) way) (range_on r way)
row_leads c p us j r to_left pos ok has some = (c.name p j us r pos ok has).0 some
row_leads c p us j r to_right pos ok has some = (c.name p j us r pos ok has).1 some
row_leads c p us j r to_back pos ok has some = (c.name p j us r pos ok has).2 some

reached_on : (w : World) (blob j : ℕ) (r : Range) (way : Way) (ways : List Way) (n : Node) → node_in w blob j r ≡ Some n
    → reached w blob j r (way ∷ ways) ≡ reached w blob (version_on n way) (range_on r way) ways
reached_on w blob j r way ways n e = rw (e, reached) refl

reached_stop : (w : World) (blob j : ℕ) (r : Range) (way : Way) (ways : List Way) → node_in w blob j r ≡ None → (reached w blob j r (way ∷ ways)).version ≡ 0
reached_stop w blob j r way ways e = rw (e, reached) refl

-- version 0 has no node
abbrev pub NoneAtZero : World → ℕ → Type 0
NoneAtZero w blob = (r : Range) (n : Node) → node_in w blob 0 r ≡ Some n → ⊥

at_zero : (w : World) (blob : ℕ) (r : Range) → NoneAtZero w blob → (o : Option Node) → node_in w blob 0 r ≡ o → node_in w blob 0 r ≡ None
at_zero w blob r none None e = e
at_zero w blob r none (Some n) e = absurd (none r n e)

from_zero : (w : World) (blob : ℕ) (r : Range) (ways : List Way) → NoneAtZero w blob → (reached w blob 0 r ways).version ≡ 0
from_zero w blob r [] none = refl
from_zero w blob r (way ∷ ways) none = reached_stop w blob 0 r way ways (at_zero w blob r none (node_in w blob 0 r) refl)

pub reached_is : (c : Cited) (p : ℕ) (w : World) (blob : ℕ) (us : List Update) (n : ℕ) → 1 ≤ p → Replayable us → RowsKnown p w blob us n → NoneAtZero w blob
    → (ways : List Way) (j : ℕ) (r : Range) → j ≤ n → HasNode p (log_of p us) j r → 1 ≤ (reached w blob j r ways).version
    → IsKnown (node_in w blob (reached w blob j r ways).version (reached w blob j r ways).range)
reached_is c p w blob us n pos ok known none [] j r le has some = (node_of p (extents us) j r, known j r le has)
reached_is c p w blob us n pos ok known none (way ∷ ways) j r le has begins =
    let x : Node = node_of p (extents us) j r in
    let e : reached w blob j r (way ∷ ways) ≡ reached w blob (version_on x way) (range_on r way) ways = reached_on w blob j r way ways x (known j r le has) in
    let below : version_on x way ≤ j = way_below x j way (links_below c p (extents us) j r (r.size == p)) in
    rw e
    (elim (cases_lt 0 (version_on x way)) [
      | inl some ↦ reached_is c p w blob us n pos ok known none ways (version_on x way) (range_on r way) (omega arith) (row_leads c p us j r way pos ok has some) (rw e at begins)
      | inr stop ↦
          (let z : version_on x way ≡ 0 = omega arith in
          let at : (reached w blob (version_on x way) (range_on r way) ways).version ≡ 0 = rw z (from_zero w blob (range_on r way) ways none) in
          absurd (omega (arith, at, rw e at begins)))
    ])
