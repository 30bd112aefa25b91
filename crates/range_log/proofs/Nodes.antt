-- The laws of links, of the nodes of a row.
use Rattle.std.proofs.Common.{◌≡◌, ◌⊎◌, ◌↔◌, ℕ, ◌*◌, ◌/◌, ◌^◌, ◌<◌, ◌≤◌, zero, suc, List, arith, inl, inr, refl, ap, sym, subst, ◌∙◌, true, false}
use Rattle.std.specs.Prelude.{◌==◌, ◌&&◌, not, Bool, if◌then◌else◌}
use Rattle.std.proofs.lemmas.Bool.Decides.{nat_tests}
use Rattle.std.proofs.lemmas.Nat.{mul-le, pow_pos}
use Rattle.std.proofs.Math.Nat.{mul-div_cancel}
use Rattle.blob_model.specs.Content.{size_of}
use Rattle.tree_geom.specs.declared.range.Range.{Range}
use Rattle.tree_geom.specs.declared.touch.Touch.{Touch}
use Rattle.tree_geom.specs.declared.node.Node.{Node}
use Rattle.tree_geom.specs.Geometry.{Aligned, page_range, left_half, right_half}
use Rattle.tree_geom.specs.Nodes.{left_link, right_link, back_link, depth_in}
use Rattle.tree_geom.proofs.Spans.{page_aligned}
use Rattle.range_log.specs.Log.{HasNode}
use Rattle.range_log.specs.Extents.{Extent, extent_at, touches, size_after, InBounds}
use Rattle.range_log.specs.Depths.{fold_number, depth_of}
use Rattle.range_log.specs.Updates.{extents}
use Rattle.range_log.specs.Rows.{node_of, leaf_of, leaf_at, whole_leaf, fold_at, valid_in, back_of, inner_of, covered, folded_of}
use Rattle.range_log.specs.Laws.{LinksNameNodes, NoHoles, Leads}
use Rattle.range_log.proofs.Bytes.{bounds_hold, size_is, length-extents}
use Rattle.range_log.proofs.Grown.{length-touches}
use Rattle.range_log.proofs.Links.{back_anew, links_lead, backs_lead, links_have_no_holes, backs_have_no_holes}

-- a node of page i is a leaf
pub node_leaf : (p k i : ℕ) (us : List Extent) → 1 ≤ p → node_of p us k (page_range p i) ≡ leaf_of p us k i
node_leaf p k i us pos =
    let e : (p == p) ≡ true = grind (arith, nat_tests) in
    let f : i * p / p ≡ i = mul-div_cancel i pos in
    rw (e, f) refl

-- a node of more than a page is an inner node
pub node_inner : (p k : ℕ) (us : List Extent) (r : Range) → p < r.size → node_of p us k r ≡ inner_of p us k r
node_inner p k us r large = let e : (r.size == p) ≡ false = grind (arith, nat_tests) in rw e refl

-- an aligned range is a page, or larger than one
pub page_or_larger : (p : ℕ) (r : Range) → 1 ≤ p → Aligned p r → ((i : ℕ) × (r ≡ page_range p i)) ⊎ (p < r.size)
page_or_larger p r pos (zero, q, e) = inl (q, e ∙ sym (page_aligned p q))
page_or_larger p r pos (suc h, q, e) =
    let size : r.size ≡ p * 2 ^ suc h = ap (λ (x : Range). x.size) e in
    let two : p * 2 ≤ p * 2 ^ suc h = mul-le p 2 p (2 ^ suc h) (omega arith) (let d : 0 < 2 ^ h = pow_pos h in omega arith) in
    inr (omega arith)

-- what every leaf that stores its page anew and every other one meets, each leaf meets
by_test : (Q : Node → Type 0) (b : Bool) (x y : Node) → (b ≡ true → Q x) → (b ≡ false → Q y) → Q (if b then x else y)
by_test Q true x y f g = f refl
by_test Q false x y f g = g refl

pub leaf_cases : (Q : Node → Type 0) (p k i : ℕ) (us : List Extent)
    → (folded_of p us k i ≡ true → Q (whole_leaf (fold_at fold_number p us k i) (valid_in p (size_after us k) i)))
    → (folded_of p us k i ≡ false → Q (leaf_at p (extent_at us k) i (back_of p us k i) (depth_of p (touches p us) k i)))
    → Q (leaf_of p us k i)
leaf_cases Q p k i us =
    by_test Q (folded_of p us k i) (whole_leaf (fold_at fold_number p us k i) (valid_in p (size_after us k) i))
    (leaf_at p (extent_at us k) i (back_of p us k i) (depth_of p (touches p us) k i))

anew_none : (whole : Bool) (d : ℕ) → (not whole && d == 0) ≡ true → d ≡ 0
anew_none true d e = absurd (grind (arith, e))
anew_none false d e = grind (arith, nat_tests, e)

-- its depth and its back
pub leaf_depth : (p k i : ℕ) (us : List Extent) → depth_in (leaf_of p us k i) ≡ depth_of p (touches p us) k i
leaf_depth p k i us =
    leaf_cases (λ n. depth_in n ≡ depth_of p (touches p us) k i) p k i us
    (λ anew. sym (anew_none (covered p us k i) (depth_of p (touches p us) k i) anew))
    (λ kept. refl)

pub leaf_back : (p k i : ℕ) (us : List Extent) → back_link (leaf_of p us k i) ≡ back_of p us k i
leaf_back p k i us =
    leaf_cases (λ n. back_link n ≡ back_of p us k i) p k i us
    (λ anew. sym (back_anew p us k i anew))
    (λ kept. refl)

pub not_both : (b : Bool) → b ≡ true → b ≡ false → ⊥
not_both b e f = grind (arith, e, f)

-- what every leaf and every inner node of a row meets, each of its nodes meets
by_kind : (Q : Range → Node → Type 0) (p k : ℕ) (us : List Extent) (r : Range) → 1 ≤ p → HasNode p (touches p us) k r
    → ((i : ℕ) → HasNode p (touches p us) k (page_range p i) → Q (page_range p i) (leaf_of p us k i))
    → (p < r.size → Q r (inner_of p us k r))
    → Q r (node_of p us k r)
by_kind Q p k us r pos node leaf inner =
    elim (page_or_larger p r pos node.aligned) [
      | inl page ↦
          let H : Range → Type 0 = λ s. HasNode p (touches p us) k s in
          let P : Range → Type 0 = λ s. Q s (node_of p us k s) in
          let R : Node → Type 0 = λ n. Q (page_range p page.0) n in
          subst P (sym page.1) (subst R (sym (node_leaf p k page.0 us pos)) (leaf page.0 (subst H page.1 node)))
      | inr large ↦ (let R : Node → Type 0 = λ n. Q r n in subst R (sym (node_inner p k us r large)) (inner large))
    ]

pub links_name_nodes : LinksNameNodes
links_name_nodes p k us r pos ok node =
    let es : List Extent = extents us in
    let log : List Touch = touches p es in
    let bounds : InBounds es = bounds_hold us ok in
    let Q : Range → Node → Type 0 = λ s n. Leads p log (left_link n) (left_half s) × Leads p log (right_link n) (right_half s) × Leads p log (back_link n) s in
    by_kind Q p k es r pos node
    (λ i has.
    leaf_cases (Q (page_range p i)) p k i es
    (λ anew. (λ h. absurd (omega arith), λ h. absurd (omega arith), λ h. absurd (omega arith)))
    (λ kept. (λ h. absurd (omega arith), λ h. absurd (omega arith), backs_lead p k i es pos bounds has)))
    (λ large. let both = links_lead p k es r pos bounds node large in (both.0, both.1, λ h. absurd (omega arith)))

-- page i is of one number only
pub same_page : (p i j : ℕ) → 1 ≤ p → page_range p i ≡ page_range p j → i ≡ j
same_page p i j pos e =
    let o : i * p ≡ j * p = ap (λ (x : Range). x.offset) e in
    let f : i * p / p ≡ i = mul-div_cancel i pos in
    let g : j * p / p ≡ j = mul-div_cancel j pos in
    sym f ∙ ap (λ n. n / p) o ∙ g

pub no_holes : NoHoles
no_holes p k us r pos ok node =
    let es : List Extent = extents us in
    let log : List Touch = touches p es in
    let bounds : InBounds es = bounds_hold us ok in
    let size : size_after es k ≡ size_of us k = size_is us k ok (omega (arith, node.version.1, length-touches p es, length-extents us)) in
    let Q : Range → Node → Type 0 = λ s n.
    (p < s.size → ((left_link n ≡ 0) ↔ (size_of us k ≤ (left_half s).offset)) × ((right_link n ≡ 0) ↔ (size_of us k ≤ (right_half s).offset)))
    × ((i : ℕ) → s ≡ page_range p i → covered p es k i ≡ false
    → (folded_of p es k i ≡ true → back_link n ≡ 0) × (folded_of p es k i ≡ false → (1 ≤ back_link n) × (back_link n < k))) in
    by_kind Q p k es r pos node
    (λ i has.
    leaf_cases (Q (page_range p i)) p k i es
    (λ anew. (
      λ large. absurd (omega arith),
      λ j same part. (
        λ _. refl,
        λ kept. let F : ℕ → Type 0 = λ n. folded_of p es k n ≡ true in absurd (not_both (folded_of p es k j) (subst F (same_page p i j pos same) anew) kept),
      ),
    ))
    (λ kept. (
      λ large. absurd (omega arith),
      λ j same part.
          let C : ℕ → Type 0 = λ n. covered p es k n ≡ false in
          let D : ℕ → Type 0 = λ n. (folded_of p es k n ≡ true → back_of p es k i ≡ 0)
          × (folded_of p es k n ≡ false → (1 ≤ back_of p es k i) × (back_of p es k i < k)) in
          subst D (same_page p i j pos same) (backs_have_no_holes p k i es pos bounds has (subst C (sym (same_page p i j pos same)) part)),
    )))
    (λ large. (
      λ _. rw size at (links_have_no_holes p k es r pos bounds node large),
      λ i same part. absurd (let s : r.size ≡ p = ap (λ (x : Range). x.size) same in omega arith),
    ))
