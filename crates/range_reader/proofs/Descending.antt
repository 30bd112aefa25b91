-- The way down to a page, by the heights and numbers of the ranges over it.
use Rattle.std.proofs.Common.{◌≡◌, ◌≢◌, ◌⊎◌, ℕ, zero, suc, ◌+◌, ◌*◌, ◌/◌, ◌%◌, ◌^◌, ◌<◌, ◌≤◌, length, arith, refl, ap, sym, ◌∙◌, subst, inl, inr}
use Rattle.std.proofs.lemmas.Bool.{cases_lt}
use Rattle.std.proofs.lemmas.Nat.{mul-le, pow_pos, div_below, shr-shr}
use Rattle.std.proofs.Math.Nat.{mul-div_cancel}
use Rattle.tree_geom.specs.declared.range.Range.{Range}
use Rattle.tree_geom.specs.Geometry.{tree_range, page_range, left_half, right_half, height_of}
use Rattle.tree_geom.specs.Laws.{HeightsHold, PagesAlign, LowHalvesAlign, HighHalvesAlign}
use Rattle.range_log.specs.Log.{newest_of}
use Rattle.range_log.specs.Laws.{NewestIsGreatest, ExtentsStand}
use Rattle.range_log.specs.Walk.{RootsStand, LinksStep}
use Rattle.snapshot.specs.Versions.{Version, size_now, root_key, HasNodeFor, IsVersion}
use Rattle.tree_geom.proofs.Spans.{page_pos}
use Rattle.range_reader.specs.Reading.{log_of, newest_in}
use Rattle.range_reader.proofs.Rooted.{root_stands, root_newest, root_tree}
use Rattle.range_reader.proofs.Walking.{down, at_least, child}
use Rattle.range_log.proofs.Walk.{double}

-- ---- pages under the root
-- a page with a valid byte is one of those under a range that holds all of them
pub under_root : (p page n h : ℕ) → 1 ≤ p → page * p < n → n ≤ p * 2 ^ h → page < 2 ^ h
under_root p page n h pos inside reach =
    let cut : page * p / p < 2 ^ h = div_below (page * p) p (2 ^ h) pos (omega arith) in
    let P : ℕ → Type 0 = λ i. i < 2 ^ h in
    subst P (mul-div_cancel page pos) cut

-- the range over a page begins where valid bytes do
begins_within : (p page n h : ℕ) → page * p < n → page / 2 ^ h * (p * 2 ^ h) < n
begins_within p page n h inside =
    let e : page / 2 ^ h * 2 ^ h * p ≤ page * p = mul-le (page / 2 ^ h * 2 ^ h) p page p (down page (2 ^ h)) (omega arith) in
    omega arith

-- ---- the range over a page, and that of the height above
pub low_half : LowHalvesAlign → (p h page : ℕ) → page / 2 ^ h % 2 ≡ 0 → left_half (tree_range p (h + 1) (page / 2 ^ (h + 1))) ≡ tree_range p h (page / 2 ^ h)
low_half low p h page even =
    let next : h + 1 ≡ suc h = omega arith in
    let over : page / 2 ^ (h + 1) ≡ page / 2 ^ h / 2 = sym (shr-shr page h 1) in
    let twice : 2 * (page / 2 ^ h / 2) ≡ page / 2 ^ h = omega arith in
    ap (λ q. left_half (tree_range p (h + 1) q)) over ∙ ap (λ k. left_half (tree_range p k (page / 2 ^ h / 2))) next
    ∙ low p h (page / 2 ^ h / 2) ∙ ap (tree_range p h) twice

pub high_half : HighHalvesAlign → (p h page : ℕ) → page / 2 ^ h % 2 ≢ 0 → right_half (tree_range p (h + 1) (page / 2 ^ (h + 1))) ≡ tree_range p h (page / 2 ^ h)
high_half high p h page odd =
    let next : h + 1 ≡ suc h = omega arith in
    let over : page / 2 ^ (h + 1) ≡ page / 2 ^ h / 2 = sym (shr-shr page h 1) in
    let twice : 2 * (page / 2 ^ h / 2) + 1 ≡ page / 2 ^ h = omega arith in
    ap (λ q. right_half (tree_range p (h + 1) q)) over ∙ ap (λ k. right_half (tree_range p k (page / 2 ^ h / 2))) next
    ∙ high p h (page / 2 ^ h / 2) ∙ ap (tree_range p h) twice

pub inner_size : (p h : ℕ) → 1 ≤ p → p < p * 2 ^ (h + 1)
inner_size p h pos =
    let next : h + 1 ≡ suc h = omega arith in
    let d : p * 2 ^ (h + 1) ≡ 2 * (p * 2 ^ h) = ap (λ k. p * 2 ^ k) next ∙ double p h in
    omega (arith, d, at_least p h)

-- a range with a byte is one of pages with a byte
pub page_some : (p x : ℕ) → 0 < p * x → 1 ≤ p
page_some zero x some = absurd (omega arith)
page_some (suc p) x some = omega arith

-- ---- from the root down
-- `at` is the version of the newest node of that height over the page
pub record IsOver (s : Version) (page h at : ℕ) : Type 0 where
  pub newest : at ≡ newest_in s (tree_range s.page_size h (page / 2 ^ h))
  pub has : HasNodeFor s at (tree_range s.page_size h (page / 2 ^ h))

-- the root is over each page with a valid byte
pub over_at_root : HeightsHold → ExtentsStand → RootsStand → NewestIsGreatest → (s : Version) → IsVersion s → (page h at : ℕ) → page * s.page_size < size_now s
    → h ≡ height_of s.page_size (size_now s) → at ≡ length s.rows → IsOver s page h at
over_at_root heights stand roots greatest s is page h at inside tall last =
    let p : ℕ = s.page_size in
    let pos : 1 ≤ p = page_pos p is.page_size in
    let some : 1 ≤ size_now s = omega arith in
    let root : Range = (root_key s).range in
    let reach : size_now s ≤ p * 2 ^ h = let r = (heights p (size_now s) pos).reaches in omega (arith, r, ap (λ k. p * 2 ^ k) tall) in
    let few : page / 2 ^ h < 1 = div_below page (2 ^ h) 1 (pow_pos h) (let lt : page < 2 ^ h = under_root p page (size_now s) h pos inside reach in omega arith) in
    let first : 0 ≡ page / 2 ^ h = omega arith in
    let here : root ≡ tree_range p h (page / 2 ^ h) = root_tree stand s is root some refl ∙ ap (λ k. tree_range p k 0) (sym tall) ∙ ap (tree_range p h) first in
    let H : Range → Type 0 = λ r. HasNodeFor s (length s.rows) r in
    let A : ℕ → Type 0 = λ j. HasNodeFor s j (tree_range p h (page / 2 ^ h)) in
    record {
      newest = last ∙ root_newest stand s is roots greatest root some refl ∙ ap (newest_in s) here;
      has = subst A (sym last) (subst H here (root_stands stand s is roots root some refl));
    }

-- a link leads from the node of a height to that of the height below
pub over_below : LinksStep → ExtentsStand → LowHalvesAlign → HighHalvesAlign → (s : Version) → IsVersion s → (page h at on : ℕ) → page * s.page_size < size_now s
    → IsOver s page (h + 1) at → on ≡ newest_of s.page_size (log_of s) at (tree_range s.page_size h (page / 2 ^ h)) → IsOver s page h on
over_below step stand low high s is page h at on inside over link =
    let p : ℕ = s.page_size in
    let whole : Range = tree_range p (h + 1) (page / 2 ^ (h + 1)) in
    let half : Range = tree_range p h (page / 2 ^ h) in
    let which : (half ≡ left_half whole) ⊎ (half ≡ right_half whole) = elim (cases_lt 0 (page / 2 ^ h % 2)) [
      | inl odd ↦ inr (sym (high_half high p h page (λ e. omega arith)))
      | inr even ↦ inl (sym (low_half low p h page (omega arith)))
    ] in
    let next = child step stand s is at on whole half over.newest over.has (inner_size p h (page_pos p is.page_size)) which (begins_within p page (size_now s) h inside) link in
    record { newest = next.0; has = next.1 }

-- at height 0 it is the page's newest leaf
module _ (align : PagesAlign) (s : Version) (page h at : ℕ) (low : h ≡ 0) (over : IsOver s page h at) where
  leaf_range : tree_range s.page_size h (page / 2 ^ h) ≡ page_range s.page_size page
  leaf_range =
      let whole : page / 2 ^ 0 ≡ page = omega arith in
      ap (λ k. tree_range s.page_size k (page / 2 ^ k)) low ∙ ap (tree_range s.page_size 0) whole ∙ sym (align s.page_size page)

  pub newest_here : at ≡ newest_in s (page_range s.page_size page)
  newest_here = over.newest ∙ ap (newest_in s) leaf_range

  pub has_leaf : HasNodeFor s at (page_range s.page_size page)
  has_leaf = let H : Range → Type 0 = λ r. HasNodeFor s at r in subst H leaf_range over.has
