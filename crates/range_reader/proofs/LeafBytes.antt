-- The bytes of a page by its leaves.
use Rattle.std.proofs.Common.{◌≡◌, ◌⊎◌, ℕ, zero, suc, ◌+◌, ◌-◌, ◌*◌, ◌<◌, ◌≤◌, max, min, arith, refl, ap, sym, ◌∙◌, subst, inl, inr, Bool, true, false}
use Rattle.std.proofs.Common.{List, length, take, drop, get_or, length-drop, length-take}
use Rattle.std.proofs.lemmas.Bool.Decides.{nat_tests}
use Rattle.blob_model.specs.Content.{Update, put, size_of}
use Rattle.tree_geom.specs.Geometry.{page_range, covers}
use Rattle.range_log.specs.Log.{HasNode, newest_of}
use Rattle.range_log.specs.Extents.{Extent, extent_at, size_after, touches}
use Rattle.range_log.specs.Updates.{update_at, extents, extent_of, Replayable, page_bytes}
use Rattle.range_log.specs.Rows.{leaf_lo, leaf_start, leaf_from, leaf_len, covered, folded_of, back_of}
use Rattle.range_log.specs.Laws.{LeavesFill, LeavesFit, PageBytesStay, ExtentsStand}
use Rattle.range_reader.proofs.Parts.{part_read, length_part}
use Rattle.range_log.proofs.Bytes.{extent_is, length-put}
use Rattle.range_log.proofs.Links.{back_some}
use Rattle.range_log.proofs.Windows.{put_before, put_within, put_after}

-- ---- a leaf of page i, that of update k, which falls at y
-- the update's bytes in the page
abbrev pub own_of : ℕ → Extent → ℕ → List ℕ → List ℕ
own_of p y i bytes = take (leaf_len p y i) (drop (leaf_from p y i) bytes)

pub record LeafIs (p k i : ℕ) (us : List Update) (y : Extent) : Type 0 where
  pub fits : leaf_from p y i + leaf_len p y i ≤ length (update_at us k).bytes
  pub some : 1 ≤ leaf_len p y i
  pub inside : leaf_start p y i + leaf_len p y i ≤ p
  pub whole : covered p (extents us) k i ≡ true → (leaf_start p y i ≡ 0) × (page_bytes p us k i ≡ own_of p y i (update_at us k).bytes)
  pub over : covered p (extents us) k i ≡ false → (leaf_start p y i ≤ length (page_bytes p us (back_of p (extents us) k i) i))
      × (page_bytes p us k i ≡ put (page_bytes p us (back_of p (extents us) k i) i) (leaf_start p y i) (own_of p y i (update_at us k).bytes))

-- where an update covers its page, its bytes there begin with the page
starts_first : (p : ℕ) (x : Extent) (size i : ℕ) → covers p x.at x.len size i ≡ true → leaf_start p x i ≡ 0
starts_first p x size i is = let e : leaf_lo p x i ≡ i * p = grind (arith, nat_tests) in omega (arith, e)

pub length-page : (p : ℕ) (us : List Update) (v i : ℕ) → length (page_bytes p us v i) ≡ min p (size_of us v - i * p)
length-page p us v i = simp (length-take, length-drop) (omega arith)

pub leaf_is : LeavesFill → LeavesFit → PageBytesStay → ExtentsStand → (p k i : ℕ) (us : List Update) → 1 ≤ p → Replayable us
    → HasNode p (touches p (extents us)) k (page_range p i) → k ≤ length us → folded_of p (extents us) k i ≡ false → LeafIs p k i us (extent_at (extents us) k)
leaf_is fill fit stay stand p zero i us pos ok has le kept = absurd (omega (arith, has.version.0))
leaf_is fill fit stay stand p (suc m) i us pos ok has le kept =
    let xs : List Extent = extents us in
    let x : Extent = extent_of us (suc m) in
    let e : extent_at xs (suc m) ≡ x = extent_is us m le in
    let F : Extent → Type 0 = λ y. (1 ≤ leaf_len p y i) × (leaf_start p y i + leaf_len p y i ≤ p) × (leaf_from p y i + leaf_len p y i ≤ y.len) in
    let f : F x = subst F e (fit p (suc m) i xs pos (stand us ok).0 has) in
    let both = fill p (suc m) i us pos ok has in
    let L : Extent → Type 0 = λ y. LeafIs p (suc m) i us y in
    let is : L x = record {
      fits = f.2;
      some = f.0;
      inside = f.1;
      whole = λ is. (starts_first p x (size_after xs (suc m)) i (let C : Extent → Type 0 = λ y. covers p y.at y.len (size_after xs (suc m)) i ≡ true in subst C e is), both.0 is);
      over = λ un.
          let back : ℕ = back_of p xs (suc m) i in
          let before : suc m - 1 ≡ m = omega arith in
          let b : back ≡ newest_of p (touches p xs) m (page_range p i) = back_some p xs (suc m) i un kept ∙ ap (λ n. newest_of p (touches p xs) n (page_range p i)) before in
          let same : page_bytes p us m i ≡ page_bytes p us back i = stay p m i us pos ok (omega arith) ∙ ap (λ n. page_bytes p us n i) (sym b) in
          let count : length (page_bytes p us back i) ≡ min p (size_of us m - i * p) = ap length (sym same) ∙ length-page p us m i in
          let begins : x.at ≤ size_of us m = (ok m le).0 in
          (omega (arith, count, begins, f.1), both.1 un kept);
    } in
    subst L (sym e) is

-- ---- its bytes, one by one
module _ (p k i : ℕ) (us : List Update) (y : Extent) (leaf : LeafIs p k i us y) where
  length-own : length (own_of p y i (update_at us k).bytes) ≡ leaf_len p y i
  length-own = length_part (update_at us k).bytes (leaf_from p y i) (leaf_len p y i) leaf.fits

  pub read_own : (x : ℕ) → x < leaf_start p y i + leaf_len p y i → leaf_start p y i ≤ x
      → get_or (page_bytes p us k i) x 0 ≡ get_or (update_at us k).bytes (leaf_from p y i + (x - leaf_start p y i)) 0
  read_own x lt from =
      let st : ℕ = leaf_start p y i in
      let n : ℕ = leaf_len p y i in
      let own = part_read 0 (update_at us k).bytes (leaf_from p y i) n (x - st) (omega arith) in
      let P : Bool → Type 0 = λ b. covered p (extents us) k i ≡ b → get_or (page_bytes p us k i) x 0 ≡ get_or (update_at us k).bytes (leaf_from p y i + (x - st)) 0 in
      let cases : P (covered p (extents us) k i) = elim (covered p (extents us) k i) as P [
        | true ↦ λ is.
            let w = leaf.whole is in
            let e : x ≡ x - st = omega (arith, w.0) in
            ap (λ l. get_or l x 0) w.1 ∙ ap (λ z. get_or (own_of p y i (update_at us k).bytes) z 0) e ∙ own
        | false ↦ λ un.
            let o = leaf.over un in
            ap (λ l. get_or l x 0) o.1 ∙ put_within (page_bytes p us (back_of p (extents us) k i) i) st (own_of p y i (update_at us k).bytes) x o.0 from (omega (arith, length-own)) ∙ own
      ] in
      cases refl

  -- the leaf's own bytes are valid
  pub own_valid : leaf_start p y i + leaf_len p y i ≤ length (page_bytes p us k i)
  own_valid =
      let st : ℕ = leaf_start p y i in
      let n : ℕ = leaf_len p y i in
      let P : Bool → Type 0 = λ b. covered p (extents us) k i ≡ b → st + n ≤ length (page_bytes p us k i) in
      let cases : P (covered p (extents us) k i) = elim (covered p (extents us) k i) as P [
        | true ↦ λ is.
            let w = leaf.whole is in
            let len : length (page_bytes p us k i) ≡ n = ap length w.1 ∙ length-own in
            omega (arith, w.0, len)
        | false ↦ λ un.
            let o = leaf.over un in
            let old : List ℕ = page_bytes p us (back_of p (extents us) k i) i in
            let len : length (page_bytes p us k i) ≡ max (length old) (st + length (own_of p y i (update_at us k).bytes)) = ap length o.1
            ∙ length-put old st (own_of p y i (update_at us k).bytes) o.0 in
            omega (arith, len, length-own)
      ] in
      cases refl

  -- a byte that is valid and not the leaf's own is that of the page at its back
  pub read_back : (x : ℕ) → (x < leaf_start p y i) ⊎ (leaf_start p y i + leaf_len p y i ≤ x) → x < length (page_bytes p us k i)
      → (covered p (extents us) k i ≡ false) × (get_or (page_bytes p us k i) x 0 ≡ get_or (page_bytes p us (back_of p (extents us) k i) i) x 0)
      × (x < length (page_bytes p us (back_of p (extents us) k i) i))
  read_back x out valid =
      let st : ℕ = leaf_start p y i in
      let n : ℕ = leaf_len p y i in
      let old : List ℕ = page_bytes p us (back_of p (extents us) k i) i in
      let R : Type 0 = (covered p (extents us) k i ≡ false) × (get_or (page_bytes p us k i) x 0 ≡ get_or old x 0) × (x < length old) in
      let P : Bool → Type 0 = λ b. covered p (extents us) k i ≡ b → R in
      let cases : P (covered p (extents us) k i) = elim (covered p (extents us) k i) as P [
        | true ↦ λ is.
            let w = leaf.whole is in
            let len : length (page_bytes p us k i) ≡ n = ap length w.1 ∙ length-own in
            absurd (elim out [ inl below ↦ omega (arith, w.0) | inr above ↦ omega (arith, w.0, len) ])
        | false ↦ λ un.
            let o = leaf.over un in
            let len : length (page_bytes p us k i) ≡ max (length old) (st + length (own_of p y i (update_at us k).bytes)) = ap length o.1
            ∙ length-put old st (own_of p y i (update_at us k).bytes) o.0 in
            let same = ap (λ l. get_or l x 0) o.1 in
            elim out [
              | inl below ↦ (un, same ∙ put_before old st (own_of p y i (update_at us k).bytes) x o.0 below, omega (arith, o.0))
              | inr above ↦ (un, same ∙ put_after old st (own_of p y i (update_at us k).bytes) x o.0 (omega (arith, length-own)), omega (arith, len, length-own))
            ]
      ] in
      cases refl
