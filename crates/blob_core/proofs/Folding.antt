-- A page is stored anew: its bytes are the page's at the update's version.
use Rattle.std.proofs.Common.{◌≡◌, ◌⊎◌, ℕ, ◌-◌, ◌*◌, ◌<◌, ◌≤◌, zero, suc, List, ◌∷◌, length, arith, inl, inr, refl, ap, sym, ◌∙◌, true, false}
use Rattle.std.specs.Prelude.{Option, Some, None}
use Rattle.blob_model.specs.Content.{Update, size_of}
use Rattle.blob_model.specs.Store.{Blob, blob_at, published}
use Rattle.tree_geom.specs.Geometry.{page_range}
use Rattle.range_log.specs.Log.{HasNode}
use Rattle.range_log.specs.Depths.{depth_of}
use Rattle.range_log.specs.Extents.{Extent, InBounds, extent_at, size_after}
use Rattle.range_log.specs.Rows.{covered, folded_of}
use Rattle.range_log.specs.Updates.{extents, extent_of, page_bytes}
use Rattle.range_log.proofs.Bytes.{length-extents}
use Rattle.std.proofs.lemmas.Bool.{cases_lt}
use Rattle.range_log.proofs.Links.{older_page}
use Rattle.blob_core.specs.World.{World, UpdateEntry, fold_at, kept_at, log_of}
use Rattle.blob_core.specs.Steps.{IsFolded, IsNumberedIn, folded_page, with_fold}
use Rattle.blob_core.specs.Walk.{page_walk}
use Rattle.blob_core.proofs.Lists.{one_value}
use Rattle.blob_core.proofs.Growing.{Cited}
use Rattle.blob_core.proofs.Finding.{touched_node, uncovered, woven_folded_is}
use Rattle.blob_core.proofs.Keeping.{Stands, BlobStands, UpdateStands, put_fold, rows_known, in_bounds}
use Rattle.blob_core.proofs.Reading.{page_walk_is, extent_at_is}

-- the page that is stored anew has the page's valid bytes at the update's version
folded_is : (c : Cited) (p : ℕ) (w : World) (blob version page : ℕ) (b : Blob) → 1 ≤ p → Stands p w → IsNumberedIn w blob version b → version - 1 ≤ published b
    → (f : IsFolded p w blob version b page) → folded_page p w blob b f.kept version page ≡ page_bytes p b.updates version page
folded_is c p w blob zero page b pos s numbered before f = absurd (omega (arith, numbered.some))
folded_is c p w blob (suc k) page b pos s numbered before f =
    let us : List Update = b.updates in
    let xs : List Extent = extents us in
    let bs : BlobStands p w blob b = s.blobs blob b numbered.there in
    let u : UpdateStands p w blob b (suc k) = bs.updates (suc k) numbered.some numbered.upto in
    let ok : InBounds xs = in_bounds c us bs.replay in
    let there : kept_at w.updates blob (suc k) ≡ Some u.kept = rw numbered.own at u.there in
    let same : f.kept ≡ u.kept = one_value (kept_at w.updates blob (suc k)) f.kept u.kept f.there there in
    let in_xs : suc k ≤ length xs = omega (arith, numbered.upto, length-extents us) in
    let has : HasNode p (log_of p us) (suc k) (page_range p page) = touched_node p (suc k) page xs pos ok numbered.some in_xs f.met in
    let anew : folded_of p xs (suc k) page ≡ true =
    sym (woven_folded_is c p w blob b u.kept (suc k) pos ok (rows_known p w blob b u.kept.published bs u.front) u.before u.waiting numbered.upto page) ∙ rw same at f.anew in
    let part : covered p xs (suc k) page ≡ false = uncovered (covered p xs (suc k) page) (depth_of p (log_of p us) (suc k) page) anew in
    let older : page * p < size_after xs k = older_page p k page xs pos ok has part in
    let size : size_after xs k ≡ size_of us k = (c.stand us bs.replay).2 k (omega (arith, numbered.upto)) in
    let down : suc k - 1 ≡ k = omega arith in
    let some : 1 ≤ k = elim (cases_lt 0 k) [
      | inl more ↦ more
      | inr none ↦ absurd (let z : k ≡ 0 = omega arith in omega (arith, older, ap (size_after xs) z))
    ] in
    let walk : page_walk p w blob b k page ≡ page_bytes p us k page = page_walk_is c p w blob b pos s bs k page (omega (arith, before, down)) some (omega (arith, older, size)) in
    let e : extent_at xs (suc k) ≡ extent_of us (suc k) = extent_at_is us (suc k) numbered.some numbered.upto in
    rw (same, u.bytes, e, down, walk) (sym (rw down at (c.fill p (suc k) page us pos bs.replay has).2))

-- with the entry of a key that isn't there, or as before
with_fold_is : (p : ℕ) (w : World) (blob version page : ℕ) (b : Blob) (kept : UpdateEntry) → blob_at w.store blob ≡ Some b → kept_at w.updates blob version ≡ Some kept
    → (o : Option (List ℕ)) → fold_at w.folded blob version page ≡ o
    → (with_fold p w blob version page ≡ w.folded)
    ⊎ ((fold_at w.folded blob version page ≡ None)
    × (with_fold p w blob version page ≡ (record { blob = blob; version = version; page = page }, folded_page p w blob b kept version page) ∷ w.folded))
with_fold_is p w blob version page b kept there has (Some bytes) e = inl (rw (e, with_fold) refl)
with_fold_is p w blob version page b kept there has None e = inr (e, rw (e, there, has, with_fold) refl)

pub fold_put : (c : Cited) (p : ℕ) (w : World) (blob version page : ℕ) (b : Blob) → 1 ≤ p → Stands p w → IsNumberedIn w blob version b → IsFolded p w blob version b page
    → version - 1 ≤ published b → Stands p (record w { folded = with_fold p w blob version page })
fold_put c p w blob version page b pos s numbered f before =
    elim (with_fold_is p w blob version page b f.kept numbered.there f.there (fold_at w.folded blob version page) refl) [
      | inl same ↦ rw same s
      | inr new ↦
          rw new.1
          (put_fold p w blob version page (folded_page p w blob b f.kept version page) s new.0
          (record { b = b; there = numbered.there; upto = numbered.upto; is = folded_is c p w blob version page b pos s numbered before f }))
    ]
