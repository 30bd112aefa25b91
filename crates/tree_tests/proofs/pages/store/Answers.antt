use Rattle.std.proofs.Common.{◌≡◌, ℕ, suc, ◌+◌, ◌-◌, ◌*◌, ◌/◌, ◌<◌, ◌≤◌, List, [], ◌∷◌, take, drop, refl, arith, ap, sym, ◌∙◌, subst, length, length-append}
use Rattle.std.proofs.lemmas.List.{length-drop, length-take-le}
use Rattle.std.proofs.lemmas.List.Elements.{All-push}
use Rattle.std.proofs.Math.Nat.{le-div_iff_mul-le}
use Rattle.page_store.specs.Stored.{Stored, Cut, AllFull}
use Rattle.tree_tests.proofs.pages.store.Goals as goal

-- a page in the middle is full
full_page : (bytes : List ℕ) (i s full : ℕ) → full ≡ (length bytes - 1) / s → 0 < s → i < full → length (take (i * s + s - i * s) (drop (i * s) bytes)) ≡ s
full_page bytes i s full e pos lt =
    let h : suc i * s ≤ length bytes - 1 = (le-div_iff_mul-le {k = s} {x = suc i} {y = length bytes - 1} pos).0 (omega (arith, e, lt)) in
    let m : suc i * s ≡ i * s + s = grind arith in
    let n : i * s + s - i * s ≡ s = omega arith in
    ap (λ n. length (take n (drop (i * s) bytes))) n ∙ length-take-le s (drop (i * s) bytes) (omega (arith, length-drop (i * s) bytes, h, m))

pub loop-i-preserved : goal.loop-i-preserved
loop-i-preserved g c =
    let i = c.loop-i.invariant in
    let e = c.add.ensures.added in
    let F : Cut → Type 0 = λ x. AllFull x.page_size x.pages in
    let bytes : length c.page_of.result.bytes ≡ c.loop-i.pages.page_size = c.page_of.ensures
    ∙ full_page c.args.bytes.now c.loop-i.i c.bytes-size.result _ refl (omega (arith, c.bytes-size.ensures.bounds)) (omega arith) ∙ c.bytes-size.ensures.is ∙ sym i.page_size in
    record {
      page_size = ap (λ (x : Cut). x.page_size) e ∙ i.page_size;
      room = ap (λ (x : Cut). x.room) e ∙ i.room;
      count = ap (λ (x : Cut). length x.pages) e ∙ omega (arith, length-append c.loop-i.pages.pages (c.page_of.result ∷ []), i.count);
      full = subst F (sym e) (All-push (λ (s : Stored). length s.bytes ≡ c.loop-i.pages.page_size) c.loop-i.pages.pages c.page_of.result i.full bytes);
    }
