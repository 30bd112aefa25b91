-- Where a stored page lies.
use Rattle.std.specs.List.{range_with_len}
use Rattle.std.proofs.Math.Nat.{div-mul-le_self, mul-le-mul_right, le-div_iff_mul-le}
use Rattle.snapshot.specs.Versions.{Version, PagesLieIn}
use Rattle.file_layer.specs.Places.{AddsPage}
use Rattle.std.proofs.lemmas.List.Elements.{All-append, All-cons, All-nil}
use Rattle.std.proofs.lemmas.List.{map-append}
use Rattle.std.proofs.lemmas.List.FromFn.{map-range_with_len_more}
use Rattle.std.proofs.Common.{◌+◌, ◌-◌, ◌*◌, ◌/◌, [], ◌∷◌, ◌++◌, refl, ◌≡◌, ℕ, ◌≤◌, List, length, map, All, sym, ap, subst, ◌∙◌, arith}
use Rattle.std.proofs.lemmas.List.{length-map}
use Rattle.std.proofs.lemmas.List.Elements.{All-map, All-weaker}
use Rattle.page_store.specs.House.{House}
use Rattle.page_store.specs.Page.{Spot, IsAmong}
use Rattle.file_names.specs.declared.form.PageHolders.{PageHolders}
use Rattle.file_layer.specs.Files.{Files, LieAt, ArePlaces, pages_of}
use Rattle.range_log.specs.Visits.{pages_met}
use Rattle.faults.specs.declared.no_memory.NoMemory.{NoMemory}
use Rattle.std.specs.Prelude.{Result, Ok, Err, IfOk}

pub lies : (houses : List House) (spots : List Spot) (page count : ℕ) (providers : List ℕ) → count ≡ length spots → 1 ≤ count → count ≤ 8 → providers ≡ map (λ (s : Spot). s.provider) spots → All (IsAmong houses) spots
    → LieAt (length houses) (record { page = page; providers = providers })
lies houses spots page count providers all some few is among =
    let len : length providers ≡ length spots = ap length is ∙ length-map spots (λ (s : Spot). s.provider) in record {
      some = omega (arith, len, all);
      few = omega (arith, len, all);
      ours = subst (All (λ (n : ℕ). (1 ≤ n) × (n ≤ length houses))) (sym is)
          (All-map (λ (n : ℕ). (1 ≤ n) × (n ≤ length houses)) (λ (s : Spot). s.provider) spots (All-weaker (IsAmong houses) (λ (s : Spot). (1 ≤ s.provider) × (s.provider ≤ length houses)) (λ s a. a.known) spots among));
    }

-- a page that begins by a byte
pub page_start : (page end bytes : ℕ) → page ≤ end / bytes → page * bytes ≤ end
page_start page end bytes le = omega (arith, mul-le-mul_right bytes le, div-mul-le_self end bytes)

numbers_same : (xs : List ℕ) → map (λ x. x) xs ≡ xs
numbers_same [] = refl
numbers_same (x ∷ xs) = ap (λ l. x ∷ l) (numbers_same xs)

range_more : (a n j : ℕ) → a + n ≡ j → range_with_len a (n + 1) ≡ range_with_len a n ++ j ∷ []
range_more a n j e = sym (numbers_same (range_with_len a (n + 1))) ∙ map-range_with_len_more (λ x. x) a n j e ∙ ap (λ l. l ++ j ∷ []) (numbers_same (range_with_len a n))

pub page_added : (s : Version) (first page : ℕ) (old new : List PageHolders) → first ≤ page → map (λ (p : PageHolders). p.page) old ≡ range_with_len first (page - first) → AddsPage s old page new
    → map (λ (p : PageHolders). p.page) new ≡ range_with_len first (page + 1 - first)
page_added s first page old new le was a =
    let f : PageHolders → ℕ = λ (p : PageHolders). p.page in
    let e : page + 1 - first ≡ page - first + 1 = omega arith in
    ap (map f) a.added ∙ map-append f old (a.place ∷ []) ∙ ap (λ l. l ++ a.place.page ∷ []) was ∙ ap (λ p. range_with_len first (page - first) ++ p ∷ []) a.is
    ∙ sym (range_more first (page - first) page (omega arith)) ∙ ap (range_with_len first) (sym e)

pub lie_added : (s : Version) (page : ℕ) (old new : List PageHolders) → ((houses : List House) → PagesLieIn houses s → All (LieAt (length houses)) old) → AddsPage s old page new
    → (houses : List House) → PagesLieIn houses s → All (LieAt (length houses)) new
lie_added s page old new was a houses lie =
    subst (All (LieAt (length houses))) (sym a.added)
    (All-append (LieAt (length houses)) old (a.place ∷ []) (was houses lie) (All-cons (LieAt (length houses)) a.place [] (a.lies houses lie) (All-nil (LieAt (length houses)))))

-- the pages from that of the first byte of a range to that of its last byte
pub all_met : (p offset count bytes first last end page : ℕ) → 1 ≤ count → bytes ≡ p → first ≡ offset / bytes → last ≡ end / bytes → end + 1 ≡ offset + count → page ≡ last + 1
    → range_with_len first (page - first) ≡ pages_met p offset count
all_met p offset count bytes first last end page some same first_is last_is end_is page_is =
    let end_at : end ≡ offset + count - 1 = omega (arith, end_is, some) in
    let from : first ≡ offset / p = first_is ∙ ap (λ b. offset / b) same in
    let to : last ≡ (offset + count - 1) / p = last_is ∙ ap (λ b. end / b) same ∙ ap (λ x. x / p) end_at in
    let many : page - first ≡ (offset + count - 1) / p + 1 - offset / p = omega (arith, from, to, page_is) in
    ap (λ a. range_with_len a (page - first)) from ∙ ap (range_with_len (offset / p)) many

pub in_order : (offset count bytes first last end : ℕ) → 1 ≤ bytes → 1 ≤ count → first ≡ offset / bytes → last ≡ end / bytes → end + 1 ≡ offset + count → first ≤ last
in_order offset count bytes first last end pos some first_is last_is end_is =
    let le : offset ≤ end = omega (arith, end_is, some) in
    let down : offset / bytes * bytes ≤ end = omega (arith, div-mul-le_self offset bytes, le) in
    let div : offset / bytes ≤ end / bytes = (le-div_iff_mul-le {k = bytes} {x = offset / bytes} {y = end} (omega (arith, pos))).1 down in
    omega (arith, div, first_is, last_is)

pub places_ok : (f : Files) (p count' offset count : ℕ) (r : Result (List PageHolders) NoMemory) → p ≡ f.store.fixed.page → count' ≡ f.providers
    → IfOk r (λ places. map (λ (h : PageHolders). h.page) places ≡ pages_of p offset count) → IfOk r (λ places. All (LieAt count') places) → IfOk r (ArePlaces f offset count)
places_ok f p count' offset count (Ok places) same many which lie = record {
  which = which ∙ ap (λ b. pages_of b offset count) same;
  lie = subst (λ n. All (LieAt n) places) many lie;
}
places_ok f p count' offset count (Err out) same many which lie = tt
