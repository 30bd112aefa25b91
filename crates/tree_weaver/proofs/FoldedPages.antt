-- Which pages an update stores anew, as the code tests it, and where they stand among its stored pages.
use Rattle.std.proofs.Common.{◌≡◌, ◌≢◌, ℕ, ◌+◌, ◌-◌, ◌*◌, ◌<◌, ◌≤◌, List, [], ◌∷◌, length, arith, inl, inr, ap, sym, subst, ◌∙◌, true, false, Bool}
use Rattle.std.specs.Prelude.{◌==◌, not, cond, if◌then◌else◌}
use Rattle.std.specs.List.{filter, position_or_len}
use Rattle.std.proofs.lemmas.Bool.Decides.{nat_tests}
use Rattle.tree_geom.specs.declared.touch.Touch.{Touch}
use Rattle.tree_geom.specs.Geometry.{covers}
use Rattle.tree_geom.specs.Laws.{TouchesTellCover}
use Rattle.range_log.specs.Rows.{pages_in}
use Rattle.page_store.specs.Stored.{Cut, IsCut, bytes_of_pages}
use Rattle.snapshot.proofs.Growing.{cut_count}
use Rattle.border_hints.specs.Numbered.{NumberedUpdate, IsValidTicket, own_touch}
use Rattle.tree_geom.proofs.Spans.{page_pos}
use Rattle.tree_weaver.specs.Planned.{own_depth, own_folded, own_place}
use Rattle.tree_weaver.proofs.Shapes.{page_low, page_high, uncovered, uncovered_edge}

-- a page that the update touches begins before the update ends, and ends after it begins
pub page_touched : (t : NumberedUpdate) (page size : ℕ) → IsValidTicket t → size ≡ t.snapshot.page_size → (own_touch t).first ≤ page → page ≤ (own_touch t).last
    → (page * size ≡ page * t.snapshot.page_size) × (page * size < t.at + t.len) × (t.at < page * size + size)
page_touched t page size is same first last =
    let p : ℕ = t.snapshot.page_size in
    let begins : page * size ≡ page * p = ap (λ x. page * x) same in
    let low : t.at < page * p + p = page_low t.at p page (page_pos p is.published.page_size) first in
    let high : page * p ≤ t.at + t.len - 1 = page_high (t.at + t.len - 1) p page last in
    (begins, omega (arith, begins, high, is.some), omega (arith, begins, low, same))

-- the update's own stored pages are as many as its bytes need
pub pages_counted : (t : NumberedUpdate) (told : Cut) (count : ℕ) → IsValidTicket t → told ≡ t.pages → IsCut told.page_size told.pages → count ≡ length told.pages
    → count ≡ pages_in t.snapshot.page_size t.len
pages_counted t told count is same cut counted =
    let p : ℕ = t.snapshot.page_size in
    let P : Cut → Type 0 = λ c. IsCut c.page_size c.pages in
    let here : P t.pages = subst P same cut in
    let C : ℕ → Type 0 = λ n. IsCut n t.pages.pages in
    let all : length t.pages.pages ≡ pages_in p (length (bytes_of_pages t.pages.pages)) = cut_count p t.pages.pages (page_pos p is.published.page_size) (subst C is.page_size here) in
    counted ∙ ap (λ (c : Cut). length c.pages) same ∙ all ∙ ap (pages_in p) (sym is.len)

-- the place of the first page, and that of the other one
head_place : (f : ℕ → Bool) (first : ℕ) (l : List ℕ) → f first ≡ true → position_or_len (λ j. j == first) (filter f (first ∷ l)) ≡ 0
head_place f first l e =
    let own : (first == first) ≡ true = grind (arith, nat_tests) in
    ap (λ b. position_or_len (λ j. j == first) (cond b (first ∷ filter f l) (filter f l))) e
    ∙ ap (λ b. cond (not b) (1 + position_or_len (λ j. j == first) (filter f l)) 0) own

first_place : (f : ℕ → Bool) (b : Bool) (first last : ℕ) → f first ≡ true → position_or_len (λ j. j == first) (filter f (if b then first ∷ [] else first ∷ last ∷ [])) ≡ 0
first_place f true first last e = head_place f first [] e
first_place f false first last e = head_place f first (last ∷ []) e

tail_place : (b : Bool) (first last : ℕ) → (first == last) ≡ false
    → position_or_len (λ j. j == last) (cond b (first ∷ last ∷ []) (last ∷ [])) ≡ (if b then 1 else 0)
tail_place true first last apart =
    let own : (last == last) ≡ true = grind (arith, nat_tests) in
    ap (λ b. cond (not b) (1 + cond (not (last == last)) (1 + 0) 0) 0) apart ∙ ap (λ b. 1 + cond (not b) (1 + 0) 0) own
tail_place false first last apart =
    let own : (last == last) ≡ true = grind (arith, nat_tests) in
    ap (λ b. cond (not b) (1 + 0) 0) own

last_place : (f : ℕ → Bool) (first last : ℕ) → (first == last) ≡ false → f last ≡ true
    → position_or_len (λ j. j == last) (filter f (if first == last then first ∷ [] else first ∷ last ∷ [])) ≡ (if f first then 1 else 0)
last_place f first last apart e =
    ap (λ b. position_or_len (λ j. j == last) (filter f (if b then first ∷ [] else first ∷ last ∷ []))) apart
    ∙ ap (λ (b : Bool). position_or_len (λ j. j == last) (cond (f first) (first ∷ cond b (last ∷ []) []) (cond b (last ∷ []) []))) e
    ∙ tail_place (f first) first last apart

pub place_first : (t : NumberedUpdate) (page : ℕ) → page ≡ (own_touch t).first → own_folded t page ≡ true → 0 ≡ own_place t page
place_first t page is anew =
    let u = own_touch t in
    let f : ℕ → Bool = λ i. own_folded t i in
    sym (first_place f (u.first == u.last) u.first u.last (ap f (sym is) ∙ anew)) ∙ ap (own_place t) (sym is)

pub place_last : (t : NumberedUpdate) (page : ℕ) → page ≢ (own_touch t).first → page ≡ (own_touch t).last → own_folded t page ≡ true
    → (if own_folded t (own_touch t).first then 1 else 0) ≡ own_place t page
place_last t page other is anew =
    let u = own_touch t in
    let f : ℕ → Bool = λ i. own_folded t i in
    let apart : (u.first == u.last) ≡ false = grind (arith, nat_tests, other, is) in
    sym (last_place f u.first u.last apart (ap f (sym is) ∙ anew)) ∙ ap (own_place t) (sym is)

-- and the place of another page than the first, as the code tests it
pub place_other : TouchesTellCover → (t : NumberedUpdate) (page : ℕ) (b : Bool) → IsValidTicket t → (u : Touch) → u ≡ own_touch t → (own_touch t).first ≤ page → page ≤ (own_touch t).last
    → page ≢ u.first → own_folded t page ≡ true → b ≡ own_folded t u.first → (if b then 1 else 0) ≡ own_place t page
place_other tells t page b is u same from to other anew first =
    let p : ℕ = t.snapshot.page_size in
    let open' : covers p t.at t.len t.size page ≡ false = uncovered (covers p t.at t.len t.size page) (own_depth t page == 0) anew in
    let N : Touch → Type 0 = λ v. page ≢ v.first in
    let past : page ≢ (own_touch t).first = subst N same other in
    let last : page ≡ (own_touch t).last =
    elim (uncovered_edge tells t.at t.len p t.size page (page_pos p is.published.page_size) is.some (omega (arith, is.size)) from to open') [
      | inl e ↦ absurd (past e)
      | inr e ↦ e
    ] in
    ap (λ x. if x then 1 else 0) (first ∙ ap (λ (v : Touch). own_folded t v.first) same) ∙ place_last t page past last anew
