-- A buffer that is cut, and its pages joined.
use Rattle.std.proofs.Common.{◌≡◌, ℕ, zero, suc, ◌+◌, ◌-◌, ◌*◌, ◌<◌, ◌≤◌, List, [], ◌∷◌, ◌++◌, length, min, arith, ap, sym, ◌∙◌, refl, get_or, map, take, drop, append-nil, take-add, length-take, length-drop}
use Rattle.std.specs.Prelude.{Option, Some, None}
use Rattle.std.proofs.lemmas.List.{take_all, take_more, get_or-map, get_or-take, length-map}
use Rattle.std.proofs.lemmas.List.Concat.{flat_map-append}
use Rattle.page_store.specs.House.{House}
use Rattle.page_store.specs.Stored.{Stored, bytes_of_pages, AllFull}
use Rattle.page_fan.specs.Answer.{page_of, IsStoredAs, AreAnswered, HaveLengths}

-- one more page in the joined bytes
pub joined_next : (page_size : ℕ) (buffer : List ℕ) (pages new : List Stored) (page : Stored) (i : ℕ) → bytes_of_pages pages ≡ take (i * page_size) buffer → page.bytes ≡ page_of page_size buffer i
    → new ≡ pages ++ page ∷ [] → bytes_of_pages new ≡ take ((i + 1) * page_size) buffer
joined_next page_size buffer pages new page i so_far cut is =
    let at = i * page_size in
    let next : (i + 1) * page_size ≡ at + page_size = omega arith in
    rw (is, next) (flat_map-append (λ (s : Stored). s.bytes) pages (page ∷ []) ∙ ap (λ l. bytes_of_pages pages ++ l) (append-nil page.bytes)
    ∙ (ap (λ l. l ++ page.bytes) so_far ∙ (ap (λ l. take at buffer ++ l) cut ∙ sym (take-add at page_size buffer))))

page_length : (page_size : ℕ) (buffer : List ℕ) (i : ℕ) → length (page_of page_size buffer i) ≡ min page_size (length buffer - i * page_size)
page_length page_size buffer i = length-take page_size (drop (i * page_size) buffer) ∙ ap (λ n. min page_size n) (length-drop (i * page_size) buffer)

joined_first : (page_size : ℕ) (buffer : List ℕ) (pages : List Stored) (d : Stored) → ((k : ℕ) → k < length pages → (get_or pages k d).bytes ≡ page_of page_size buffer k)
    → (n : ℕ) → n ≤ length pages → bytes_of_pages (take n pages) ≡ take (n * page_size) buffer
joined_first page_size buffer pages d each zero l = let none : 0 * page_size ≡ 0 = omega arith in rw none refl
joined_first page_size buffer pages d each (suc n) l =
    let next : suc n ≡ n + 1 = omega arith in
    let within : n < length pages = omega (arith, l) in
    rw next (joined_next page_size buffer (take n pages) (take (n + 1) pages) (get_or pages n d) n (joined_first page_size buffer pages d each n (omega (arith, l))) (each n within) (take_more pages n d within))

-- pages that are those of the buffer join to what it has up to them
pub joined_so_far : (page_size : ℕ) (buffer : List ℕ) (pages : List Stored) (d : Stored) → ((k : ℕ) → k < length pages → (get_or pages k d).bytes ≡ page_of page_size buffer k)
    → bytes_of_pages pages ≡ take (length pages * page_size) buffer
joined_so_far page_size buffer pages d each =
    let n = length pages in
    ap bytes_of_pages (sym (take_all n pages (omega arith))) ∙ joined_first page_size buffer pages d each n (omega arith)

-- and as many as it takes join to the buffer
pub joined_whole : (page_size : ℕ) (buffer : List ℕ) (pages : List Stored) (d : Stored) → ((k : ℕ) → k < length pages → (get_or pages k d).bytes ≡ page_of page_size buffer k)
    → length buffer ≤ length pages * page_size → bytes_of_pages pages ≡ buffer
joined_whole page_size buffer pages d each whole = joined_so_far page_size buffer pages d each ∙ take_all (length pages * page_size) buffer whole

-- pages that are the first n of an answer are as many, or as many as it has
pub first_few : (answer : List (Option Stored)) (pages : List Stored) (n : ℕ) → map Some pages ≡ take n answer → length pages ≡ min n (length answer)
first_few answer pages n same = sym (length-map pages (λ (p : Stored). Some p)) ∙ (ap length same ∙ length-take n answer)

-- the answer to page k, where that is one of the first n, of which none is lost
pub stored_at : (houses : List House) (page_size : ℕ) (buffer : List ℕ) (placements : List (List ℕ)) (before now : List ℕ) (answer : List (Option Stored)) (pages : List Stored) (n : ℕ)
    → AreAnswered houses page_size buffer placements before now answer → map Some pages ≡ take n answer → (k : ℕ) (d : Stored) → k < length pages
    → IsStoredAs houses (page_of page_size buffer k) (get_or placements k []) before now (get_or pages k d)
stored_at houses page_size buffer placements before now answer pages n answered same k d l =
    let few = first_few answer pages n same in
    let below : k < n = omega (arith, l, few) in
    let within : k < length answer = omega (arith, l, few) in
    let is : get_or answer k None ≡ Some (get_or pages k d) = sym (get_or-take n answer k None below) ∙ (ap (λ xs. get_or xs k None) (sym same) ∙ get_or-map Some pages k d None l) in
    rw is at (answered.each k within)

-- pages behind which another begins are full
pub full_before : (page_size : ℕ) (buffer : List ℕ) (pages : List Stored) → ((k : ℕ) (d : Stored) → k < length pages → (get_or pages k d).bytes ≡ page_of page_size buffer k)
    → ((k : ℕ) → k < length pages → (k + 1) * page_size < length buffer) → AllFull page_size pages
full_before page_size buffer pages each behind = λ k d l.
    let long : length (get_or pages k d).bytes ≡ min page_size (length buffer - k * page_size) = ap length (each k d l) ∙ page_length page_size buffer k in
    let next : (k + 1) * page_size < length buffer = behind k l in
    omega (arith, long, next)

-- the pages of an answer are as long as those of the buffer
pub lengths_of : (houses : List House) (page_size : ℕ) (buffer : List ℕ) (placements : List (List ℕ)) (before now : List ℕ) (answer : List (Option Stored))
    → 1 ≤ page_size → AreAnswered houses page_size buffer placements before now answer → HaveLengths page_size answer
lengths_of houses page_size buffer placements before now answer some answered = λ k page l is.
    let stored : IsStoredAs houses (page_of page_size buffer k) (get_or placements k []) before now page = rw is at (answered.each k l) in
    let long : length page.bytes ≡ min page_size (length buffer - k * page_size) = ap length stored.bytes ∙ page_length page_size buffer k in
    let begun : k * page_size < length buffer = answered.within k l in (
      omega (arith, long, begun, some),
      omega (arith, long),
      λ more. let next : (k + 1) * page_size < length buffer = answered.within (k + 1) more in omega (arith, long, next),
    )

pub index_within : (page_size n m : ℕ) → n * page_size < m * page_size → n < m
index_within page_size n zero h = let none : 0 * page_size ≡ 0 = omega arith in absurd (omega (arith, none, h))
index_within page_size zero (suc m) h = omega arith
index_within page_size (suc n) (suc m) h =
    let left : suc n * page_size ≡ n * page_size + page_size = omega arith in
    let right : suc m * page_size ≡ m * page_size + page_size = omega arith in
    let below = index_within page_size n m (omega (arith, left, right, h)) in
    omega (arith, below)

-- pages that begin within a buffer are no more than the buffer has room in
pub few_pages : (page_size len m n : ℕ) → ((i : ℕ) → i < n → i * page_size < len) → len ≤ m * page_size → n ≤ m
few_pages page_size len m zero within enough = omega arith
few_pages page_size len m (suc n) within enough =
    let last : n * page_size < len = within n (omega arith) in
    let below = index_within page_size n m (omega (arith, last, enough)) in
    omega (arith, below)
