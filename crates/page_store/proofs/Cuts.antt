-- Pages that are cut at multiples of one length.
use Rattle.std.proofs.Common.{◌≡◌, ℕ, zero, suc, ◌+◌, ◌*◌, ◌≤◌, ◌-◌, sym, take, drop, List, [], ◌∷◌, ◌++◌, length, arith, ap, ◌∙◌, append-nil, length-append}
use Rattle.std.proofs.Math.Seq.{take-append_seam, drop-append-add}
use Rattle.std.specs.Prelude.{Some, slice_get, slice_range, min}
use Rattle.std.proofs.lemmas.List.Concat.{flat_map-append}
use Rattle.std.specs.List.{AllByRecursion}
use Rattle.std.proofs.lemmas.List.Elements.{recursion_from_All}
use Rattle.page_store.specs.Stored.{Stored, bytes_of_pages, IsCut, AllFull}

cut_more : (page_size : ℕ) (pages : List Stored) (page : Stored) → AllByRecursion (λ (s : Stored). length s.bytes ≡ page_size) pages → 1 ≤ length page.bytes → length page.bytes ≤ page_size → IsCut page_size (pages ++ page ∷ [])
cut_more page_size [] page f a b = (a, b)
cut_more page_size (x ∷ []) page f a b = (f.0, (a, b))
cut_more page_size (x ∷ y ∷ r) page f a b = (f.0, cut_more page_size (y ∷ r) page f.1 a b)

-- one more page after full ones
pub IsCut-push : (page_size : ℕ) (pages : List Stored) (page : Stored) → AllFull page_size pages → 1 ≤ length page.bytes → length page.bytes ≤ page_size → IsCut page_size (pages ++ page ∷ [])
IsCut-push page_size pages page full a b = cut_more page_size pages page (recursion_from_All _ pages full) a b

pub bytes_of_pages-push : (pages : List Stored) (page : Stored) → bytes_of_pages (pages ++ page ∷ []) ≡ bytes_of_pages pages ++ page.bytes
bytes_of_pages-push pages page = flat_map-append (λ (s : Stored). s.bytes) pages (page ∷ []) ∙ ap (λ l. bytes_of_pages pages ++ l) (append-nil page.bytes)

pub length-bytes_of_pages-push : (pages : List Stored) (page : Stored) → length (bytes_of_pages (pages ++ page ∷ [])) ≡ length (bytes_of_pages pages) + length page.bytes
length-bytes_of_pages-push pages page = ap length (bytes_of_pages-push pages page) ∙ length-append (bytes_of_pages pages) page.bytes

range_at : (xs ys : List ℕ) (a b : ℕ) → a ≡ 0 → b ≡ length xs → slice_range (xs ++ ys) a b ≡ xs
range_at xs ys a b p q = let e : length xs - 0 ≡ length xs = omega arith in rw (p, q) (ap (λ n. take n (xs ++ ys)) e ∙ take-append_seam xs ys)

range_past : (xs ys : List ℕ) (a b c d : ℕ) → c ≡ length xs + a → d ≡ length xs + b → slice_range (xs ++ ys) c d ≡ slice_range ys a b
range_past xs ys a b c d p q =
    let e : d - c ≡ b - a = omega arith in
    rw (p, q, drop-append-add xs ys a) (ap (λ n. take n (drop a ys)) (omega arith))

-- a page is the part of the joined bytes from its number times the page size on
pub page_range : (page_size : ℕ) (pages : List Stored) (i : ℕ) (page : Stored) → IsCut page_size pages → slice_get pages i ≡ Some page
    → page.bytes ≡ slice_range (bytes_of_pages pages) (i * page_size) (min ((i + 1) * page_size) (length (bytes_of_pages pages)))
page_range page_size [] i page cut is = cc
page_range page_size (x ∷ []) zero page cut is =
    let e : x ≡ page = cc in
    let n : length (x.bytes ++ []) ≡ length x.bytes + 0 = length-append x.bytes [] in
    ap (λ s. s.bytes) (sym e) ∙ sym (range_at x.bytes [] _ _ (omega arith) (omega (arith, n)))
page_range page_size (x ∷ []) (suc i) page cut is = cc
page_range page_size (x ∷ y ∷ r) zero page cut is =
    let e : x ≡ page = cc in
    let rest = bytes_of_pages (y ∷ r) in
    let n : length (x.bytes ++ rest) ≡ length x.bytes + length rest = length-append x.bytes rest in
    ap (λ s. s.bytes) (sym e) ∙ sym (range_at x.bytes rest _ _ (omega arith) (omega (arith, n)))
page_range page_size (x ∷ y ∷ r) (suc i) page cut is =
    let rest = bytes_of_pages (y ∷ r) in
    let n : length (x.bytes ++ rest) ≡ length x.bytes + length rest = length-append x.bytes rest in
    page_range page_size (y ∷ r) i page cut.1 is ∙ sym (range_past x.bytes rest _ _ _ _ (omega arith) (omega (arith, n)))
