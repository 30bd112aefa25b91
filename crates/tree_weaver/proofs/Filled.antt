-- A page's buffer that is filled with older bytes first, and then with own ones.
use Rattle.std.proofs.Common.{◌≡◌, ℕ, ◌+◌, ◌-◌, ◌*◌, ◌≤◌, List, [], ◌∷◌, ◌++◌, length, take, drop, min, max, arith, inl, inr, refl, ap, sym, ◌∙◌, length-append, length-drop, append_assoc, append-nil}
use Rattle.std.specs.Prelude.{slice_range}
use Rattle.std.proofs.lemmas.Bool.{cases_lt}
use Rattle.std.proofs.lemmas.List.{take-append-le, take_all, drop_all, drop-drop}
use borrow.Rule.Slice.PartMut.{post_of}
use Rattle.blob_model.specs.Content.{put, content}
use Rattle.snapshot.specs.Versions.{Version, size_now, updates_of}
use Rattle.page_store.specs.Stored.{bytes_of_pages}
use Rattle.range_log.specs.Rows.{leaf_from, leaf_len, leaf_start}
use Rattle.border_hints.specs.Numbered.{NumberedUpdate}
use Rattle.range_reader.specs.Reading.{bytes_at, page_in}
use Rattle.range_reader.proofs.Parts.{length_part}
use Rattle.tree_weaver.specs.Planned.{own_extent}
use Rattle.tree_weaver.specs.Anew.{own_part, bytes_anew}

empty : (l : List ℕ) → length l ≡ 0 → l ≡ []
empty [] e = refl
empty (x ∷ l) e = absurd (omega (arith, e))

take_min : (p : ℕ) (l : List ℕ) → take (min p (length l)) l ≡ take p l
take_min p l =
    elim (cases_lt p (length l)) [
      | inl lt ↦ (let e : min p (length l) ≡ p = omega arith in ap (λ n. take n l) e)
      | inr past ↦ (let e : min p (length l) ≡ length l = omega arith in ap (λ n. take n l) e ∙ take_all (length l) l (omega arith) ∙ sym (take_all p l (omega arith)))
    ]

-- the valid bytes of a page are read as those from its first byte on
pub page_read : (s : Version) (begin older page : ℕ) → begin ≡ page * s.page_size → older ≡ min s.page_size (size_now s - page * s.page_size) → bytes_at s begin older ≡ page_in s (length s.rows) page
page_read s begin older page at is =
    let c : List ℕ = content (updates_of s) (length s.rows) in
    let left : length (drop begin c) ≡ size_now s - begin = length-drop begin c in
    let n : begin + older - begin ≡ min s.page_size (length (drop begin c)) = omega (arith, at, is, left) in
    ap (λ x. take x (drop begin c)) n ∙ take_min s.page_size (drop begin c) ∙ ap (λ x. take s.page_size (drop x c)) at

-- own bytes over older ones that begin the buffer
pub put_filled : (r z o : List ℕ) (start : ℕ) → start ≤ length r → length r + length z ≡ max (length r) (start + length o)
    → take start (r ++ z) ++ (o ++ drop (start + length o) (r ++ z)) ≡ put r start o
put_filled r z o start begins whole =
    let n : ℕ = start + length o in
    let rest : drop n (r ++ z) ≡ drop n r = elim (cases_lt (length r) n) [
      | inl over ↦ drop_all n (r ++ z) (omega (arith, length-append r z, whole)) ∙ sym (drop_all n r (omega arith))
      | inr under ↦ ap (λ l. drop n (r ++ l)) (empty z (omega (arith, whole))) ∙ ap (drop n) (append-nil r)
    ] in
    ap (λ l. l ++ (o ++ drop n (r ++ z))) (take-append-le start r z begins)
    ∙ ap (λ l. take start r ++ (o ++ l)) rest
    ∙ sym (append_assoc (take start r) o (drop n r))

-- so the buffer of a page has its bytes after the update
pub page_filled : (t : NumberedUpdate) (page older start from len b : ℕ) (r own out : List ℕ) → length r ≡ older
    → start ≡ leaf_start t.snapshot.page_size (own_extent t) page → from ≡ leaf_from t.snapshot.page_size (own_extent t) page → len ≡ leaf_len t.snapshot.page_size (own_extent t) page
    → start ≤ older → length out ≡ max older (start + len) → from + len ≤ length (bytes_of_pages t.pages.pages)
    → r ≡ page_in t.snapshot (length t.snapshot.rows) page → b ≡ len → own ≡ slice_range (bytes_of_pages t.pages.pages) from (from + b)
    → take start (r ++ drop older out) ++ (own ++ post_of start (start + len - start) (r ++ drop older out)) ≡ bytes_anew t page
page_filled t page older start from len b r own out size starts begins counts first whole within old b_is own_is =
    let p : ℕ = t.snapshot.page_size in
    let bytes : List ℕ = bytes_of_pages t.pages.pages in
    let n : from + b - from ≡ len = omega (arith, b_is) in
    let mine : own ≡ take len (drop from bytes) = own_is ∙ ap (λ x. take x (drop from bytes)) n in
    let same : own ≡ own_part t page = mine ∙ ap (λ x. take x (drop from bytes)) counts ∙ ap (λ x. take (leaf_len p (own_extent t) page) (drop x bytes)) begins in
    let count : length own ≡ len = ap length mine ∙ length_part bytes from len within in
    let z : List ℕ = drop older out in
    let rest : length z ≡ length out - older = length-drop older out in
    let k : start + (start + len - start) ≡ start + length own = omega (arith, count) in
    ap (λ l. take start (r ++ z) ++ (own ++ l)) (drop-drop (start + len - start) start (r ++ z) ∙ ap (λ x. drop x (r ++ z)) k)
    ∙ put_filled r z own start (omega (arith, first, size)) (omega (arith, size, rest, whole, count))
    ∙ ap (λ l. put l start own) old
    ∙ ap (λ x. put (page_in t.snapshot (length t.snapshot.rows) page) x own) starts
    ∙ ap (put (page_in t.snapshot (length t.snapshot.rows) page) (leaf_start p (own_extent t) page)) same

-- how many bytes the update's own part of the buffer has room for
pub filled_room : (older start len : ℕ) (r out : List ℕ) → length out ≡ max older (start + len) → start ≤ older → length r ≡ older
    → length (take (start + len - start) (drop start (r ++ drop older out))) ≡ len
filled_room older start len r out whole first size =
    let n : length (r ++ drop older out) ≡ length out = length-append r (drop older out) ∙ (let d = length-drop older out in omega (arith, d, size, whole)) in
    let k : start + len - start ≡ len = omega arith in
    ap (λ x. length (take x (drop start (r ++ drop older out)))) k ∙ length_part (r ++ drop older out) start len (omega (arith, n, whole))
