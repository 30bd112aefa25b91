-- Reading a log's pieces one after another, for the records of one worker.
use Rattle.std.proofs.Common.{◌≡◌, ◌≢◌, ◌⊎◌, ℕ, ◌+◌, ◌-◌, ◌*◌, ◌/◌, ◌<◌, ◌≤◌, suc, Bool, true, false, cond, eqb, not, List, [], ◌∷◌, ◌++◌, length, get_or, take, drop, map, refl, sym, ap, ◌∙◌, inl, inr, arith, w64, append_assoc, append-nil}
use Rattle.std.specs.Int.{to_be_bytes}
use Rattle.std.specs.Str.{bytes_eq}
use Rattle.std.specs.Bool.{Decides}
use Rattle.std.specs.List.{range_with_len, filter, sum_by}
use Rattle.std.proofs.lemmas.Bool.{false_from_ne_true, not-false, not_from_true, true≢false}
use Rattle.std.proofs.lemmas.Bool.Decides.{same_from_decides, Decides-eqb, Decides-like}
use Rattle.std.proofs.lemmas.List.{drop-drop, get_or_at, length-append, map-id}
use Rattle.std.proofs.lemmas.List.FromFn.{length-map-range_with_len, get_or-map-range_with_len, map-range_with_len_more, sum_by-map-range_with_len_more}
use Rattle.std.proofs.lemmas.Slice.Eq.{bytes_eq-Decides, slice_eq-Decides}
use Rattle.workload_law.specs.Pieces.{record_of, is_by, pieces, records_by, records_of, is_in_order, in_order_of}

-- ---- lists begun by what a function gives
module _ {X : Type 0} (f : ℕ → X) (xs : List X) (next ops : ℕ) where
  not_all : (x : X) (rest : List X) → next ≤ ops → xs ≡ map f (range_with_len 0 next) ++ x ∷ rest → (next ≡ ops) ⊎ (x ≢ f next) → xs ≡ map f (range_with_len 0 ops) → ⊥
  not_all x rest few found wrong all =
      let front : length (map f (range_with_len 0 next)) ≡ next = length-map-range_with_len f 0 next in
      let whole : length (map f (range_with_len 0 ops)) ≡ ops = length-map-range_with_len f 0 ops in
      let same : map f (range_with_len 0 next) ++ x ∷ rest ≡ map f (range_with_len 0 ops) = sym found ∙ all in
      let long : next + suc (length rest) ≡ ops = omega (arith, front, whole, length-append (map f (range_with_len 0 next)) (x ∷ rest), ap length same) in
      let lt : next < ops = omega arith in
      let at : get_or (map f (range_with_len 0 next) ++ x ∷ rest) next x ≡ x = get_or_at (map f (range_with_len 0 next)) x rest x next front in
      let is : get_or (map f (range_with_len 0 ops)) next x ≡ f next = get_or-map-range_with_len f 0 ops next next x lt (omega arith) in
      elim wrong [ inl end ↦ omega arith | inr apart ↦ apart (sym at ∙ (ap (λ (l : List X). get_or l next x) same ∙ is)) ]

  all_there : xs ≡ map f (range_with_len 0 next) → xs ≡ map f (range_with_len 0 ops) → next ≡ ops
  all_there found all = sym (length-map-range_with_len f 0 next) ∙ (ap length (sym found ∙ all) ∙ length-map-range_with_len f 0 ops)

-- ---- pieces
module _ (size : ℕ) (keeps : List ℕ → Bool) (bytes : List ℕ) (n k : ℕ) (lt : k < n) where
  next_piece : pieces size (n - k) (drop (size * k) bytes) ≡ take size (drop (size * k) bytes) ∷ pieces size (n - (k + 1)) (drop (size * (k + 1)) bytes)
  next_piece =
      let count : n - k ≡ suc (n - (k + 1)) = omega arith in
      let further : size * k + size ≡ size * (k + 1) = omega arith in
      ap (λ (i : ℕ). pieces size i (drop (size * k) bytes)) count
      ∙ ap (λ (l : List ℕ). take size (drop (size * k) bytes) ∷ pieces size (n - (k + 1)) l)
      (drop-drop size (size * k) bytes ∙ ap (λ (i : ℕ). drop i bytes) further)

  rest : List (List ℕ)
  rest = filter keeps (pieces size (n - (k + 1)) (drop (size * (k + 1)) bytes))

  kept : keeps (take size (drop (size * k) bytes)) ≡ true → filter keeps (pieces size (n - k) (drop (size * k) bytes)) ≡ take size (drop (size * k) bytes) ∷ rest
  unfolding rest
  kept own = ap (λ (l : List (List ℕ)). filter keeps l) next_piece ∙ ap (λ (t : Bool). cond t (take size (drop (size * k) bytes) ∷ rest) rest) own

  passed : keeps (take size (drop (size * k) bytes)) ≡ false → filter keeps (pieces size (n - k) (drop (size * k) bytes)) ≡ rest
  unfolding rest
  passed other = ap (λ (l : List (List ℕ)). filter keeps l) next_piece ∙ ap (λ (t : Bool). cond t (take size (drop (size * k) bytes) ∷ rest) rest) other

-- ---- what the loop has found before piece k: `next` records of the worker, in order
pub record Found (worker : ℕ) (bytes : List ℕ) (k next : ℕ) : Type 0 where
  pub records : records_by worker bytes ≡ map (record_of worker) (range_with_len 0 next) ++ filter (is_by worker) (pieces 16 (length bytes / 16 - k) (drop (16 * k) bytes))

pub begins : (worker : ℕ) (bytes : List ℕ) → Found worker bytes 0 0
begins worker bytes = record { records = ap (λ (n : ℕ). filter (is_by worker) (pieces 16 n bytes)) (let e : length bytes / 16 ≡ length bytes / 16 - 0 = omega arith in e) }

-- the piece of the loop
abbrev pub piece_at : List ℕ → ℕ → List ℕ
piece_at bytes k = take 16 (drop (16 * k) bytes)

module _ (worker : ℕ) (bytes : List ℕ) (k next : ℕ) (lt : k < length bytes / 16) (found : Found worker bytes k next) where
  pub other_piece : is_by worker (piece_at bytes k) ≡ false → Found worker bytes (k + 1) next
  unfolding rest
  other_piece other = record {
    records = found.records ∙ ap (λ (l : List (List ℕ)). map (record_of worker) (range_with_len 0 next) ++ l) (passed 16 (is_by worker) bytes (length bytes / 16) k lt other);
  }

  own_first : is_by worker (piece_at bytes k) ≡ true
      → records_by worker bytes ≡ map (record_of worker) (range_with_len 0 next) ++ piece_at bytes k ∷ rest 16 (is_by worker) bytes (length bytes / 16) k lt
  own_first own = found.records ∙ ap (λ (l : List (List ℕ)). map (record_of worker) (range_with_len 0 next) ++ l) (kept 16 (is_by worker) bytes (length bytes / 16) k lt own)

  pub own_piece : is_by worker (piece_at bytes k) ≡ true → piece_at bytes k ≡ record_of worker next → Found worker bytes (k + 1) (next + 1)
  unfolding rest
  own_piece own same = record {
    records = own_first own
        ∙ (ap (λ (p : List ℕ). map (record_of worker) (range_with_len 0 next) ++ p ∷ rest 16 (is_by worker) bytes (length bytes / 16) k lt) same
        ∙ (sym (append_assoc (map (record_of worker) (range_with_len 0 next)) (record_of worker next ∷ []) (rest 16 (is_by worker) bytes (length bytes / 16) k lt))
        ∙ ap (λ (l : List (List ℕ)). l ++ rest 16 (is_by worker) bytes (length bytes / 16) k lt) (sym (map-range_with_len_more (record_of worker) 0 next next (omega arith)))));
  }

  pub wrong_piece : (ops : ℕ) → next ≤ ops → is_by worker (piece_at bytes k) ≡ true → (next ≡ ops) ⊎ (piece_at bytes k ≢ record_of worker next) → is_in_order ops bytes worker ≡ false
  unfolding is_in_order
  wrong_piece ops few own wrong =
      false_from_ne_true (is_in_order ops bytes worker) (λ all.
      not_all (record_of worker) (records_by worker bytes) next ops (piece_at bytes k) (rest 16 (is_by worker) bytes (length bytes / 16) k lt) few (own_first own) wrong
      ((slice_eq-Decides bytes_eq-Decides (records_by worker bytes) (records_of worker ops) (is_in_order ops bytes worker) refl).0 all))

-- after the last piece
pub read_all : (worker : ℕ) (bytes : List ℕ) (k next ops : ℕ) → length bytes / 16 ≤ k → Found worker bytes k next → is_in_order ops bytes worker ≡ eqb next ops
unfolding is_in_order
read_all worker bytes k next ops past found =
    let none : length bytes / 16 - k ≡ 0 = omega arith in
    let here : records_by worker bytes ≡ map (record_of worker) (range_with_len 0 next) =
    found.records
    ∙ (ap (λ (n : ℕ). map (record_of worker) (range_with_len 0 next) ++ filter (is_by worker) (pieces 16 n (drop (16 * k) bytes))) none
    ∙ append-nil (map (record_of worker) (range_with_len 0 next))) in
    let tells : Decides (is_in_order ops bytes worker) (records_by worker bytes ≡ records_of worker ops) =
    slice_eq-Decides bytes_eq-Decides (records_by worker bytes) (records_of worker ops) (is_in_order ops bytes worker) refl in
    let too : Decides (eqb next ops) (records_by worker bytes ≡ records_of worker ops) =
    Decides-like (eqb next ops) (λ same. here ∙ ap (λ (n : ℕ). map (record_of worker) (range_with_len 0 n)) same) (all_there (record_of worker) (records_by worker bytes) next ops here) (Decides-eqb next ops) in
    same_from_decides _ _ tells too

-- ---- the tests
width : (k : ℕ) → 16 * k + 16 - 16 * k ≡ 16
width k = omega arith

pub begins_so : (worker k : ℕ) (bytes number : List ℕ) (t r : Bool) → number ≡ to_be_bytes w64 worker → t ≡ bytes_eq (take 8 (take (16 * k + 16 - 16 * k) (drop (16 * k) bytes))) number → t ≡ r
    → is_by worker (piece_at bytes k) ≡ r
unfolding is_by
begins_so worker k bytes number t r is test out =
    ap (λ (l : List ℕ). bytes_eq (take 8 (piece_at bytes k)) l) (sym is)
    ∙ (ap (λ (n : ℕ). bytes_eq (take 8 (take n (drop (16 * k) bytes))) number) (sym (width k)) ∙ (sym test ∙ out))

pub equals : (k : ℕ) (bytes piece : List ℕ) (t : Bool) → t ≡ not (bytes_eq (take (16 * k + 16 - 16 * k) (drop (16 * k) bytes)) piece) → t ≡ false → piece_at bytes k ≡ piece
equals k bytes piece t test out =
    ap (λ (n : ℕ). take n (drop (16 * k) bytes)) (sym (width k))
    ∙ (bytes_eq-Decides (take (16 * k + 16 - 16 * k) (drop (16 * k) bytes)) piece).0 (not-false (bytes_eq (take (16 * k + 16 - 16 * k) (drop (16 * k) bytes)) piece) (sym test ∙ out))

pub differs : (k : ℕ) (bytes piece : List ℕ) (t : Bool) → t ≡ not (bytes_eq (take (16 * k + 16 - 16 * k) (drop (16 * k) bytes)) piece) → t ≡ true → piece_at bytes k ≢ piece
differs k bytes piece t test out = λ same.
    let eq : bytes_eq (take (16 * k + 16 - 16 * k) (drop (16 * k) bytes)) piece ≡ true =
    (bytes_eq-Decides (take (16 * k + 16 - 16 * k) (drop (16 * k) bytes)) piece).1 (ap (λ (n : ℕ). take n (drop (16 * k) bytes)) (width k) ∙ same) in
    true≢false (sym out ∙ (test ∙ not_from_true _ eq))

-- one worker more
pub in_order_more : (n ops : ℕ) (bytes : List ℕ) → in_order_of (n + 1) ops bytes ≡ in_order_of n ops bytes + cond (is_in_order ops bytes (n + 1)) 1 0
in_order_more n ops bytes =
    let one : ℕ → ℕ = λ worker. cond (is_in_order ops bytes worker) 1 0 in
    ap (λ (l : List ℕ). sum_by one l) (sym (map-id (range_with_len 1 (n + 1))))
    ∙ (sum_by-map-range_with_len_more one (λ (k : ℕ). k) 1 n (n + 1) (omega arith)
    ∙ ap (λ (l : List ℕ). sum_by one l + one (n + 1)) (map-id (range_with_len 1 n)))
