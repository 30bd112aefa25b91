-- The least load taken from every load.
use Rattle.std.proofs.Common.{◌≡◌, ℕ, suc, ◌+◌, ◌-◌, ◌*◌, ◌<◌, ◌≤◌, List, [], ◌∷◌, ◌++◌, length, get_or, take, drop, map, sum, All, Contains, IsTrue, IsPermutation, sym, ap, ◌∙◌, subst, arith}
use Rattle.std.specs.List.{range_with_len}
use Rattle.std.proofs.lemmas.List.{get_or-map, length-map, take_at}
use Rattle.std.proofs.lemmas.List.Sums.{sum_by-cons, sum_by-le}
use Rattle.std.proofs.lemmas.Bool.Decides.{nat_tests}
use Rattle.replica_place.specs.Order.{IsProvider, load_of, comes_before, IsOrder, IsLeast}
use Rattle.provider_manager.specs.Loads.{IsEven, IsLowered}
use Rattle.provider_manager.proofs.Evenness.{order-within}

pub sum-lowered : (m : ℕ) (xs : List ℕ) → All (λ x. m ≤ x) xs → sum (map (λ x. x - m) xs) + length xs * m ≡ sum xs
sum-lowered m [] h = omega arith
sum-lowered m (x ∷ xs) h =
    let here : m ≤ x = h 0 0 (omega arith) in
    omega (arith, sum_by-cons (λ y. y) x xs, sum_by-cons (λ y. y) (x - m) (map (λ y. y - m) xs), sum-lowered m xs (λ k d l. h (suc k) d (omega arith)))

load-lowered : (loads : List ℕ) (m p : ℕ) → IsProvider loads p → load_of (map (λ x. x - m) loads) p ≡ load_of loads p - m
load-lowered loads m p h = get_or-map (λ x. x - m) loads (p - 1) 0 0 (omega (arith, h.0, h.1))

same-order : (loads now : List ℕ) (m p q : ℕ) → load_of now p ≡ load_of loads p - m → load_of now q ≡ load_of loads q - m → m ≤ load_of loads p → m ≤ load_of loads q → IsTrue (comes_before loads p q) → IsTrue (comes_before now p q)
same-order loads now m p q a b c d h = grind (arith, nat_tests)

order-lowered : (loads order : List ℕ) (m : ℕ) → All (λ x. m ≤ x) loads → IsOrder loads order → IsOrder (map (λ x. x - m) loads) order
order-lowered loads order m under h = record {
  all = let P : ℕ → Type 0 = λ n. IsPermutation (range_with_len 1 n) order in subst P (sym (length-map loads (λ x. x - m))) h.all;
  in_order = λ i j d l k.
      let p = get_or order i d in
      let q = get_or order j d in
      let wp = order-within loads order h i d (omega arith) in
      let wq = order-within loads order h j d k in
      same-order loads (map (λ x. x - m) loads) m p q (load-lowered loads m p wp) (load-lowered loads m q wq)
      (under (p - 1) 0 (omega (arith, wp.0, wp.1))) (under (q - 1) 0 (omega (arith, wq.0, wq.1))) (h.in_order i j d l k);
}

-- a choice that is least stays so
pub least-lowered : (old new : List ℕ) → IsLowered old new → (r : ℕ) (chosen : List ℕ) → IsLeast old r chosen → IsLeast new r chosen
least-lowered old new w r chosen h = record {
  order = h.order;
  is_order = let P : List ℕ → Type 0 = λ xs. IsOrder xs h.order in subst P (sym w.lowered) (order-lowered old h.order w.least w.under h.is_order);
  first = h.first;
}

-- loads that differ by at most 1 become 0 and 1
low-lowered : (old new : List ℕ) → IsLowered old new → IsEven old → All (λ x. x ≤ 1) new
low-lowered old new w even =
    let m = w.least in
    let P : List ℕ → Type 0 = All (λ x. x ≤ 1) in
    subst P (sym w.lowered) (λ k d l.
    let small : k < length old = omega (arith, length-map old (λ x. x - m)) in
    let is : get_or (map (λ x. x - m) old) k d ≡ get_or old k 0 - m = get_or-map (λ x. x - m) old k 0 d small in
    let close : get_or old k 0 ≤ get_or old w.one.0 m + 1 = even k 0 small w.one.0 m w.one.1 in
    omega (arith, is, close, w.one.2))

pub even-lowered : (old new : List ℕ) → IsLowered old new → IsEven old → IsEven new
even-lowered old new w even = λ i d l j e m. omega (arith, low-lowered old new w even i d l, low-lowered old new w even j e m)

pub small-lowered : (old new : List ℕ) → IsLowered old new → IsEven old → length old ≤ 64 → sum new ≤ 64
small-lowered old new w even h =
    let count : length new ≡ length old = ap length w.lowered ∙ length-map old (λ x. x - w.least) in
    omega (arith, count, sum_by-le (λ x. x) 1 new (low-lowered old new w even))

-- from what was read of a book's items and written over them
pub lowered-from : (old items seen written new : List ℕ) (len m : ℕ) → items ≡ old → seen ≡ items → Contains seen m → All (λ x. m ≤ x) seen → written ≡ items → new ≡ map (λ x. x - m) written → length new ≡ len → IsLowered old (take len (new ++ drop (length new) items))
lowered-from old items seen written new len m a b one under c is count =
    let same : seen ≡ old = b ∙ a in
    let P : List ℕ → Type 0 = λ xs. Contains xs m in
    let Q : List ℕ → Type 0 = All (λ x. m ≤ x) in
    record {
      least = m;
      one = subst P same one;
      under = subst Q same under;
      lowered = take_at new (drop (length new) items) len count ∙ is ∙ ap (λ xs. map (λ x. x - m) xs) (c ∙ a);
    }
