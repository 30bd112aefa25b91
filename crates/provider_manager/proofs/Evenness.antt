-- A replica more at each of the least loaded keeps loads even.
use Rattle.std.proofs.Common.{◌≡◌, ◌≢◌, ℕ, ◌+◌, ◌-◌, ◌<◌, ◌≤◌, inl, inr, List, ◌++◌, length, get_or, take, drop, All, Contains, IsTrue, sym, ap, ◌∙◌, subst, arith}
use Rattle.std.specs.List.{range_with_len}
use Rattle.std.proofs.lemmas.List.{get_or-take, get_or_default, length-take, take_at}
use Rattle.std.proofs.lemmas.List.Elements.{All-from_get_or}
use Rattle.std.proofs.lemmas.List.FromFn.{length-range_with_len, get_or-range_with_len}
use Rattle.std.proofs.lemmas.List.Sorted.{All-permutation, Contains-permutation}
use Rattle.std.proofs.lemmas.Bool.{cases_lt}
use Rattle.std.proofs.lemmas.Bool.Decides.{nat_tests}
use Rattle.replica_place.specs.Order.{IsProvider, load_of, comes_before, IsOrder, IsLeast}
use Rattle.provider_manager.specs.Loads.{with_replicas, IsEven}
use Rattle.provider_manager.proofs.Raising.{AreApart, length-with_replicas, with_replicas-other, with_replicas-one}

before-distinct : (loads : List ℕ) (p q : ℕ) → IsTrue (comes_before loads p q) → p ≢ q
before-distinct loads p q h = grind (arith, nat_tests)

before-load : (loads : List ℕ) (p q : ℕ) → IsTrue (comes_before loads p q) → load_of loads p ≤ load_of loads q
before-load loads p q h = grind (arith, nat_tests)

-- an order has the store's providers alone
pub order-within : (loads order : List ℕ) → IsOrder loads order → All (IsProvider loads) order
order-within loads order h =
    let n = length loads in
    All-permutation (IsProvider loads) (range_with_len 1 n) order h.all
    (All-from_get_or (IsProvider loads) (range_with_len 1 n) 0 (λ i l.
    let small : i < n = omega (arith, length-range_with_len 1 n) in
    let is : get_or (range_with_len 1 n) i 0 ≡ 1 + i = get_or-range_with_len 1 n i 0 small in
    (omega arith, omega arith)))

order-apart : (loads order : List ℕ) → IsOrder loads order → AreApart order
order-apart loads order h = λ i j d l m e.
    let one = order-within loads order h i d (omega arith) in
    let other = order-within loads order h j d m in
    before-distinct loads (get_or order i d) (get_or order j d) (h.in_order i j d l m) (omega (arith, one.0, other.0))

-- each provider has a position in an order
position-of : (loads order : List ℕ) → IsOrder loads order → (k : ℕ) → k < length loads → (a : ℕ) × (a < length order) × (get_or order a 0 - 1 ≡ k)
position-of loads order h k l =
    let n = length loads in
    let all = range_with_len 1 n in
    let is : get_or all k (k + 1) ≡ 1 + k = get_or-range_with_len 1 n k (k + 1) l in
    let in' : Contains all (k + 1) = (k, omega (arith, length-range_with_len 1 n), omega arith) in
    let found : Contains order (k + 1) = Contains-permutation all order (k + 1) h.all in' in
    let same : get_or order found.0 0 ≡ get_or order found.0 (k + 1) = get_or_default order found.0 0 (k + 1) found.1 in
    (found.0, found.1, omega (arith, same, found.2))

-- the load of one of the first r of an order
first-load : (loads order : List ℕ) (r a : ℕ) → AreApart order → a < length order → a < r → get_or order a 0 - 1 < length loads → get_or (with_replicas loads (take r order)) (get_or order a 0 - 1) 0 ≡ get_or loads (get_or order a 0 - 1) 0 + 1
first-load loads order r a apart small first within =
    let ps = take r order in
    let count : length ps ≡ _ = length-take r order in
    let same : get_or ps a 0 ≡ get_or order a 0 = get_or-take r order a 0 first in
    let P : ℕ → Type 0 = λ p. p - 1 < length loads → get_or (with_replicas loads ps) (p - 1) 0 ≡ get_or loads (p - 1) 0 + 1 in
    let apart' : AreApart ps = λ i j d l m e.
    apart i j d l (omega arith) (ap (λ x. x - 1) (sym (get_or-take r order i d (omega arith))) ∙ e ∙ ap (λ x. x - 1) (get_or-take r order j d (omega arith))) in
    subst P same (with_replicas-one loads ps a (omega arith) apart') within

-- the load of another
later-load : (loads order : List ℕ) (r a : ℕ) → AreApart order → a < length order → r ≤ a → get_or (with_replicas loads (take r order)) (get_or order a 0 - 1) 0 ≡ get_or loads (get_or order a 0 - 1) 0
later-load loads order r a apart small later =
    let ps = take r order in
    let count : length ps ≡ _ = length-take r order in
    with_replicas-other loads ps (get_or order a 0 - 1) (λ i d l e.
    apart i a d (omega arith) small
    (ap (λ x. x - 1) (sym (get_or-take r order i d (omega arith))) ∙ e ∙ ap (λ x. x - 1) (get_or_default order a 0 d small)))

even-positions : (loads order : List ℕ) (r : ℕ) → IsOrder loads order → IsEven loads → (a b : ℕ) → a < length order → b < length order → get_or (with_replicas loads (take r order)) (get_or order a 0 - 1) 0 ≤ get_or (with_replicas loads (take r order)) (get_or order b 0 - 1) 0 + 1
even-positions loads order r h even a b la lb =
    let apart = order-apart loads order h in
    let p = get_or order a 0 in
    let q = get_or order b 0 in
    let wp = order-within loads order h a 0 la in
    let wq = order-within loads order h b 0 lb in
    let sp : p - 1 < length loads = omega (arith, wp.0, wp.1) in
    let sq : q - 1 < length loads = omega (arith, wq.0, wq.1) in
    let close : get_or loads (p - 1) 0 ≤ get_or loads (q - 1) 0 + 1 = even (p - 1) 0 sp (q - 1) 0 sq in
    elim (cases_lt a r) [
      | inl fa ↦ elim (cases_lt b r) [
        | inl fb ↦ omega (arith, close, first-load loads order r a apart la fa sp, first-load loads order r b apart lb fb sq)
        | inr fb ↦
            let lower : load_of loads p ≤ load_of loads q = before-load loads p q (h.in_order a b 0 (omega arith) lb) in
            omega (arith, lower, first-load loads order r a apart la fa sp, later-load loads order r b apart lb fb)
      ]
      | inr fa ↦ elim (cases_lt b r) [
        | inl fb ↦ omega (arith, close, later-load loads order r a apart la fa, first-load loads order r b apart lb fb sq)
        | inr fb ↦ omega (arith, close, later-load loads order r a apart la fa, later-load loads order r b apart lb fb)
      ]
    ]

even-order : (loads order : List ℕ) (r : ℕ) → IsOrder loads order → IsEven loads → IsEven (with_replicas loads (take r order))
even-order loads order r h even = λ i d l j e m.
    let after = with_replicas loads (take r order) in
    let count : length after ≡ length loads = length-with_replicas loads (take r order) in
    let one = position-of loads order h i (omega arith) in
    let other = position-of loads order h j (omega arith) in
    let close = even-positions loads order r h even one.0 other.0 one.1 other.1 in
    let here : get_or after (get_or order one.0 0 - 1) 0 ≡ get_or after i d = ap (λ k. get_or after k 0) one.2 ∙ get_or_default after i 0 d l in
    let there : get_or after (get_or order other.0 0 - 1) 0 ≡ get_or after j e = ap (λ k. get_or after k 0) other.2 ∙ get_or_default after j 0 e m in
    omega (arith, close, here, there)

pub even-least : (loads : List ℕ) (r : ℕ) (ps : List ℕ) → IsLeast loads r ps → IsEven loads → IsEven (with_replicas loads ps)
even-least loads r ps h even =
    let P : List ℕ → Type 0 = λ xs. IsEven (with_replicas loads xs) in
    subst P (sym h.first) (even-order loads h.order r h.is_order even)

-- from what was read of a book's items and written over them
pub even-placed : (old items seen written providers chosen new : List ℕ) (len r : ℕ) → items ≡ old → seen ≡ items → IsLeast seen r chosen → written ≡ items → new ≡ with_replicas written providers → providers ≡ chosen → length new ≡ len → IsEven old → IsEven (take len (new ++ drop (length new) items))
even-placed old items seen written providers chosen new len r a b least c is d count even =
    let P : List ℕ → Type 0 = λ xs. IsLeast xs r chosen in
    let all : take len (new ++ drop (length new) items) ≡ with_replicas old chosen = take_at new (drop (length new) items) len count ∙ is ∙ ap (λ xs. with_replicas xs providers) (c ∙ a) ∙ ap (λ ps. with_replicas old ps) d in
    subst IsEven (sym all) (even-least old r chosen (subst P (b ∙ a) least) even)
