-- The steps on a board's list keep its rule.
use Rattle.std.proofs.Common.{◌≡◌, ◌≢◌, ℕ, zero, suc, ◌+◌, ◌<◌, ◌≤◌, ◌==◌, ◌⊎◌, Bool, true, false, List, [], ◌∷◌, ◌++◌, length, set, refl, ap, sym, ◌∙◌, subst, arith, inl, inr, length-append, None, Some, slice_get, ⊎_elim}
use Rattle.std.proofs.lemmas.List.{append-nil, get_or-set_other}
use Rattle.std.proofs.Math.ListN.{length-set}
use Rattle.std.proofs.lemmas.Bool.Decides.{nat_tests}
use Rattle.std.proofs.lemmas.Option.{slice_get_within}
use mathlib.Core.List.{IsPrefix}
use prog.Atomic.{either}
use Rattle.logbook.specs.Pages.{Cell, cell, keeps, gives, adds, Nib, no_nib, may_write, step, Away, Moves, Goes}
use Rattle.read_board.specs.declared.refresh.Refresh.{Refresh}
use Rattle.read_board.specs.Refreshes.{updates_of, IsRising, MayFollow}
use Rattle.read_board.specs.Rules.{IsKept, IsPenOf, Opens, Adds, Meets}
use Rattle.read_board.proofs.Fronts.{prefix_whole, prefix_count}

-- what stands in a longer list stood in the shorter, or is the last
pub snoc_get : (xs : List Refresh) (e u : Refresh) (k : ℕ) → slice_get (xs ++ e ∷ []) k ≡ Some u → (slice_get xs k ≡ Some u) ⊎ ((k ≡ length xs) × (e ≡ u))
snoc_get [] e u zero h = inr (refl, cc (h))
snoc_get [] e u (suc k) h = absurd (cc (h))
snoc_get (x ∷ xs) e u zero h = inl h
snoc_get (x ∷ xs) e u (suc k) h = ⊎_elim (λ (t : slice_get xs k ≡ Some u). inl t) (λ (t : (k ≡ length xs) × (e ≡ u)). inr (omega (arith, t.0), t.1)) (snoc_get xs e u k h)

pub rising_snoc : (log : List Refresh) (e : Refresh) → IsRising log → MayFollow log e → IsRising (log ++ e ∷ [])
rising_snoc log e rising may i j a b less at_i at_j same =
    ⊎_elim
    (λ (u : slice_get log j ≡ Some b). ⊎_elim (λ (t : slice_get log i ≡ Some a). rising i j a b less t u same) (λ (t : (i ≡ length log) × (e ≡ a)). absurd (omega (arith, t.0, less, slice_get_within log j b u))) (snoc_get log e a i at_i))
    (λ (u : (j ≡ length log) × (e ≡ b)). ⊎_elim (λ (t : slice_get log i ≡ Some a). subst (λ (z : Refresh). a.blob ≡ z.blob → IsPrefix (updates_of a) (updates_of z)) u.1 (may i a t) same) (λ (t : (i ≡ length log) × (e ≡ a)). absurd (omega (arith, t.0, u.0, less))) (snoc_get log e a i at_i))
    (snoc_get log e b j at_j)

abbrev pub shown : List Refresh → List Refresh
shown log = []

abbrev pub moved : List Refresh → List Refresh → ℕ → Type 0
moved xs ys n = Unit {0}

-- ---- which words are away
-- once a word came home, no other came
away_set : (cs : List Cell) (key k x : ℕ) → k < length cs → (cell (set cs key (x, true)) k).1 ≡ false → (k ≢ key) × ((cell cs k).1 ≡ false)
away_set [] key k x less away = absurd (omega arith)
away_set (c ∷ cs) zero zero x less away = absurd (cc (away))
away_set (c ∷ cs) zero (suc k) x less away = ((λ e. omega (arith, e)), away)
away_set (c ∷ cs) (suc key) zero x less away = ((λ e. omega (arith, e)), away)
away_set (c ∷ cs) (suc key) (suc k) x less away = let t = away_set cs key k x (omega arith) away in ((λ e. t.0 (omega (arith, e))), t.1)

-- with one more, the others are as they were
away_snoc : (cs : List Cell) (k x : ℕ) → k < length cs + 1 → (cell (cs ++ (x, false) ∷ []) k).1 ≡ false → (k ≡ length cs) ⊎ ((k < length cs) × ((cell cs k).1 ≡ false))
away_snoc [] zero x less away = inl refl
away_snoc [] (suc k) x less away = absurd (omega arith)
away_snoc (c ∷ cs) zero x less away = inr (omega arith, away)
away_snoc (c ∷ cs) (suc k) x less away = ⊎_elim (λ (t : k ≡ length cs). inl (omega (arith, t))) (λ (t : (k < length cs) × ((cell cs k).1 ≡ false)). inr (omega (arith, t.0), t.1)) (away_snoc cs k x (omega arith) away)

-- ---- what the steps leave
module _ (m : ℕ) (h : Bool) (rest : List Cell) (log : List Refresh) (kept : IsKept ((m, h) ∷ rest) log) where
  head_true : h ≡ true
  head_true = ap (λ (c : Cell). c.1) kept.count

  count_is : m ≡ length log + (length rest + 1)
  count_is = let t : m ≡ length log + length ((m, h) ∷ rest) = ap (λ (c : Cell). c.0) kept.count in omega (arith, t)

  stays_kept : IsKept ((m, true) ∷ rest) (log ++ [])
  stays_kept =
      let same : IsKept ((m, true) ∷ rest) log = subst (λ (b : Bool). IsKept ((m, b) ∷ rest) log) head_true kept in
      subst (λ (l : List Refresh). IsKept ((m, true) ∷ rest) l) (sym (append-nil log)) same

  opened_kept : (m' : ℕ) → m' ≡ m + 1 → IsKept (((m', true) ∷ rest) ++ (0, false) ∷ []) (log ++ [])
  opened_kept m' next =
      let all = append-nil log in
      let count : length (rest ++ (0, false) ∷ []) ≡ length rest + 1 = length-append rest ((0, false) ∷ []) in
      let value : m' ≡ length (log ++ []) + length ((m', true) ∷ (rest ++ (0, false) ∷ [])) = omega (arith, next, count_is, count, ap length all) in
      record {
        some = omega arith;
        count = ap (λ (n : ℕ). (n, true)) value;
        room = omega (arith, kept.room, count, ap length all);
        away = λ k less away. opened_away k (omega (arith, less, count)) away;
        rising = subst IsRising (sym all) kept.rising;
      }
    where
      opened_away : (k : ℕ) → k < length ((m', true) ∷ rest) + 1 → (cell (((m', true) ∷ rest) ++ (0, false) ∷ []) k).1 ≡ false → length (log ++ []) + 2 ≤ k
      opened_away zero less away = absurd (cc (away))
      opened_away (suc k) less away =
          let all = ap length (append-nil log) in
          ⊎_elim (λ (t : k ≡ length rest). omega (arith, t, kept.room, all)) (λ (t : (k < length rest) × ((cell rest k).1 ≡ false)). omega (arith, all, kept.away (suc k) (omega (arith, t.0)) t.1)) (away_snoc rest k 0 (omega arith) away)

  given_kept : (m' key x : ℕ) (e : Refresh) → m' ≡ m + 1 → key ≡ length log + 2 → key < length rest + 1 → IsRising (log ++ e ∷ []) → IsKept (set ((m', true) ∷ rest) key (x, true)) (log ++ e ∷ [])
  given_kept m' key x e next key_is here rising =
      let more : length (log ++ e ∷ []) ≡ length log + 1 = length-append log (e ∷ []) in
      let count : length (set ((m', true) ∷ rest) key (x, true)) ≡ length rest + 1 = omega (arith, length-set ((m', true) ∷ rest) key (x, true)) in
      let value : m' ≡ length (log ++ e ∷ []) + length (set ((m', true) ∷ rest) key (x, true)) = omega (arith, next, count_is, count, more) in
      let not_key : 0 ≢ key = λ t. omega (arith, t, key_is) in
      record {
        some = omega (arith, count);
        count = get_or-set_other ((m', true) ∷ rest) key 0 (x, true) (0, false) not_key ∙ ap (λ (n : ℕ). (n, true)) value;
        room = omega (arith, here, key_is, count, more);
        away = λ k less away. given_away k (omega (arith, less, count)) away;
        rising = rising;
      }
    where
      given_away : (k : ℕ) → k < length ((m', true) ∷ rest) → (cell (set ((m', true) ∷ rest) key (x, true)) k).1 ≡ false → length (log ++ e ∷ []) + 2 ≤ k
      given_away zero less away = let t = away_set ((m', true) ∷ rest) key zero x less away in absurd (cc (t.1))
      given_away (suc k) less away =
          let t = away_set ((m', true) ∷ rest) key (suc k) x less away in
          let low : length log + 2 ≤ suc k = kept.away (suc k) (omega (arith, less)) t.1 in
          let not_first : suc k ≢ length log + 2 = λ e'. t.0 (omega (arith, e', key_is)) in
          omega (arith, low, not_first, length-append log (e ∷ []))

-- ---- the steps
none_kept : (cs : List Cell) (log : List Refresh) → IsKept cs log → length cs ≡ 0 → ⊥
none_kept cs log kept none = omega (arith, none, kept.some)

opens_goes : (v log : List Refresh) (e : Refresh) (old m : ℕ) (h : Bool) (rest : List Cell) → old ≤ length v + (length v + 3) → IsKept ((m, h) ∷ rest) log → IsPrefix v log
    → (b : Bool) → (m == old) ≡ b
    → Goes IsKept shown moved 0 (v, (no_nib, None)) (λ n. either (n == old) (old + 1) n) (Opens (step 0 old (old + 1) e) (v, (no_nib, None))) ((m, h) ∷ rest) log
opens_goes v log e old m h rest few kept pre true is =
    let here : m ≡ old = grind (arith, nat_tests) in
    let count = count_is m h rest log kept in
    let longer = prefix_count v log pre in
    let words : length v + length ((m, h) ∷ rest) ≡ old = omega (arith, here, count, longer, kept.room) in
    let kept' : IsKept (((old + 1, true) ∷ rest) ++ (0, false) ∷ []) (log ++ []) = opened_kept m h rest log kept (old + 1) (omega (arith, here)) in
    (adds, [], None, tt, rw is kept', inl (refl, refl), rw is (words, refl))
opens_goes v log e old m h rest few kept pre false is =
    let kept' = stays_kept m h rest log kept in
    (keeps, [], None, tt, rw is kept', inl (refl, refl), rw is tt)

pub opens_moves : (v : List Refresh) (e : Refresh) (old : ℕ) → old ≤ length v + (length v + 3)
    → Moves IsKept shown moved 0 (v, (no_nib, None)) (λ n. either (n == old) (old + 1) n) (Opens (step 0 old (old + 1) e) (v, (no_nib, None)))
opens_moves v e old few [] log kept pre away = absurd (none_kept [] log kept refl)
opens_moves v e old few ((m, h) ∷ rest) log kept pre away = (omega arith, head_true m h rest log kept, opens_goes v log e old m h rest few kept pre (m == old) refl)

-- whoever has the pen has seen all
seen_all : (v log : List Refresh) (p : Nib) (cs : List Cell) → IsPenOf (length v + 2) p → IsKept cs log → IsPrefix v log → Away p cs → v ≡ log
seen_all v log p cs pen kept pre away =
    let here = away pen.right in
    let low : length log + 2 ≤ p.key = kept.away p.key here.0 here.1 in
    prefix_whole v log pre (omega (arith, low, pen.key))

adds_goes : (v log : List Refresh) (e : Refresh) (p : Nib) (old m : ℕ) (h : Bool) (rest : List Cell) → IsPenOf (length v + 2) p → old ≡ length v + (length v + 4) → MayFollow v e
    → IsKept ((m, h) ∷ rest) log → IsPrefix v log → Away p ((m, h) ∷ rest) → (b : Bool) → (m == old) ≡ b
    → Goes IsKept shown moved 0 (v, (p, None)) (λ n. either (n == old) (old + 1) n) (Adds (step 0 old (old + 1) e) (v, (p, None))) ((m, h) ∷ rest) log
adds_goes v log e p old m h rest pen old_is may kept pre away true is =
    let here : m ≡ old = grind (arith, nat_tests) in
    let same : v ≡ log = seen_all v log p ((m, h) ∷ rest) pen kept pre away in
    let within : p.key < length rest + 1 = omega (arith, (away pen.right).0) in
    let key : p.key ≡ length log + 2 = omega (arith, pen.key, ap length same) in
    let rising' : IsRising (log ++ e ∷ []) = rising_snoc log e kept.rising (subst (λ (l : List Refresh). MayFollow l e) same may) in
    let kept' : IsKept (set ((old + 1, true) ∷ rest) p.key (p.value, true)) (log ++ e ∷ []) = given_kept m h rest log kept (old + 1) p.key p.value e (omega (arith, here)) key within rising' in
    let kept_is = subst (λ (b : Bool). IsKept (set ((either b (old + 1) m, true) ∷ rest) p.key (p.value, true)) (log ++ e ∷ [])) (sym is) kept' in
    (gives, e ∷ [], None, pen.right, kept_is, inl (refl, refl), rw is (ap (λ w. w ++ e ∷ []) (sym same), rising'))
adds_goes v log e p old m h rest pen old_is may kept pre away false is =
    let same : v ≡ log = seen_all v log p ((m, h) ∷ rest) pen kept pre away in
    let kept' = stays_kept m h rest log kept in
    (keeps, [], None, tt, rw is kept', inl (refl, refl), rw is (append-nil log ∙ sym same, refl))

pub adds_moves : (v : List Refresh) (e : Refresh) (p : Nib) (old : ℕ) → IsPenOf (length v + 2) p → old ≡ length v + (length v + 4) → MayFollow v e
    → Moves IsKept shown moved 0 (v, (p, None)) (λ n. either (n == old) (old + 1) n) (Adds (step 0 old (old + 1) e) (v, (p, None)))
adds_moves v e p old pen old_is may [] log kept pre away = absurd (none_kept [] log kept refl)
adds_moves v e p old pen old_is may ((m, h) ∷ rest) log kept pre away = (omega arith, head_true m h rest log kept, adds_goes v log e p old m h rest pen old_is may kept pre away (m == old) refl)

zero_case : (n : ℕ) (b : Bool) → (n == 0) ≡ b → either b 0 n ≡ n
zero_case n true is = let e : n ≡ 0 = grind (arith, nat_tests) in sym e
zero_case n false is = refl

zero_stays : (n : ℕ) → either (n == 0) 0 n ≡ n
zero_stays n = zero_case n (n == 0) refl

pub meets_moves : (v : List Refresh) (e : Refresh) (p : Nib) → p.right ≡ may_write
    → Moves IsKept shown moved 0 (v, (p, None)) (λ n. either (n == 0) 0 n) (Meets (step 0 0 0 e) (v, (p, None)))
meets_moves v e p right [] log kept pre away = absurd (none_kept [] log kept refl)
meets_moves v e p right ((m, h) ∷ rest) log kept pre away =
    let here = away right in
    let low : length log + 2 ≤ p.key = kept.away p.key here.0 here.1 in
    let kept' : IsKept ((either (m == 0) 0 m, true) ∷ rest) (log ++ []) = rw zero_stays (stays_kept m h rest log kept) in
    (omega arith, head_true m h rest log kept, (keeps, [], None, tt, kept', inl (refl, refl), (omega (arith, low, ap length (append-nil log)), refl)))
