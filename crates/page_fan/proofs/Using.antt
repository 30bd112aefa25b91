-- Doors, where one is used, and then another.
use Rattle.std.proofs.Common.{◌≡◌, ◌≢◌, ℕ, ◌+◌, ◌-◌, ◌<◌, ◌≤◌, List, length, get_or, set, take, arith, sym, ap, ◌∙◌, inl, inr}
use Rattle.std.specs.Prelude.{All, cond, ◌==◌}
use Rattle.std.proofs.lemmas.Bool.{cases_eq, eq-eqb, ne_eqb}
use Rattle.std.proofs.lemmas.List.{get_or-set_same, get_or-set_other, get_or_default}
use Rattle.std.proofs.lemmas.List.Sums.{sum_by_more}
use Rattle.page_store.specs.Calls.{uncalled}
use Rattle.page_store.specs.Page.{Spot}
use Rattle.page_store.proofs.CallsLemmas.{one_call, calls_join}
use Rattle.page_fan.specs.Used.{IsTrueAt, AreTrueAt, StayTrue, CalledOnce, CalledFor}

module _ {D : Type 0} where
  -- where all doors are true, those to the providers of some spots are
  pub true_at_all : (is_true : D → Type 0) (doors : List D) (spots : List Spot) → All is_true doors → AreTrueAt is_true doors spots
  true_at_all is_true doors spots all = λ i s l d within. all ((get_or spots i s).provider - 1) d within

  pub true_since : (is_true : D → Type 0) (old mid : List D) (provider : ℕ) → length mid ≡ length old → StayTrue is_true old mid → IsTrueAt is_true old provider → IsTrueAt is_true mid provider
  true_since is_true old mid provider same stay there = λ d within.
      let was : provider - 1 < length old = omega (arith, same, within) in
      stay (provider - 1) d was (there d was)

  pub stay_true_since : (is_true : D → Type 0) (old mid new : List D) → length mid ≡ length old → StayTrue is_true old mid → StayTrue is_true mid new → StayTrue is_true old new
  stay_true_since is_true old mid new same a b = λ k d l h. b k d (omega (arith, same, l)) (a k d l h)

  pub all_stay_true : (is_true : D → Type 0) (old new : List D) → length new ≡ length old → StayTrue is_true old new → All is_true old → All is_true new
  all_stay_true is_true old new same stay all = λ k d l. let was : k < length old = omega (arith, same, l) in stay k d was (all k d was)

  -- where one door is used
  pub stays_true_at : (is_true : D → Type 0) (doors : List D) (i : ℕ) (x y : D) → i < length doors → x ≡ get_or doors i x → (is_true x → is_true y) → StayTrue is_true doors (set doors i y)
  stays_true_at is_true doors i x y within here stays = λ k d l h.
      elim (cases_eq k i) [
        | inl same ↦
            let was : get_or doors k d ≡ x = ap (λ n. get_or doors n d) same ∙ (get_or_default doors i d x within ∙ sym here) in
            let is : get_or (set doors i y) k d ≡ y = ap (λ n. get_or (set doors i y) n d) same ∙ get_or-set_same doors i y d within in
            rw is (stays (rw was at h))
        | inr differs ↦
            let apart : k ≢ i = differs in
            rw (get_or-set_other doors i k y d apart) h
      ]

  pub called_at : (called : D → D → Type 0) (doors : List D) (provider : ℕ) (x y : D) → 1 ≤ provider → provider - 1 < length doors → x ≡ get_or doors (provider - 1) x → called x y → CalledOnce called provider doors (set doors (provider - 1) y)
  called_at called doors provider x y some within here call = λ k d l.
      let i = provider - 1 in
      elim (cases_eq k i) [
        | inl same ↦
            let was : get_or doors k d ≡ x = ap (λ n. get_or doors n d) same ∙ (get_or_default doors i d x within ∙ sym here) in
            let is : get_or (set doors i y) k d ≡ y = ap (λ n. get_or (set doors i y) n d) same ∙ get_or-set_same doors i y d within in
            rw (eq-eqb provider (k + 1) (omega (arith, same, some)), was, is) (one_call called x y call)
        | inr differs ↦
            let apart : k ≢ i = differs in
            let other : provider ≢ k + 1 = λ e. apart (omega (arith, e)) in
            rw (ne_eqb provider (k + 1) other, get_or-set_other doors i k y d apart) uncalled
      ]

  -- one spot more was asked for
  pub called_next : (called : D → D → Type 0) (spots : List Spot) (i : ℕ) (s : Spot) (old mid new : List D) → i < length spots → length mid ≡ length old
      → CalledFor called (take i spots) old mid → CalledOnce called (get_or spots i s).provider mid new → CalledFor called (take (i + 1) spots) old new
  called_next called spots i s old mid new within same so_far next = λ k d l.
      let here = next k d (omega (arith, same, l)) in
      rw (sum_by_more (λ (p : Spot). cond (p.provider == k + 1) 1 0) spots i s within) (calls_join called _ _ (get_or old k d) (get_or mid k d) (get_or new k d) (so_far k d l) here)
