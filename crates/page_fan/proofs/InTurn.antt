-- Doors that are called for one put after another.
use Rattle.std.proofs.Common.{◌≡◌, ◌≢◌, ℕ, ◌+◌, ◌-◌, ◌*◌, ◌<◌, ◌≤◌, List, [], ◌∷◌, ◌++◌, length, length-append, get_or, set, take, arith, ap, sym, ◌∙◌, inl, inr}
use Rattle.std.proofs.lemmas.Bool.{cases_eq}
use Rattle.std.proofs.lemmas.List.{get_or-set_same, get_or-set_other, get_or_default}
use Rattle.page_store.specs.Calls.{uncalled}
use Rattle.page_store.proofs.CallsLemmas.{one_call, calls_join}
use Rattle.page_fan.specs.declared.stand.Put.{Put}
use Rattle.page_fan.specs.declared.stand.Stand.{Stand}
use Rattle.page_fan.specs.Stands.{group_of, EachPut}
use Rattle.page_fan.specs.Listed.{puts_at, puts_from}
use Rattle.page_fan.proofs.Group.{group_own, group_other, group_append}
use Rattle.page_fan.proofs.ListedPuts.{puts_at_next, puts_from_next}

module _ {D : Type 0} where
  -- one door is called for one put
  pub put_once : (called : D → D → Type 0) (provider at : ℕ) (stands : List (Stand D)) (x y : Stand D) → 1 ≤ provider → provider - 1 < length stands → x ≡ get_or stands (provider - 1) x
      → called x.door y.door → EachPut called (puts_at at (provider ∷ [])) stands (set stands (provider - 1) y)
  put_once called provider at stands x y some within here call = λ k d l.
      let i = provider - 1 in
      let put : Put = record { provider = provider; at = at } in
      elim (cases_eq k i) [
        | inl same ↦
            let own : provider ≡ k + 1 = omega (arith, same, some) in
            let was : get_or stands k d ≡ x = ap (λ n. get_or stands n d) same ∙ (get_or_default stands i d x within ∙ sym here) in
            let is : get_or (set stands i y) k d ≡ y = ap (λ n. get_or (set stands i y) n d) same ∙ get_or-set_same stands i y d within in
            rw (group_own (k + 1) put [] own, was, is) (one_call called x.door y.door call)
        | inr differs ↦
            let apart : k ≢ i = differs in
            let other : provider ≢ k + 1 = λ e. apart (omega (arith, e)) in
            rw (group_other (k + 1) put [] other, get_or-set_other stands i k y d apart) uncalled
      ]

  -- some puts, and then others
  put_both : (called : D → D → Type 0) (puts more : List Put) (first mid now : List (Stand D)) → length now ≡ length mid → EachPut called puts first mid → EachPut called more mid now
      → EachPut called (puts ++ more) first now
  put_both called puts more first mid now same so_far next = λ k d l.
      let within : k < length mid = omega (arith, l, same) in
      let count : length (group_of (k + 1) (puts ++ more)) ≡ length (group_of (k + 1) puts) + length (group_of (k + 1) more) =
      ap length (group_append (k + 1) puts more) ∙ length-append (group_of (k + 1) puts) (group_of (k + 1) more) in
      rw count (calls_join called _ _ (get_or first k d).door (get_or mid k d).door (get_or now k d).door (so_far k d within) (next k d l))

  -- one provider of a page more
  pub put_next : (called : D → D → Type 0) (at : ℕ) (chosen : List ℕ) (i : ℕ) (first mid now : List (Stand D)) → i < length chosen → length now ≡ length mid
      → EachPut called (puts_at at (take i chosen)) first mid → EachPut called (puts_at at (get_or chosen i 0 ∷ [])) mid now → EachPut called (puts_at at (take (i + 1) chosen)) first now
  put_next called at chosen i first mid now l same so_far next =
      let provider = get_or chosen i 0 in
      rw (puts_at_next at chosen i provider l (get_or_default chosen i provider 0 l)) (put_both called (puts_at at (take i chosen)) (puts_at at (provider ∷ [])) first mid now same so_far next)

  -- one page more
  pub put_page : (called : D → D → Type 0) (page_size : ℕ) (placements : List (List ℕ)) (i at : ℕ) (chosen : List ℕ) (first mid now : List (Stand D)) → i < length placements
      → get_or placements i [] ≡ chosen → at ≡ i * page_size → length now ≡ length mid
      → EachPut called (puts_from page_size 0 (take i placements)) first mid → EachPut called (puts_at at chosen) mid now
      → EachPut called (puts_from page_size 0 (take (i + 1) placements)) first now
  put_page called page_size placements i at chosen first mid now l is start same so_far next =
      rw (puts_from_next page_size placements i at chosen l is start) (put_both called (puts_from page_size 0 (take i placements)) (puts_at at chosen) first mid now same so_far next)
