-- The puts of a stand that are still to be answered, where one is.
use Rattle.std.proofs.Common.{◌≡◌, ◌≢◌, ℕ, suc, ◌+◌, ◌-◌, ◌<◌, ◌≤◌, List, [], ◌∷◌, ◌++◌, length, length-append, length-set, length-take, map, get_or, set, take, drop, arith, ap, sym, ◌∙◌, refl, append-nil, append_assoc, ◌*◌, inl, inr}
use Rattle.std.proofs.lemmas.Bool.{cases_eq}
use Rattle.std.proofs.lemmas.List.{length-map, get_or-map, get_or-set_same, get_or-set_other, get_or_default, take_more, drop_more}
use Rattle.page_store.specs.Calls.{Calls, call_more}
use Rattle.page_fan.specs.declared.stand.Put.{Put}
use Rattle.page_fan.specs.declared.stand.PutReply.{PutReply}
use Rattle.page_fan.specs.declared.stand.Stand.{Stand}
use Rattle.page_fan.specs.Stands.{group_of, IsOwed, EachOwed, EachPut, EachCalled, EachHasReplies}
use Rattle.page_fan.specs.Listed.{puts_at, puts_from}
use Rattle.page_fan.proofs.ListedPuts.{puts_from_next}
use Rattle.page_fan.proofs.Group.{group_own, group_other, group_append}

-- one put more that was answered, of this group
group_own_last : (provider : ℕ) (done : List Put) (put : Put) → put.provider ≡ provider → length (group_of provider (done ++ put ∷ [])) ≡ length (group_of provider done) + 1
group_own_last provider done put own =
    let one : length (group_of provider (put ∷ [])) ≡ 1 = ap length (group_own provider put [] own) in
    ap length (group_append provider done (put ∷ [])) ∙ (length-append (group_of provider done) (group_of provider (put ∷ [])) ∙ omega (arith, one))

-- and one of another
group_other_last : (provider : ℕ) (done : List Put) (put : Put) → put.provider ≢ provider → group_of provider (done ++ put ∷ []) ≡ group_of provider done
group_other_last provider done put other = group_append provider done (put ∷ []) ∙ (ap (λ ps. group_of provider done ++ ps) (group_other provider put [] other) ∙ append-nil (group_of provider done))

-- the first reply in the tray is the one that is asked for
pub owed_head : (at : ℕ) (rest : List ℕ) (reply : PutReply) (tray left : List PutReply) → tray ≡ reply ∷ left → map (λ (r : PutReply). r.at) tray ≡ take (length tray) (at ∷ rest)
    → (reply.at ≡ at) × (map (λ (r : PutReply). r.at) left ≡ take (length left) rest)
owed_head at rest reply tray left is in_order =
    let whole : map (λ (r : PutReply). r.at) (reply ∷ left) ≡ take (length (reply ∷ left)) (at ∷ rest) = rw is at in_order in
    (ap (λ xs. get_or xs 0 0) whole, ap (λ xs. drop 1 xs) whole)

-- the tray is empty, and the door is called
pub owed_none : {D : Type 0} (called : D → D → Type 0) (done : ℕ) (rest : List ℕ) (first door last : D) (tray left : List PutReply) → length tray ≡ 0 → length left ≡ 0
    → Calls called (done + length tray) first door → called door last → (map (λ (r : PutReply). r.at) left ≡ take (length left) rest) × Calls called (done + 1 + length left) first last
owed_none called done rest first door last tray [] none e calls call =
    let before : done + length tray ≡ done = omega (arith, none) in
    let now : done + 1 + 0 ≡ suc done = omega arith in
    let so_far : Calls called done first door = rw before at calls in
    (refl, rw now (call_more so_far call))
owed_none called done rest first door last tray (x ∷ left) none e calls call = absurd (omega (arith, e))

module _ {D : Type 0} where
  -- the put was answered at its own stand
  pub owed_next : (called : D → D → Type 0) (done rest : List Put) (put : Put) (first stands : List (Stand D)) (x y : Stand D) → 1 ≤ put.provider → put.provider - 1 < length stands
      → x ≡ get_or stands (put.provider - 1) x
      → ((n : ℕ) (more : List ℕ) (f : D) → IsOwed called n (put.at ∷ more) f x → IsOwed called (n + 1) more f y)
      → EachOwed called done (put ∷ rest) first stands → EachOwed called (done ++ put ∷ []) rest first (set stands (put.provider - 1) y)
  owed_next called done rest put first stands x y some within here answer owed = λ k d l.
      let i = put.provider - 1 in
      let was : k < length stands = omega (arith, l, length-set stands i y) in
      let old = owed k d was in
      elim (cases_eq k i) [
        | inl same ↦
            let own : put.provider ≡ k + 1 = omega (arith, same, some) in
            let x_is : get_or stands k d ≡ x = ap (λ n. get_or stands n d) same ∙ (get_or_default stands i d x within ∙ sym here) in
            let y_is : get_or (set stands i y) k d ≡ y = ap (λ n. get_or (set stands i y) n d) same ∙ get_or-set_same stands i y d within in
            let before = rw (group_own (k + 1) put rest own, x_is) at old in
            rw (y_is, group_own_last (k + 1) done put own) (answer (length (group_of (k + 1) done)) (group_of (k + 1) rest) (get_or first k d).door before)
        | inr differs ↦
            let apart : k ≢ i = differs in
            let other : put.provider ≢ k + 1 = λ e. apart (omega (arith, e)) in
            let before = rw (group_other (k + 1) put rest other) at old in
            rw (get_or-set_other stands i k y d apart, group_other_last (k + 1) done put other) before
      ]

  -- nothing is owed any more
  pub all_put : (called : D → D → Type 0) (puts : List Put) (first stands : List (Stand D)) → EachOwed called puts [] first stands → EachPut called puts first stands
  all_put called puts first stands owed = λ k d l.
      let last = owed k d l in
      let tray = (get_or stands k d).tray.items in
      let short : length tray ≡ 0 = let counted = ap length last.in_order in omega (arith, counted, length-map tray (λ (r : PutReply). r.at), length-take (length tray) (group_of (k + 1) [])) in
      let whole : length (group_of (k + 1) puts) + length tray ≡ length (group_of (k + 1) puts) = omega (arith, short) in
      rw whole at last.calls

  -- the next put of a page was answered
  pub owed_step : (called : D → D → Type 0) (at : ℕ) (chosen : List ℕ) (i : ℕ) (done rest : List Put) (first mid now : List (Stand D)) → i < length chosen
      → ((d r : List Put) → EachOwed called d (record { provider = get_or chosen i 0; at = at } ∷ r) first mid → EachOwed called (d ++ record { provider = get_or chosen i 0; at = at } ∷ []) r first now)
      → EachOwed called (done ++ take i (puts_at at chosen)) (drop i (puts_at at chosen) ++ rest) first mid
      → EachOwed called (done ++ take (i + 1) (puts_at at chosen)) (drop (i + 1) (puts_at at chosen) ++ rest) first now
  owed_step called at chosen i done rest first mid now l answer owed =
      let one : ℕ → Put = λ q. record { provider = q; at = at } in
      let put : Put = one (get_or chosen i 0) in
      let puts = puts_at at chosen in
      let within : i < length puts = omega (arith, l, length-map chosen one) in
      let is : get_or puts i put ≡ put = get_or-map one chosen i 0 put l in
      let left : drop i puts ≡ put ∷ drop (i + 1) puts = drop_more puts i put within ∙ ap (λ p. p ∷ drop (i + 1) puts) is in
      let more : take (i + 1) puts ≡ take i puts ++ put ∷ [] = take_more puts i put within ∙ ap (λ p. take i puts ++ p ∷ []) is in
      let joined : done ++ take (i + 1) puts ≡ done ++ take i puts ++ put ∷ [] = ap (λ ps. done ++ ps) more ∙ sym (append_assoc done (take i puts) (put ∷ [])) in
      let before : EachOwed called (done ++ take i puts) (put ∷ (drop (i + 1) puts ++ rest)) first mid = rw left at owed in
      rw joined (answer (done ++ take i puts) (drop (i + 1) puts ++ rest) before)

  -- the puts of the next page were answered
  pub owed_page : (called : D → D → Type 0) (page_size : ℕ) (placements : List (List ℕ)) (i at : ℕ) (chosen : List ℕ) (first mid now : List (Stand D)) → i < length placements
      → get_or placements i [] ≡ chosen → at ≡ i * page_size
      → ((d r : List Put) → EachOwed called d (puts_at at chosen ++ r) first mid → EachOwed called (d ++ puts_at at chosen) r first now)
      → EachOwed called (puts_from page_size 0 (take i placements)) (puts_from page_size i (drop i placements)) first mid
      → EachOwed called (puts_from page_size 0 (take (i + 1) placements)) (puts_from page_size (i + 1) (drop (i + 1) placements)) first now
  owed_page called page_size placements i at chosen first mid now l is start answer owed =
      let rest = puts_from page_size (i + 1) (drop (i + 1) placements) in
      let left : puts_from page_size i (drop i placements) ≡ puts_at at chosen ++ rest =
      ap (λ ps. puts_from page_size i ps) (drop_more placements i [] l) ∙ (ap (λ ps. puts_at (i * page_size) ps ++ rest) is ∙ ap (λ n. puts_at n chosen ++ rest) (sym start)) in
      rw (puts_from_next page_size placements i at chosen l is start) (answer (puts_from page_size 0 (take i placements)) rest (rw left at owed))

  -- before the first is answered
  pub owed_at_first : (called : D → D → Type 0) (puts : List Put) (old mid : List (Stand D)) → length mid ≡ length old → EachHasReplies puts old mid → EachCalled called old mid → EachOwed called [] puts old mid
  owed_at_first called puts old mid same each calls = λ k d l.
      let was : k < length old = omega (arith, l, same) in
      let tray = (get_or mid k d).tray.items in
      let none : length (group_of (k + 1) []) + length tray ≡ length tray = omega arith in
      record { in_order = (each k d was).in_order; calls = rw none (calls k d was) }
