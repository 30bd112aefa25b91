-- The steps of a turn keep the rule: draw, look, book, pass on.
use Rattle.std.proofs.Common.{◌≡◌, ℕ, ◌+◌, ◌%◌, ◌^◌, ◌<◌, ◌≤◌, ◌≢◌, ◌⊎◌, List, [], ◌∷◌, ◌++◌, length, set, get_or, sym, refl, ap, ◌∙◌, subst, ⊎_elim, inl, inr, arith, append-nil, cond, eqb, ne_eqb, eq-eqb, Some}
use Rattle.std.proofs.Math.Nat.{mod-add-mod, mod-eq_of_lt}
use mathlib.Core.Option.{some, none, some-injective}
use mathlib.Core.Logic.{dite}
use native.Mathlib.Decide.{ℕ_discrete}
use lib.ListN.{get_elem?}
use lib.Seq.{set-get_or}
use Rattle.atomic_table.specs.Table.{State, step, keeps, put_back, rest, takes, gives, stepped, Allows}
use Rattle.atomic_table.proofs.Lists.{one_turn}
use Rattle.turn_lock.specs.declared.view.Known.{Known}
use Rattle.turn_lock.specs.declared.view.Stage.TheVariants.{Idle, Waits, Inside}
use Rattle.turn_lock.specs.History.{Log, Adds, entries_by}
use Rattle.turn_lock.specs.Turns.{Facts, total, staged, Stands, IsKept, numbers_of, uses_of, turns_of, numbers, uses, turns, IsHome, IsOut, HasDrawn, JoinsAll}
use Rattle.turn_lock.specs.Told.{Sat, drew, looked, booked, passed, rested, Enters, entered, number_of}
use Rattle.turn_lock.proofs.Histories.{none_missed, added}
use Rattle.turn_lock.proofs.Views.{total_has}
use Rattle.turn_lock.proofs.Keeping.{after, moved, insider, few_wait, not_gone, moves, unchanged}

module _ {S E F : Type 0} (history : S → Log E) (fixed : S → F) where
  abbrev V : Type 0
  V = Known E F

  abbrev St : Type 0
  St = State S V

  abbrev Rule : St → Type 0
  Rule = IsKept history fixed

  abbrev wrap : ℕ → ℕ
  wrap n = n % 18446744073709551616

  pub draws : (slots id : ℕ) (me : Sat S E F) → me.0.stage ≡ Idle → Allows Rule slots id me 0 (λ n. (n + 1) % 18446744073709551616) (drew (step slots 0 1 0 none) me)
  draws slots id me is s r _ at _ = let w : Facts E F = r.facts in let v' : V = staged me.0 (Waits w.drawn) in let next : ℕ → ℕ = λ n. cond (eqb n w.drawn) id (w.holder n) in
      let known = subst (Stands w id me.0) is (r.each_seat id me.0 at) in
      let a : total numbers (set s.views id v') + 0 ≡ total numbers s.views + 1 = moved numbers_of s.views id me.0 v' Idle at is in
      let b : total uses (set s.views id v') + 1 ≡ total uses s.views + 1 = moved uses_of s.views id me.0 v' Idle at is in
      let c : total turns (set s.views id v') + 0 ≡ total turns s.views + 0 = moved turns_of s.views id me.0 v' Idle at is in
      let a' = r.all_waiting in let c' = r.all_inside in
      let still : (n : ℕ) → n < w.drawn → next n ≡ w.holder n = λ n l. ap (λ b. cond b id (w.holder n)) (ne_eqb n w.drawn (λ e. omega arith)) in (
        v',
        keeps,
        tt,
        moves history fixed s r id me.0 v' w.log [] w.turn (w.drawn + 1) next w.away _ s.homes at (not_gone me.0 Idle is (λ e. cc))
            (sym (append-nil w.log)) (λ _ _. refl) r.short (omega arith) (omega arith) (omega arith)
            (λ j n other l m h. (l, omega arith, still n m ∙ h))
            (λ j n other l m h o. (l, omega arith, still n m ∙ h, refl, o))
            (known.0, known.1, omega arith, omega arith, ap (λ b. cond b id (w.holder w.drawn)) (eq-eqb w.drawn w.drawn refl))
            ((λ i. set (r.words i) 0 ((get_or (r.words i) 0 0 + 1) % 18446744073709551616)) ∙ ap (λ (n : ℕ). n ∷ wrap w.turn ∷ length w.log ∷ []) (mod-add-mod w.drawn 18446744073709551616 1))
            (λ n l h. dite (ℕ_discrete n w.drawn) (λ e. inl (ap next e ∙ ap (λ b. cond b id (w.holder w.drawn)) (eq-eqb w.drawn w.drawn refl), sym e)) (λ ne. inr (l, omega arith, ap (λ b. cond b id (w.holder n)) (ne_eqb n w.drawn ne), λ k. subst (HasDrawn n) is k)))
            (inr (refl, ⊎_elim (λ k. inl k) (λ k. absurd (subst (JoinsAll w.log) is k))))
            (⊎_elim (λ h. inl h) (λ h. inr h) r.slot),
        (w.drawn, ap (λ (l : List ℕ). get_or l 0 0) r.words, refl),
      )

  -- the state is at home where the seat that has the turn waits
  at_home : (s : St) (r : Rule s) (id n : ℕ) (v : V) → get_elem? s.views id ≡ some v → v.stage ≡ Waits n → n ≡ r.facts.turn → IsHome history fixed r.facts s.homes
  at_home s r id n v at is now = let w : Facts E F = r.facts in let known = subst (Stands w id v) is (r.each_seat id v at) in ⊎_elim (λ h. h)
      (λ (o : IsOut history fixed w s.homes). absurd (
      let all = r.all_inside in let one = o.0 in let t = total_has turns s.views (omega arith) in let some_in = t.3 in
      let here : w.holder w.turn ≡ t.0 = insider w t.0 t.1 t.1.stage t.3 (r.each_seat t.0 t.1 t.2) in
      let mine : id ≡ t.0 = sym known.4 ∙ (ap w.holder now ∙ here) in
      let same : v ≡ t.1 = some-injective v t.1 (sym at ∙ (ap (get_elem? s.views) mine ∙ t.2)) in
      let none_in : turns_of t.1.stage ≡ 0 = ap (λ (d : V). turns_of d.stage) (sym same) ∙ ap turns_of is in omega arith
      )) r.slot

  enters : (s : St) (r : Rule s) (slots id n : ℕ) (me : Sat S E F) → get_elem? s.views id ≡ some me.0 → me.0.stage ≡ Waits n → n ≡ r.facts.turn
      → (x : S) × (get_elem? s.homes 0 ≡ some (some x)) × Rule (stepped s 1 (get_or s.words 1 0) id me.1 (entered history n me x).0 (takes 0 x)) × Enters history fixed n me (entered history n me x)
  enters s r slots id n me at is now = let w : Facts E F = r.facts in let known = subst (Stands w id me.0) is (r.each_seat id me.0 at) in let home = at_home s r id n me.0 at is now in
      let x : S = home.1.0 in let homes = home.1.1 in let hist = home.1.2 in let fix = home.1.3 in let v' : V = (entered history n me x).0 in
      let a : total numbers (set s.views id v') + 1 ≡ total numbers s.views + 1 = moved numbers_of s.views id me.0 v' (Waits n) at is in
      let b : total uses (set s.views id v') + 1 ≡ total uses s.views + 1 = moved uses_of s.views id me.0 v' (Waits n) at is in
      let c : total turns (set s.views id v') + 0 ≡ total turns s.views + 1 = moved turns_of s.views id me.0 v' (Waits n) at is in
      let a' = r.all_waiting in let c' = r.all_inside in let none_away = home.0 in (
        x,
        ap (λ l. get_elem? l 0) homes,
        moves history fixed s r id me.0 v' w.log [] w.turn w.drawn w.holder 1 _ _ at (not_gone me.0 (Waits n) is (λ e. cc))
            (sym (append-nil w.log)) (λ _ _. refl) r.short (omega arith) (omega arith) (omega arith)
            (λ j k other l m h. (l, m, h))
            (λ j k other l m h o. absurd (omega arith))
            ((([], sym hist ∙ sym (append-nil (history x))), known.0.1), (known.1.0, known.1.1, ap (entries_by id) (sym hist)), sym now, known.3, known.4, hist, refl)
            (set-get_or s.words 1 0 ∙ r.words)
            (λ k l h. dite (ℕ_discrete n k) (λ e. inl (ap w.holder (sym e) ∙ known.4, e)) (λ ne. inr (l, h, refl, λ d. ne (subst (HasDrawn k) is d))))
            (inl (inl hist))
            (inr (refl, ap (λ l. set l 0 none) homes)),
        (x, refl, known.0.1 ∙ ap (λ (f : F). Some f) (sym fix), (known.0.0.0, hist ∙ known.0.0.1, none_missed me.0.caller me.0.seen w.log known.0.0.0 known.0.0.1 (subst (λ (c : ℕ). entries_by c w.log ≡ entries_by c me.0.seen) (sym known.1.1) known.1.2))),
      )

  -- the number drawn is the number of the turn where both are alike modulo 2^64
  my_turn : (s : St) (r : Rule s) (id n : ℕ) (v : V) → get_elem? s.views id ≡ some v → v.stage ≡ Waits n → get_or s.words 1 0 ≡ wrap n → n ≡ r.facts.turn
  my_turn s r id n v at is found = let w : Facts E F = r.facts in let known = subst (Stands w id v) is (r.each_seat id v at) in
      let low : w.turn ≤ n = known.2 in let high : n < w.drawn = known.3 in
      let few : total numbers s.views ≤ total uses s.views = few_wait s.views in let a = r.all_waiting in let b = r.all_used in let most = r.most in
      let alike : w.turn % 18446744073709551616 ≡ n % 18446744073709551616 = sym (ap (λ (l : List ℕ). get_or l 1 0) r.words) ∙ found in
      sym (one_turn w.turn n 18446744073709551616 low (omega arith) alike)

  pub looks : (slots id : ℕ) (me : Sat S E F) → me.0.stage ≡ Waits (number_of me.0.stage) → Allows Rule slots id me 1 (λ k. k) (looked history fixed (step slots 1 0 0 none) me)
  looks slots id me is s r _ at _ = let n : ℕ = number_of me.0.stage in dite (ℕ_discrete (get_or s.words 1 0) (wrap n))
      (λ hit. let t = enters s r slots id n me at is (my_turn s r id n me.0 at is hit) in ((entered history n me t.0).0, takes 0 t.0, t.1, t.2, ((λ miss. absurd (miss hit)), λ _. t.3)))
      (λ miss. (me.0, keeps, tt, unchanged history fixed s r 1 id me.0 me.1 at, ((λ _. refl), λ hit. absurd (miss hit))))

  pub books : (slots id k : ℕ) (me : Sat S E F) (x : S) (n : ℕ) → me.0.stage ≡ Inside n → me.1 ≡ (0, x) ∷ [] → Adds me.0.caller me.0.seen (history x) → length (history x) ≡ length me.0.seen + k → length (history x) < 2 ^ 38
      → Allows Rule slots id me 2 (λ m. (m + k) % 18446744073709551616) (booked history (step slots 2 k 0 none) me)
  books slots id k me x n is carried adds longer short s r _ at _ = let w : Facts E F = r.facts in let known = subst (Stands w id me.0) is (r.each_seat id me.0 at) in
      let v' : V = record { caller = me.0.caller; seen = history x; fixed = me.0.fixed; turns = me.0.turns; stage = me.0.stage } in
      let new = added me.0.caller me.0.seen (history x) adds in let ext : Log E = new.0 in
      let grown : history x ≡ w.log ++ ext = new.1 ∙ ap (λ l. l ++ ext) known.5 in
      let some_id : 0 < id = known.1.0 in
      let apart : (c : ℕ) → (c ≢ id) ⊎ (c ≡ 0) → entries_by c ext ≡ [] = λ c h. new.2 c (λ e. ⊎_elim (λ (ne : c ≢ id). ne (e ∙ known.1.1)) (λ (z : c ≡ 0). let e' : c ≡ id = e ∙ known.1.1 in omega arith) h) in
      let a : total numbers (set s.views id v') + 1 ≡ total numbers s.views + numbers_of me.0.stage = moved numbers_of s.views id me.0 v' (Inside n) at is in let a'' : numbers_of me.0.stage ≡ 1 = ap numbers_of is in
      let b : total uses (set s.views id v') + 1 ≡ total uses s.views + uses_of me.0.stage = moved uses_of s.views id me.0 v' (Inside n) at is in let b'' : uses_of me.0.stage ≡ 1 = ap uses_of is in
      let c : total turns (set s.views id v') + 1 ≡ total turns s.views + turns_of me.0.stage = moved turns_of s.views id me.0 v' (Inside n) at is in let c'' : turns_of me.0.stage ≡ 1 = ap turns_of is in
      let a' = r.all_waiting in let c' = r.all_inside in let same_length : length me.0.seen ≡ length w.log = ap length known.5 in
      let w' : Facts E F = after w (history x) w.turn w.drawn w.holder w.away in (
        v',
        keeps,
        tt,
        moves history fixed s r id me.0 v' (history x) ext w.turn w.drawn w.holder w.away _ s.homes at (not_gone me.0 (Inside n) is (λ e. cc))
            grown apart short (omega arith) (omega arith) (omega arith)
            (λ j m other l h e. (l, h, e))
            (λ j m other e h e' o. absurd (other (sym e' ∙ (ap w.holder (sym e ∙ known.2) ∙ known.4))))
            (subst (Stands w' id v') (sym is) ((([], sym (append-nil (history x))), known.0.1), (known.1.0, known.1.1, refl), known.2, known.3, known.4, refl, known.6))
            ((λ i. set (r.words i) 2 ((get_or (r.words i) 2 0 + k) % 18446744073709551616)) ∙ ap (λ (m : ℕ). wrap w.drawn ∷ wrap w.turn ∷ m ∷ []) (let low : length w.log + k < 18446744073709551616 = omega arith in mod-eq_of_lt low ∙ omega arith))
            (λ m l h. dite (ℕ_discrete n m) (λ e. inl (ap w.holder (sym e) ∙ known.4, subst (HasDrawn m) (sym is) e)) (λ ne. inr (l, h, refl, λ d. ne (subst (HasDrawn m) is d))))
            (inl (inl refl))
            (⊎_elim (λ (h : IsHome history fixed w s.homes). let z = h.0 in let o = known.6 in absurd (omega arith)) (λ h. inr h) r.slot),
        (λ x' carried'. let same : x ≡ x' = ap (λ (l : List (ℕ × S)). (get_or l 0 (0, x)).1) (sym carried ∙ carried') in
            ap (λ (y : S). (record { caller = me.0.caller; seen = history y; fixed = me.0.fixed; turns = me.0.turns; stage = me.0.stage }, me.1)) same),
      )

  pub passes : (slots id : ℕ) (me : Sat S E F) (x : S) (n : ℕ) → me.0.stage ≡ Inside n → me.1 ≡ (0, x) ∷ [] → history x ≡ me.0.seen → me.0.fixed ≡ Some (fixed x)
      → Allows Rule slots id me 1 (λ m. (m + 1) % 18446744073709551616) (passed (step slots 1 1 0 none) me)
  passes slots id me x n is carried hist fix s r _ at _ = let w : Facts E F = r.facts in let known = subst (Stands w id me.0) is (r.each_seat id me.0 at) in
      let v' : V = rested me.0 in
      let a : total numbers (set s.views id v') + 1 ≡ total numbers s.views + 0 = moved numbers_of s.views id me.0 v' (Inside n) at is in
      let b : total uses (set s.views id v') + 1 ≡ total uses s.views + 1 = moved uses_of s.views id me.0 v' (Inside n) at is in
      let c : total turns (set s.views id v') + 1 ≡ total turns s.views + 0 = moved turns_of s.views id me.0 v' (Inside n) at is in
      let a' = r.all_waiting in let c' = r.all_inside in let one = known.6 in let mine : w.holder w.turn ≡ id = ap w.holder known.2 ∙ known.4 in
      let out : s.homes ≡ none ∷ [] = ⊎_elim (λ (h : IsHome history fixed w s.homes). let z = h.0 in absurd (omega arith)) (λ (o : IsOut history fixed w s.homes). o.1) r.slot in
      let fix' : fixed x ≡ w.fixed = let p = known.0.1 in cc in (
        v',
        gives,
        tt,
        moves history fixed s r id me.0 v' w.log [] (w.turn + 1) w.drawn w.holder 0 _ _ at (not_gone me.0 (Inside n) is (λ e. cc))
            (sym (append-nil w.log)) (λ _ _. refl) r.short (omega arith) (omega arith) (omega arith)
            (λ j m other l h e. (dite (ℕ_discrete w.turn m) (λ now. absurd (other (sym e ∙ (ap w.holder (sym now) ∙ mine)))) (λ ne. omega arith), h, e))
            (λ j m other e h e' o. absurd (other (sym e' ∙ (ap w.holder (sym e) ∙ mine))))
            (known.0, known.1)
            ((λ i. set (r.words i) 1 ((get_or (r.words i) 1 0 + 1) % 18446744073709551616)) ∙ ap (λ (m : ℕ). wrap w.drawn ∷ m ∷ length w.log ∷ []) (mod-add-mod w.turn 18446744073709551616 1))
            (λ m l h. inr (omega arith, h, refl, λ d. let e : n ≡ m = subst (HasDrawn m) is d in let e' = known.2 in omega arith))
            (inr (refl, ⊎_elim (λ k. inl k) (λ k. absurd (subst (JoinsAll w.log) is k))))
            (inl (refl, (x, (λ i. put_back (out i) (carried i)), hist ∙ known.5, fix'))),
        (λ i. (v', rest (carried i))),
      )
