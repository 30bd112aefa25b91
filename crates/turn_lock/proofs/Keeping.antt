-- A step of one seat keeps the rule, where what the step changes meets a few conditions.
use Rattle.std.proofs.Common.{◌≡◌, ℕ, ◌+◌, ◌%◌, ◌^◌, ◌<◌, ◌≤◌, ◌≢◌, ◌⊎◌, List, [], ◌∷◌, ◌++◌, length, length-set, set, get_or, sym, refl, ap, ◌∙◌, subst, ⊎_elim, inl, inr, arith, Some, Contains}
use Rattle.std.proofs.lemmas.List.Elements.{Contains-append_left, Contains-append_right}
use mathlib.Core.Option.{some, some-injective}
use mathlib.Core.Option as maybe
use mathlib.Core.Logic.{dite}
use native.Mathlib.Decide.{ℕ_discrete}
use lib.ListN.{get_elem?}
use lib.Seq.{set-get_or}
use Rattle.atomic_table.specs.Table.{State, keeps, stepped}
use Rattle.atomic_table.proofs.Lists.{set_again, set_else, set_here}
use Rattle.turn_lock.specs.declared.view.Known.{Known}
use Rattle.turn_lock.specs.declared.view.Stage.{Stage}
use Rattle.turn_lock.specs.declared.view.Stage.TheVariants.{Gone, Owns, Joins, Idle, Waits, Inside}
use Rattle.turn_lock.specs.History.{Log, entries_by}
use Rattle.turn_lock.specs.Turns.{IsKept, Facts, total, gone, IsUsed, IsTrueOf, Stands, numbers_of, uses_of, turns_of, numbers, uses, turns, IsHome, IsOut, HasDrawn, KnowsAll}
use Rattle.turn_lock.proofs.Histories.{Begins-append, entries_by-more}
use Rattle.turn_lock.proofs.Views.{total_set, total_most, seats_stay, inside_length}

-- a list has its last element
pub last_of : (l : List ℕ) (c : ℕ) → Contains (l ++ c ∷ []) c
last_of l c = Contains-append_right l (c ∷ []) c (0, omega arith, refl)

module _ {E : Type 0} where
  numbers_uses : (st : Stage E) → numbers_of st ≤ uses_of st
  numbers_uses = elim [ Gone ↦ omega arith | (Owns g b) ↦ omega arith | (Joins g b c l) ↦ omega arith | Idle ↦ omega arith | (Waits n) ↦ omega arith | (Inside n) ↦ omega arith ]

  turns_uses : (st : Stage E) → turns_of st ≤ uses_of st
  turns_uses = elim [ Gone ↦ omega arith | (Owns g b) ↦ omega arith | (Joins g b c l) ↦ omega arith | Idle ↦ omega arith | (Waits n) ↦ omega arith | (Inside n) ↦ omega arith ]

module _ {E F : Type 0} where
  -- how a seat stands that does not step
  pub others : (w w' : Facts E F) (ext : Log E) (j : ℕ) (v : Known E F) → w'.log ≡ w.log ++ ext → w'.fixed ≡ w.fixed → (0 < j → entries_by j ext ≡ []) → ((c : ℕ) → Contains w.kept c → entries_by c ext ≡ [])
      → (j ≡ 0 → (w'.given ≡ w.given) × (w'.kept ≡ w.kept))
      → ((n : ℕ) → w.turn ≤ n → n < w.drawn → w.holder n ≡ j → (w'.turn ≤ n) × (n < w'.drawn) × (w'.holder n ≡ j))
      → ((n : ℕ) → w.turn ≡ n → n < w.drawn → w.holder n ≡ j → w.away ≡ 1 → (w'.turn ≡ n) × (n < w'.drawn) × (w'.holder n ≡ j) × (w'.log ≡ w.log) × (w'.away ≡ 1))
      → (st : Stage E) → Stands w j v st → Stands w' j v st
  others w w' ext j v log same none_new none_kept owner grows stays =
      let true_of : IsTrueOf w v → IsTrueOf w' v = λ t. (Begins-append v.seen w.log w'.log ext log t.0, t.1 ∙ ap (λ (f : F). Some f) (sym same)) in
      let used_by : IsUsed w j v → IsUsed w' j v = λ u. (u.0, u.1, entries_by-more j w.log w'.log ext log (none_new u.0) ∙ u.2) in
      let by_kept : (c : ℕ) → Contains w.kept c → entries_by c w'.log ≡ entries_by c w.log = λ c h. entries_by-more c w.log w'.log ext log (none_kept c h) in
      elim [
        | Gone ↦ λ k. tt
        | (Owns g b) ↦ λ k. let o = owner k.1 in (true_of k.0, k.1, k.2 ∙ sym o.0, k.3 ∙ sym o.1, λ c h. by_kept c (subst (λ l. Contains l c) k.3 h) ∙ k.4 c h)
        | (Joins g b c also) ↦ λ k. let o = owner k.1 in
            (true_of k.0, k.1, k.2 ∙ sym o.0, k.3 ∙ sym o.1, (λ x h. by_kept x (subst (λ l. Contains l x) k.3 (Contains-append_left b (c ∷ []) x h)) ∙ k.4 x h), Begins-append also w.log w'.log ext log k.5, by_kept c (subst (λ l. Contains l c) k.3 (last_of b c)) ∙ k.6)
        | Idle ↦ λ k. (true_of k.0, used_by k.1)
        | (Waits n) ↦ λ k. let t = grows n k.2 k.3 k.4 in (true_of k.0, used_by k.1, t.0, t.1, t.2)
        | (Inside n) ↦ λ k. let t = stays n k.2 k.3 k.4 k.6 in (true_of k.0, used_by k.1, t.0, t.1, t.2, k.5 ∙ sym t.3, t.4)
      ]

  abbrev pub after : Facts E F → Log E → ℕ → ℕ → (ℕ → ℕ) → ℕ → Facts E F
  after w log turn drawn holder away = record { log = log; fixed = w.fixed; turn = turn; drawn = drawn; holder = holder; given = w.given; kept = w.kept; away = away }

  pub moved : (f : Stage E → ℕ) (vs : List (Known E F)) (id : ℕ) (v v' : Known E F) (st : Stage E) → get_elem? vs id ≡ some v → v.stage ≡ st → total (λ u. f u.stage) (set vs id v') + f st ≡ total (λ u. f u.stage) vs + f v'.stage
  moved f vs id v v' st at is = let t = total_set (λ (u : Known E F). f u.stage) vs id v v' at in let e : f v.stage ≡ f st = ap f is in omega arith

  -- the seat that may enter has drawn the number of the turn
  pub insider : (w : Facts E F) (j : ℕ) (v : Known E F) (st : Stage E) → 0 < turns_of st → Stands w j v st → w.holder w.turn ≡ j
  insider w j v = elim [
    | Gone ↦ λ h k. absurd (omega arith)
    | (Owns g b) ↦ λ h k. absurd (omega arith)
    | (Joins g b c l) ↦ λ h k. absurd (omega arith)
    | Idle ↦ λ h k. absurd (omega arith)
    | (Waits n) ↦ λ h k. absurd (omega arith)
    | (Inside n) ↦ λ h k. ap w.holder k.2 ∙ k.4
  ]

  -- no seat may enter where none is in use
  pub none_in : (vs : List (Known E F)) → total turns vs ≤ total uses vs
  none_in vs = total_most turns uses (λ v. turns_uses v.stage) vs

  pub few_wait : (vs : List (Known E F)) → total numbers vs ≤ total uses vs
  few_wait vs = total_most numbers uses (λ v. numbers_uses v.stage) vs

  pub not_gone : (v : Known E F) (st : Stage E) → v.stage ≡ st → (st ≡ Gone → ⊥) → v ≡ gone → ⊥
  not_gone v st is other e = other (sym is ∙ ap (λ (d : Known E F). d.stage) e)

module _ {S E F : Type 0} (history : S → Log E) (fixed : S → F) where
  abbrev V : Type 0
  V = Known E F

  abbrev St : Type 0
  St = State S V

  abbrev Rule : St → Type 0
  Rule = IsKept history fixed

  abbrev wrap : ℕ → ℕ
  wrap n = n % 18446744073709551616

  -- one seat steps, and no caller is given or kept
  pub moves : (s : St) (r : Rule s) (id : ℕ) (v v' : V) (log ext : Log E) (turn drawn : ℕ) (holder : ℕ → ℕ) (away : ℕ) (ws : List ℕ) (hs : List (maybe.Option S))
      → get_elem? s.views id ≡ some v → (v ≡ gone → ⊥) → log ≡ r.facts.log ++ ext → ((c : ℕ) → (c ≢ id) ⊎ (c ≡ 0) → entries_by c ext ≡ []) → length log < 2 ^ 38
      → total numbers (set s.views id v') + turn ≡ drawn → total uses (set s.views id v') ≡ total uses s.views → total turns (set s.views id v') ≡ away
      → ((j n : ℕ) → j ≢ id → r.facts.turn ≤ n → n < r.facts.drawn → r.facts.holder n ≡ j → (turn ≤ n) × (n < drawn) × (holder n ≡ j))
      → ((j n : ℕ) → j ≢ id → r.facts.turn ≡ n → n < r.facts.drawn → r.facts.holder n ≡ j → r.facts.away ≡ 1 → (turn ≡ n) × (n < drawn) × (holder n ≡ j) × (log ≡ r.facts.log) × (away ≡ 1))
      → Stands (after r.facts log turn drawn holder away) id v' v'.stage
      → ws ≡ wrap drawn ∷ wrap turn ∷ length log ∷ []
      → ((n : ℕ) → turn ≤ n → n < drawn → ((holder n ≡ id) × HasDrawn n v'.stage) ⊎ ((r.facts.turn ≤ n) × (n < r.facts.drawn) × (holder n ≡ r.facts.holder n) × (HasDrawn n v.stage → ⊥)))
      → KnowsAll log v' ⊎ ((log ≡ r.facts.log) × (KnowsAll r.facts.log v → KnowsAll log v'))
      → IsHome history fixed (after r.facts log turn drawn holder away) hs ⊎ IsOut history fixed (after r.facts log turn drawn holder away) hs
      → Rule record { words = ws; homes = hs; views = set s.views id v' }
  moves s r id v v' log ext turn drawn holder away ws hs at there e apart short w u i grows stays mine words held whole slot = let below : id < length s.views = inside_length s.views id v at in
      let far : (c : ℕ) → Contains r.facts.kept c → c ≢ id = λ c h same. there (sym (some-injective gone v (sym (r.each_kept c h) ∙ (ap (get_elem? s.views) same ∙ at)))) in record {
        facts = after r.facts log turn drawn holder away;
        words = words;
        short = short;
        seats = length-set s.views id v' ∙ r.seats;
        most = r.most;
        all_waiting = w;
        all_used = ap (λ (n : ℕ). n + length r.facts.kept) u ∙ r.all_used;
        all_inside = i;
        each_seat = seats_stay (λ j d. Stands (after r.facts log turn drawn holder away) j d d.stage) s.views id v' mine
            (λ j d other p. others r.facts (after r.facts log turn drawn holder away) ext j d e refl (λ _. apart j (inl other)) (λ c h. apart c (inl (far c h))) (λ _. (refl, refl)) (λ n. grows j n other) (λ n. stays j n other) d.stage (r.each_seat j d p));
        each_kept = λ c h. set_else s.views id c v' (far c h) ∙ r.each_kept c h;
        ungiven = λ c late. entries_by-more c r.facts.log log ext e (apart c (⊎_elim (λ (z : c ≡ 0). inr z) (λ (h : r.facts.given < c). let all = r.seats in inl (λ same. omega arith)) late)) ∙ r.ungiven c late;
        each_given = λ c some_c few. ⊎_elim
            (λ (old : (d : V) × (get_elem? s.views c ≡ some d) × (uses_of d.stage ≡ 1)). dite (ℕ_discrete c id)
            (λ e. inl (
              v',
              ap (get_elem? (set s.views id v')) e ∙ set_here s.views id v' below,
              (let t : total uses (set s.views id v') + uses v ≡ total uses s.views + uses v' = total_set uses s.views id v v' at in let same : old.0 ≡ v = some-injective old.0 v (sym old.1 ∙ (ap (get_elem? s.views) e ∙ at)) in let one : uses_of v.stage ≡ 1 = ap (λ (d : V). uses_of d.stage) (sym same) ∙ old.2 in omega arith),
            ))
            (λ ne. inl (old.0, set_else s.views id c v' ne ∙ old.1, old.2)))
            (λ b. inr b)
            (r.each_given c some_c few);
        all_held = λ n l h. ⊎_elim
            (λ (t : (holder n ≡ id) × HasDrawn n v'.stage). (v', ap (get_elem? (set s.views id v')) t.0 ∙ set_here s.views id v' below, t.1))
            (λ (t : (r.facts.turn ≤ n) × (n < r.facts.drawn) × (holder n ≡ r.facts.holder n) × (HasDrawn n v.stage → ⊥)). let old = r.all_held n t.0 t.1 in
            let other : r.facts.holder n ≢ id = λ e. t.3 (subst (λ (d : V). HasDrawn n d.stage) (some-injective old.0 v (sym old.1 ∙ (ap (get_elem? s.views) e ∙ at))) old.2) in
            (old.0, ap (get_elem? (set s.views id v')) t.2 ∙ (set_else s.views id (r.facts.holder n) v' other ∙ old.1), old.2))
            (held n l h);
        whole = ⊎_elim (λ (k : KnowsAll log v'). (id, v', set_here s.views id v' below, k))
            (λ (t : (log ≡ r.facts.log) × (KnowsAll r.facts.log v → KnowsAll log v')). let old = r.whole in dite (ℕ_discrete old.0 id)
            (λ e. (id, v', set_here s.views id v' below, t.1 (subst (KnowsAll r.facts.log) (some-injective old.1 v (sym old.2 ∙ (ap (get_elem? s.views) e ∙ at))) old.3)))
            (λ ne. (old.0, old.1, set_else s.views id old.0 v' ne ∙ old.2, subst (λ (l : Log E). KnowsAll l old.1) (sym t.0) old.3)))
            whole;
        slot = slot;
      }

  pub unchanged : (s : St) (r : Rule s) (i id : ℕ) (v : V) (cs : List (ℕ × S)) → get_elem? s.views id ≡ some v → Rule (stepped s i (get_or s.words i 0) id cs v keeps)
  unchanged s r i id v cs at = subst (λ (z : List ℕ × List V). Rule record { words = z.0; homes = s.homes; views = z.1 }) (λ k. (sym (set-get_or s.words i 0) k, sym (set_again s.views id v at) k)) r
