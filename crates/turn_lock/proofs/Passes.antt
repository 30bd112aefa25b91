-- The steps of the owner keep the rule: split, and the two loads of a join. The table at the start keeps it, and at the end the owner has seen the whole list.
use Rattle.std.proofs.Common.{◌≡◌, ℕ, zero, suc, ◌+◌, ◌<◌, ◌≤◌, ◌≢◌, List, [], ◌∷◌, ◌++◌, length, length-set, length-append, set, sym, refl, ap, ◌∙◌, subst, ⊎_elim, inl, inr, arith, append-nil, lt_of_not-le, slice_index_or, Some, Contains}
use Rattle.std.proofs.lemmas.List.Elements.{Contains-append_left, Contains-append_cases}
use mathlib.Core.Option.{some, none, some-injective, some-ne-none}
use mathlib.Core.Logic.{dite}
use native.Mathlib.Decide.{ℕ_discrete, dec_le}
use lib.ListN.{get_elem?}
use lib.Seq.{set-get_or}
use Rattle.atomic_table.specs.Table.{State, step, keeps, Allows, Splits, opening, Final, Seen}
use Rattle.atomic_table.specs.Table as table
use Rattle.atomic_table.proofs.Lists.{set_else, set_here, at_longer, at_last}
use Rattle.turn_lock.specs.declared.view.Known.{Known}
use Rattle.turn_lock.specs.declared.view.Stage.{Stage}
use Rattle.turn_lock.specs.declared.view.Stage.TheVariants.{Owns, Joins, Idle}
use Rattle.turn_lock.specs.History.{Log, Begins, entries_by, longer, IsUngiven, LacksUngiven}
use Rattle.turn_lock.specs.Turns.{IsKept, Facts, total, gone, opener, Stands, numbers_of, uses_of, turns_of, numbers, uses, turns, IsHome, IsOut, HasDrawn, KnowsAll, JoinsAll}
use Rattle.turn_lock.specs.Told.{Sat, settled, dealt, dealt_stage, newcomer, given_of, kept_of, joined_of, also_of, gathered, joining_stage, settled_stage, Closes}
use Rattle.turn_lock.proofs.Histories.{none_before, between, longer_begins, longer_whole, whole_seen}
use Rattle.turn_lock.proofs.Views.{total_snoc, total_at, seats_stay, inside_length, at_snoc_where}
use Rattle.turn_lock.proofs.Keeping.{last_of, others, after, moved, none_in, not_gone, moves}

only_at : (c y k : ℕ) → k < length (c ∷ []) → slice_index_or (c ∷ []) k y ≡ y → c ≡ y
only_at c y zero below e = e
only_at c y (suc k) below e = absurd (omega arith)

only : (c y : ℕ) → Contains (c ∷ []) y → c ≡ y
only c y h = only_at c y h.0 h.1 h.2

-- what the second load of a join tells of the list that the seat then has seen
abbrev Tells : {E : Type 0} → Log E → Stage E → Type 0
Tells seen st =
    Begins seen (longer seen (also_of st)) × Begins (also_of st) (longer seen (also_of st)) × (entries_by (joined_of st) (longer seen (also_of st)) ≡ entries_by (joined_of st) (also_of st))
    × ((c : ℕ) → Contains (kept_of st) c → entries_by c (longer seen (also_of st)) ≡ entries_by c seen)
    × LacksUngiven (given_of st) (longer seen (also_of st)) × (length (kept_of st) + 1 ≤ given_of st)

module _ {S E F : Type 0} (history : S → Log E) (fixed : S → F) where
  abbrev V : Type 0
  V = Known E F

  abbrev St : Type 0
  St = State S V

  abbrev Rule : St → Type 0
  Rule = IsKept history fixed

  pub splits : (id g : ℕ) (b : List ℕ) (v : V) → v.stage ≡ Owns g b → g < 1024 → Splits Rule id v (dealt v) (newcomer v)
  splits id g b v is room s r at = let w : Facts E F = r.facts in let known = subst (Stands w id v) is (r.each_seat id v at) in let v' : V = dealt v in let new : V = newcomer v in
      let st' : v'.stage ≡ Owns (g + 1) b = ap dealt_stage is in let number : given_of v.stage ≡ g = ap given_of is in
      let owner : id ≡ 0 = known.1 in let count : g ≡ w.given = known.2 in let seats = r.seats in
      let w' : Facts E F = record { log = w.log; fixed = w.fixed; turn = w.turn; drawn = w.drawn; holder = w.holder; given = w.given + 1; kept = w.kept; away = w.away } in
      let vs : List V = set s.views id v' in let long : length vs ≡ w.given + 1 = length-set s.views id v' ∙ r.seats in
      let a : total numbers vs + 0 ≡ total numbers s.views + numbers_of v'.stage = moved numbers_of s.views id v v' (Owns g b) at is in let a1 : numbers_of v'.stage ≡ 0 = ap numbers_of st' in let a2 : total numbers (vs ++ new ∷ []) ≡ total numbers vs + 0 = total_snoc numbers vs new in
      let u : total uses vs + 0 ≡ total uses s.views + uses_of v'.stage = moved uses_of s.views id v v' (Owns g b) at is in let u1 : uses_of v'.stage ≡ 0 = ap uses_of st' in let u2 : total uses (vs ++ new ∷ []) ≡ total uses vs + 1 = total_snoc uses vs new in
      let c : total turns vs + 0 ≡ total turns s.views + turns_of v'.stage = moved turns_of s.views id v v' (Owns g b) at is in let c1 : turns_of v'.stage ≡ 0 = ap turns_of st' in let c2 : total turns (vs ++ new ∷ []) ≡ total turns vs + 0 = total_snoc turns vs new in
      let a' = r.all_waiting in let u' = r.all_used in let c' = r.all_inside in let most = r.most in
      let there : v ≡ gone → ⊥ = not_gone v (Owns g b) is (λ e. cc) in
      let far : (c : ℕ) → Contains w.kept c → c ≢ id = λ c h same. there (sym (some-injective gone v (sym (r.each_kept c h) ∙ (ap (get_elem? s.views) same ∙ at)))) in
      let mine : Stands w' id v' v'.stage = subst (Stands w' id v') (sym st') (known.0, known.1, ap (λ (n : ℕ). n + 1) count, known.3, known.4) in
      let name : given_of v.stage + 1 ≡ w.given + 1 = omega arith in
      let none_yet : entries_by (w.given + 1) w.log ≡ [] = r.ungiven (w.given + 1) (inr (omega arith)) in
      let none_seen : entries_by (w.given + 1) v.seen ≡ [] = none_before (w.given + 1) v.seen w.log known.0.0 none_yet in
      let theirs : Stands w' (w.given + 1) new Idle = (known.0, (omega arith, name, none_yet ∙ sym none_seen)) in record {
        facts = w';
        words = r.words;
        short = r.short;
        seats = length-append vs (new ∷ []) ∙ omega arith;
        most = omega arith;
        all_waiting = omega arith;
        all_used = omega arith;
        all_inside = omega arith;
        each_seat = λ j d p. ⊎_elim
            (seats_stay (λ j d. Stands w' j d d.stage) s.views id v' mine
            (λ j d other q. others w w' [] j d (sym (append-nil w.log)) refl (λ _. refl) (λ _ _. refl) (λ z. absurd (other (z ∙ sym owner))) (λ n l h e. (l, h, e)) (λ n l h e o. (l, h, e, refl, o)) d.stage (r.each_seat j d q)) j d)
            (λ (t : (j ≡ length vs) × (new ≡ d)). subst (λ (z : ℕ × V). Stands w' z.0 z.1 z.1.stage) (λ i. (sym (t.0 ∙ long) i, t.1 i)) theirs)
            (at_snoc_where vs new d j p);
        each_kept = λ c h. at_longer vs (new ∷ []) c gone (set_else s.views id c v' (far c h) ∙ r.each_kept c h);
        ungiven = λ c late. r.ungiven c (⊎_elim (λ (z : c ≡ 0). inl z) (λ (h : w.given + 1 < c). inr (omega arith)) late);
        each_given = λ c some_c few. dite (ℕ_discrete c (w.given + 1))
            (λ e. inl (new, ap (get_elem? (vs ++ new ∷ [])) e ∙ at_last vs new (w.given + 1) long, refl))
            (λ ne. ⊎_elim
            (λ (old : (d : V) × (get_elem? s.views c ≡ some d) × (uses_of d.stage ≡ 1)). inl (old.0, at_longer vs (new ∷ []) c old.0 (set_else s.views id c v' (λ e. omega arith) ∙ old.1), old.2))
            (λ b. inr b)
            (r.each_given c some_c (omega arith)));
        all_held = λ n l h. let old = r.all_held n l h in let other : w.holder n ≢ id = λ e. subst (HasDrawn n) is (subst (λ (d : V). HasDrawn n d.stage) (some-injective old.0 v (sym old.1 ∙ (ap (get_elem? s.views) e ∙ at))) old.2) in
            (old.0, at_longer vs (new ∷ []) (w.holder n) old.0 (set_else s.views id (w.holder n) v' other ∙ old.1), old.2);
        whole = let old = r.whole in dite (ℕ_discrete old.0 id)
            (λ e. (
              id,
              v',
              at_longer vs (new ∷ []) id v' (set_here s.views id v' (inside_length s.views id v at)),
              ⊎_elim (λ (k : v.seen ≡ w.log). inl k) (λ k. absurd (subst (JoinsAll w.log) is k)) (subst (KnowsAll w.log) (some-injective old.1 v (sym old.2 ∙ (ap (get_elem? s.views) e ∙ at))) old.3),
            ))
            (λ ne. (old.0, old.1, at_longer vs (new ∷ []) old.0 old.1 (set_else s.views id old.0 v' ne ∙ old.2), old.3));
        slot = ⊎_elim (λ h. inl h) (λ h. inr h) r.slot;
      }

  -- the first load of a join
  pub joins : (id other g : ℕ) (b : List ℕ) (v p : V) → v.stage ≡ Owns g b → p.stage ≡ Idle → table.Joins Rule id v other p (gathered v p) gone
  joins id other g b v p is idle s r at apart there' = let w : Facts E F = r.facts in let known = subst (Stands w id v) is (r.each_seat id v at) in let v' : V = gathered v p in
      let there : get_elem? s.views other ≡ some p = sym (set_else s.views id other v' apart) ∙ there' in
      let its = subst (Stands w other p) idle (r.each_seat other p there) in let c : ℕ = p.caller in let name : c ≡ other = its.1.1 in
      let st' : v'.stage ≡ Joins g b c p.seen = ap (joining_stage c p.seen) is in let owner : id ≡ 0 = known.1 in
      let w' : Facts E F = record { log = w.log; fixed = w.fixed; turn = w.turn; drawn = w.drawn; holder = w.holder; given = w.given; kept = w.kept ++ c ∷ []; away = w.away } in
      let vs : List V = set s.views id v' in let vs' : List V = set vs other gone in
      let a : total numbers vs + 0 ≡ total numbers s.views + numbers_of v'.stage = moved numbers_of s.views id v v' (Owns g b) at is in let a1 : numbers_of v'.stage ≡ 0 = ap numbers_of st' in let a2 : total numbers vs' + 0 ≡ total numbers vs + 0 = moved numbers_of vs other p gone Idle there' idle in
      let u : total uses vs + 0 ≡ total uses s.views + uses_of v'.stage = moved uses_of s.views id v v' (Owns g b) at is in let u1 : uses_of v'.stage ≡ 0 = ap uses_of st' in let u2 : total uses vs' + 1 ≡ total uses vs + 0 = moved uses_of vs other p gone Idle there' idle in
      let i : total turns vs + 0 ≡ total turns s.views + turns_of v'.stage = moved turns_of s.views id v v' (Owns g b) at is in let i1 : turns_of v'.stage ≡ 0 = ap turns_of st' in let i2 : total turns vs' + 0 ≡ total turns vs + 0 = moved turns_of vs other p gone Idle there' idle in
      let a' = r.all_waiting in let u' = r.all_used in let i' = r.all_inside in let most = r.most in
      let here : v ≡ gone → ⊥ = not_gone v (Owns g b) is (λ e. cc) in
      let far : (c : ℕ) → Contains w.kept c → c ≢ id = λ c h same. here (sym (some-injective gone v (sym (r.each_kept c h) ∙ (ap (get_elem? s.views) same ∙ at)))) in
      let mine : Stands w' id v' v'.stage = subst (Stands w' id v') (sym st')
      (known.0, known.1, known.2, ap (λ l. l ++ c ∷ []) known.3, known.4, its.0.0, subst (λ (n : ℕ). entries_by n w.log ≡ entries_by n p.seen) (sym name) its.1.2) in
      let more : length w'.kept ≡ length w.kept + 1 = length-append w.kept (c ∷ []) in
      let wide : other < length vs = inside_length vs other p there' in
      let its_place : get_elem? vs' other ≡ some gone = set_here vs other gone wide in record {
        facts = w';
        words = r.words;
        short = r.short;
        seats = length-set vs other gone ∙ (length-set s.views id v' ∙ r.seats);
        most = r.most;
        all_waiting = omega arith;
        all_used = omega arith;
        all_inside = omega arith;
        each_seat = seats_stay (λ j d. Stands w' j d d.stage) vs other gone tt (λ j d _. seats_stay (λ j d. Stands w' j d d.stage) s.views id v' mine
            (λ j d other q. others w w' [] j d (sym (append-nil w.log)) refl (λ _. refl) (λ _ _. refl) (λ z. absurd (other (z ∙ sym owner))) (λ n l h e. (l, h, e)) (λ n l h e o. (l, h, e, refl, o)) d.stage (r.each_seat j d q)) j d);
        each_kept = λ k h. dite (ℕ_discrete k other)
            (λ e. ap (get_elem? vs') e ∙ its_place)
            (λ ne. ⊎_elim
            (λ (old : Contains w.kept k). set_else vs other k gone ne ∙ (set_else s.views id k v' (far k old) ∙ r.each_kept k old))
            (λ (new : Contains (c ∷ []) k). absurd (ne (sym (only c k new) ∙ name)))
            (Contains-append_cases w.kept (c ∷ []) k h));
        each_given = λ k some_k few. ⊎_elim
            (λ (old : (d : V) × (get_elem? s.views k ≡ some d) × (uses_of d.stage ≡ 1)). dite (ℕ_discrete k other)
            (λ e. inr (subst (Contains w'.kept) (name ∙ sym e) (last_of w.kept c)))
            (λ ne. inl (old.0, set_else vs other k gone ne ∙ (set_else s.views id k v' (λ e. omega arith) ∙ old.1), old.2)))
            (λ (old : Contains w.kept k). inr (Contains-append_left w.kept (c ∷ []) k old))
            (r.each_given k some_k few);
        all_held = λ n l h. let old = r.all_held n l h in let not_me : w.holder n ≢ id = λ e. subst (HasDrawn n) is (subst (λ (d : V). HasDrawn n d.stage) (some-injective old.0 v (sym old.1 ∙ (ap (get_elem? s.views) e ∙ at))) old.2) in
            let not_it : w.holder n ≢ other = λ e. subst (HasDrawn n) idle (subst (λ (d : V). HasDrawn n d.stage) (some-injective old.0 p (sym old.1 ∙ (ap (get_elem? s.views) e ∙ there))) old.2) in
            (old.0, set_else vs other (w.holder n) gone not_it ∙ (set_else s.views id (w.holder n) v' not_me ∙ old.1), old.2);
        whole = let old = r.whole in let mine_here : get_elem? vs' id ≡ some v' = set_else vs other id gone (λ e. apart (sym e)) ∙ set_here s.views id v' (inside_length s.views id v at) in dite (ℕ_discrete old.0 id)
            (λ e. (id, v', mine_here, ⊎_elim (λ (k : v.seen ≡ w.log). inl k) (λ k. absurd (subst (JoinsAll w.log) is k)) (subst (KnowsAll w.log) (some-injective old.1 v (sym old.2 ∙ (ap (get_elem? s.views) e ∙ at))) old.3)))
            (λ ne. dite (ℕ_discrete old.0 other)
            (λ e. (id, v', mine_here, ⊎_elim (λ (k : p.seen ≡ w.log). inr (subst (JoinsAll w.log) (sym st') k)) (λ k. absurd (subst (JoinsAll w.log) idle k)) (subst (KnowsAll w.log) (some-injective old.1 p (sym old.2 ∙ (ap (get_elem? s.views) e ∙ there))) old.3)))
            (λ ne'. (old.0, old.1, set_else vs other old.0 gone ne' ∙ (set_else s.views id old.0 v' ne ∙ old.2), old.3)));
        ungiven = r.ungiven;
        slot = ⊎_elim (λ h. inl h) (λ h. inr h) r.slot;
      }

  -- the second load of a join
  pub settles : (slots id g c : ℕ) (b : List ℕ) (also : Log E) (me : Sat S E F) → me.0.stage ≡ Joins g b c also → Allows Rule slots id me 0 (λ m. m) (settled (step slots 0 0 0 none) me)
  settles slots id g c b also me is s r _ at _ = let w : Facts E F = r.facts in let known = subst (Stands w id me.0) is (r.each_seat id me.0 at) in
      let seen : Log E = longer me.0.seen also in let lists = longer_begins me.0.seen also w.log known.0.0 known.5 in
      let own : entries_by c w.log ≡ entries_by c also = known.6 in
      let by_kept : (x : ℕ) → Contains b x → entries_by x seen ≡ entries_by x me.0.seen = λ x h. between x me.0.seen seen w.log lists.0 lists.2 (known.4 x h) in
      let by_it : entries_by c seen ≡ entries_by c also = between c also seen w.log lists.1 lists.2 own in
      let v' : V = record { caller = me.0.caller; seen = longer me.0.seen (also_of me.0.stage); fixed = me.0.fixed; turns = me.0.turns; stage = settled_stage me.0.stage } in
      let list : longer me.0.seen (also_of me.0.stage) ≡ seen = ap (λ (st : Stage E). longer me.0.seen (also_of st)) is in
      let st' : v'.stage ≡ Owns g (b ++ c ∷ []) = ap settled_stage is in
      let x : total numbers (set s.views id v') + 0 ≡ total numbers s.views + numbers_of v'.stage = moved numbers_of s.views id me.0 v' (Joins g b c also) at is in let x'' : numbers_of v'.stage ≡ 0 = ap numbers_of st' in
      let u : total uses (set s.views id v') + 0 ≡ total uses s.views + uses_of v'.stage = moved uses_of s.views id me.0 v' (Joins g b c also) at is in let u'' : uses_of v'.stage ≡ 0 = ap uses_of st' in
      let i : total turns (set s.views id v') + 0 ≡ total turns s.views + turns_of v'.stage = moved turns_of s.views id me.0 v' (Joins g b c also) at is in let i'' : turns_of v'.stage ≡ 0 = ap turns_of st' in
      let x' = r.all_waiting in let i' = r.all_inside in let w' : Facts E F = after w w.log w.turn w.drawn w.holder w.away in
      let number : given_of me.0.stage ≡ w.given = ap given_of is ∙ known.2 in let all_used = r.all_used in
      let many : length (b ++ c ∷ []) ≡ length w.kept = ap length known.3 in
      let room : length b + 1 ≤ w.given = omega (arith, length-append b (c ∷ [])) in
      let has_kept : (y : ℕ) → Contains (b ++ c ∷ []) y → entries_by y w.log ≡ entries_by y seen = λ y h. ⊎_elim
      (λ (old : Contains b y). known.4 y old ∙ sym (by_kept y old))
      (λ (new : Contains (c ∷ []) y). subst (λ (n : ℕ). entries_by n w.log ≡ entries_by n seen) (only c y new) (own ∙ sym by_it))
      (Contains-append_cases b (c ∷ []) y h) in
      let v'' : V = record { caller = me.0.caller; seen = seen; fixed = me.0.fixed; turns = me.0.turns; stage = settled_stage me.0.stage } in
      let told : Tells me.0.seen me.0.stage = subst (Tells me.0.seen) (sym is) (lists.0, lists.1, by_it, by_kept, (λ y late. none_before y seen w.log lists.2 (r.ungiven y (subst (λ (n : ℕ). IsUngiven n y) known.2 late))), subst (λ (n : ℕ). length b + 1 ≤ n) (sym known.2) room) in
      let same : v' ≡ v'' = λ k. record { caller = me.0.caller; seen = list k; fixed = me.0.fixed; turns = me.0.turns; stage = settled_stage me.0.stage } in (
        v',
        keeps,
        tt,
        moves history fixed s r id me.0 v' w.log [] w.turn w.drawn w.holder w.away _ s.homes at (not_gone me.0 (Joins g b c also) is (λ e. cc))
            (sym (append-nil w.log)) (λ _ _. refl) r.short (omega arith) (omega arith) (omega arith)
            (λ j m other l h e. (l, h, e))
            (λ j m other e h e' o. (e, h, e', refl, o))
            (subst (λ (d : V). Stands w' id d d.stage) (sym same) (subst (Stands w' id v'') (sym st') ((lists.2, known.0.1), known.1, known.2, known.3, has_kept)))
            (set-get_or s.words 0 0 ∙ r.words)
            (λ m l h. inr (l, h, refl, λ d. subst (HasDrawn m) is d))
            (inr (refl, λ k. inl (list ∙ longer_whole me.0.seen also w.log known.0.0 known.5 (⊎_elim (λ (h : me.0.seen ≡ w.log). inl h) (λ h. inr (subst (JoinsAll w.log) is h)) k))))
            (⊎_elim (λ h. inl h) (λ h. inr h) r.slot),
        (refl, told.0, told.1, told.2, told.3, told.4, told.5),
      )

  abbrev start : F → Facts E F
  start f = record { log = []; fixed = f; turn = 18446744073709551613; drawn = 18446744073709551613; holder = λ _. 0; given = 0; kept = []; away = 0 }

  first : (f : F) (j : ℕ) (d : V) → get_elem? (opener f ∷ []) j ≡ some d → Stands (start f) j d d.stage
  first f zero d e = let same : opener f ≡ d = some-injective (opener f) d e in subst (λ (z : V). Stands (start f) 0 z z.stage) same ((([], refl), refl), refl, refl, refl, λ c h. refl)
  first f (suc j) d e = absurd (some-ne-none d (sym e))

  -- the table at the start
  pub opens : (x : S) → history x ≡ [] → Rule (opening (18446744073709551613 ∷ 18446744073709551613 ∷ 0 ∷ []) (x ∷ []) (opener (fixed x)))
  opens x none_yet = record {
    facts = start (fixed x);
    words = refl;
    short = omega arith;
    seats = refl;
    most = omega arith;
    all_waiting = refl;
    all_used = refl;
    all_inside = refl;
    each_seat = first (fixed x);
    each_kept = λ c h. let none : h.0 < 0 = h.1 in absurd (omega arith);
    ungiven = λ c late. refl;
    each_given = λ c some_c few. absurd (omega arith);
    all_held = λ n l h. absurd (omega arith);
    whole = (0, opener (fixed x), refl, inl refl);
    slot = inl (refl, (x, refl, none_yet, refl));
  }

  -- where no pass is out, the state is at home, and the owner has seen its whole history
  pub closes : (id g : ℕ) (b : List ℕ) (v : V) (ws : List ℕ) (xs : List S) → v.stage ≡ Owns g b → length b ≡ g → Final (Seen Rule id v) ws xs
      → (x : S) × (get_elem? xs 0 ≡ some x) × Closes g v (history x) (fixed x)
  closes id g b v ws xs is all_back f = let s : St = f.0 in let r = f.1.0 in let at = f.1.1 in let w : Facts E F = r.facts in let known = subst (Stands w id v) is (r.each_seat id v at) in
      let same : length b ≡ length w.kept = ap length known.3 in let count : g ≡ w.given = known.2 in
      let u = r.all_used in let c = r.all_inside in let few = none_in s.views in
      let none_used : total uses s.views ≡ 0 = omega arith in
      let home : IsHome history fixed w s.homes = ⊎_elim (λ h. h) (λ (o : IsOut history fixed w s.homes). let one = o.0 in absurd (omega arith)) r.slot in
      let x : S = home.1.0 in
      let is_kept : (c : ℕ) → 0 < c → c ≤ w.given → Contains w.kept c = λ c some_c few_c. ⊎_elim
      (λ (old : (d : V) × (get_elem? s.views c ≡ some d) × (uses_of d.stage ≡ 1)). absurd (let t : uses old.0 ≤ total uses s.views = total_at uses s.views c old.0 old.1 in let one = old.2 in omega arith))
      (λ (h : Contains w.kept c). h)
      (r.each_given c some_c few_c) in
      let none_of : (c : ℕ) → IsUngiven w.given c → entries_by c w.log ≡ entries_by c v.seen = λ c late. r.ungiven c late ∙ sym (none_before c v.seen w.log known.0.0 (r.ungiven c late)) in
      let all_of : (c : ℕ) → entries_by c w.log ≡ entries_by c v.seen = λ c. dite (ℕ_discrete c 0)
      (λ z. none_of c (inl z))
      (λ ne. dite (dec_le c w.given)
      (λ le. known.4 c (subst (λ l. Contains l c) (sym known.3) (is_kept c (omega arith) le)))
      (λ late. none_of c (inr (lt_of_not-le late)))) in (
        x,
        f.4 0 x (ap (λ l. get_elem? l 0) home.1.1),
        (
          home.1.2 ∙ whole_seen v.seen w.log known.0.0 all_of,
          known.0.1 ∙ ap (λ (y : F). Some y) (sym home.1.3),
          λ c some_c few_c. subst (λ l. Contains l c) (sym known.3 ∙ sym (ap kept_of is)) (is_kept c some_c (subst (λ (n : ℕ). c ≤ n) known.2 few_c)),
        ),
      )
