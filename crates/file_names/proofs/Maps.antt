-- Maps with keys that are vectors of bytes, by their bytes.
use Rattle.std.specs.Prelude.{if◌then◌else◌, is_some, IsSome}
use Rattle.std.specs.BTreeMap.{btree_map_len}
use Rattle.std.proofs.Common.{◌+◌, ◌&&◌, [], length, add-zero, arith, ◌≡◌, ℕ, Bool, true, false, cond, List, Option, Some, None, refl, sym, ap, subst, ◌∙◌, ⊎_elim}
use Rattle.std.specs.Ordering.{nat_cmp, is_eq}
use Rattle.std.specs.Cmp.{eq_by_cmp_equiv}
use Rattle.std.specs.Cmp.Lexicographic.{slice_cmp, bytes_decides, nat_list_cmp_total, nat_list_eq_equiv}
use Rattle.std.specs.Str.{bytes_eq}
use Rattle.std.specs.BTreeMap.{BTreeMap, UpdatesBy, is_at}
use Rattle.std.specs.Map.{lookup, IsKeyTest, AreApart, KeepsOthers}
use Rattle.std.specs.declared.vec.Vec.{Vec}
use Rattle.std.specs.declared.alloc.Global.{Global}
use Rattle.std.proofs.lemmas.Bool.{cases_Bool, cond-true, cond-false}
use Rattle.std.proofs.lemmas.Map.Text.{is_eq-slice_cmp}
use Rattle.file_names.specs.Folders.{at_bytes, Folders, Entries, entries_at, entry_in, count_of, kept_at, count_at, IsOpened, IsPut, HasPut, Keeps}
use Rattle.file_names.specs.declared.tree.Named.{Named}

apart : (bs cs ks : List ℕ) → bytes_eq bs cs ≡ false → bytes_eq bs ks ≡ true → bytes_eq cs ks ≡ false
apart bs cs ks n y = nat_list_eq_equiv.symm cs ks ∙ sym (nat_list_eq_equiv.congr bs ks cs y) ∙ n

apart_in_order : (bs cs ks : List ℕ) → bytes_eq bs cs ≡ false → is_eq (slice_cmp nat_cmp bs ks) ≡ true → is_eq (slice_cmp nat_cmp cs ks) ≡ false
apart_in_order bs cs ks n y = is_eq-slice_cmp cs ks ∙ apart bs cs ks n (sym (is_eq-slice_cmp bs ks) ∙ y)

other_entries : {K X : Type 0} (eq : K → K → Bool) (test : K → Bool) (old new : List (K × X)) → KeepsOthers eq test old new → (other : K → Bool) → IsKeyTest eq other → AreApart test other → lookup other new ≡ lookup other old
unfolding KeepsOthers
other_entries eq test old new h = h

-- g is w at bs, and f at other bytes
by_bytes : {W : Type 0} (f g : List ℕ → W) (bs : List ℕ) (w : W) → g bs ≡ w → ((cs : List ℕ) → bytes_eq bs cs ≡ false → g cs ≡ f cs) → (cs : List ℕ) → g cs ≡ cond (bytes_eq bs cs) w (f cs)
by_bytes f g bs w here other cs =
    ⊎_elim
    (λ y. subst (λ l. g l ≡ w) ((bytes_decides bs cs).0 y) here ∙ sym (cond-true (bytes_eq bs cs) w (f cs) y))
    (λ n. other cs n ∙ sym (cond-false (bytes_eq bs cs) w (f cs) n))
    (cases_Bool (bytes_eq bs cs))

-- what an update at the bytes bs leaves at any bytes
pub updates_bytes : {X : Type 0} (bs : List ℕ) (m n : BTreeMap (Vec ℕ Global) X) (w : Option X) → UpdatesBy (λ (x y : Vec ℕ Global). slice_cmp nat_cmp x.items y.items) (λ k. slice_cmp nat_cmp bs k.items) m n w
    → (cs : List ℕ) → at_bytes n cs ≡ cond (bytes_eq bs cs) w (at_bytes m cs)
updates_bytes bs m n w h = by_bytes (at_bytes m) (at_bytes n) bs w h.1 (λ cs e. other_entries _ _ _ _ h.3 _ (λ x y. (eq_by_cmp_equiv nat_list_cmp_total).congr cs x.items y.items) (λ k. apart_in_order bs cs k.items e))

-- ---- a folder that was opened

module _ (old new : Folders) (path : List ℕ) (empty : Entries) (none : empty.entries ≡ []) (absent : entries_at old path ≡ None) (made : HasPut old path empty new) where
  at_path : (f : List ℕ) → bytes_eq path f ≡ true → (entries_at new f ≡ Some empty) × (entries_at old f ≡ None)
  at_path f e = (made.kept f ∙ cond-true (bytes_eq path f) _ _ e, subst (λ l. entries_at old l ≡ None) ((bytes_decides path f).0 e) absent)

  elsewhere : (f : List ℕ) → bytes_eq path f ≡ false → entries_at new f ≡ entries_at old f
  elsewhere f e = made.kept f ∙ cond-false (bytes_eq path f) _ _ e

  nothing : (name : List ℕ) → entry_in (Some empty) name ≡ None
  nothing name = ap (λ es. lookup (is_at (λ (k : Vec ℕ Global). slice_cmp nat_cmp name k.items)) es) none

  pub opened_by : IsOpened old path new
  opened_by = record {
    opened = let h = at_path path ((bytes_decides path path).1 refl) in grind (arith, h.0);
    keeps = record {
      kept = λ f name. ⊎_elim
          (λ y. ap (λ o. entry_in o name) (at_path f y).0 ∙ nothing name ∙ sym (ap (λ o. entry_in o name) (at_path f y).1))
          (λ n. ap (λ o. entry_in o name) (elsewhere f n))
          (cases_Bool (bytes_eq path f));
      counts = λ f. ⊎_elim
          (λ y. ap count_of (at_path f y).0 ∙ ap length none ∙ sym (ap count_of (at_path f y).1))
          (λ n. ap count_of (elsewhere f n))
          (cases_Bool (bytes_eq path f));
      others = λ f some. ⊎_elim
          (λ y. let h = at_path f y in grind (arith, h.0))
          (λ n. subst IsSome (sym (elsewhere f n)) some)
          (cases_Bool (bytes_eq path f));
    };
  }

-- ---- folders with the same entries

module _ (old new : Folders) (path : List ℕ) (e e' : Entries) (was : entries_at old path ≡ Some e) (same : e'.entries ≡ e.entries) (made : (f : List ℕ) → entries_at new f ≡ cond (bytes_eq path f) (Some e') (entries_at old f)) where
  pub keeps_by : Keeps old new
  keeps_by =
      let at : (f : List ℕ) → bytes_eq path f ≡ true → (entries_at new f ≡ Some e') × (entries_at old f ≡ Some e) = λ f y. (made f ∙ cond-true (bytes_eq path f) _ _ y, subst (λ l. entries_at old l ≡ Some e) ((bytes_decides path f).0 y) was) in
      let off : (f : List ℕ) → bytes_eq path f ≡ false → entries_at new f ≡ entries_at old f = λ f n. made f ∙ cond-false (bytes_eq path f) _ _ n in record {
        kept = λ f name. ⊎_elim
            (λ y. ap (λ o. entry_in o name) (at f y).0 ∙ ap (λ es. lookup (is_at (λ (k : Vec ℕ Global). slice_cmp nat_cmp name k.items)) es) same ∙ sym (ap (λ o. entry_in o name) (at f y).1))
            (λ n. ap (λ o. entry_in o name) (off f n))
            (cases_Bool (bytes_eq path f));
        counts = λ f. ⊎_elim
            (λ y. ap count_of (at f y).0 ∙ ap length same ∙ sym (ap count_of (at f y).1))
            (λ n. ap count_of (off f n))
            (cases_Bool (bytes_eq path f));
        others = λ f some. ⊎_elim
            (λ y. let h = at f y in grind (arith, h.0))
            (λ n. subst IsSome (sym (off f n)) some)
            (cases_Bool (bytes_eq path f));
      }

-- ---- an entry that was put into a folder

module _ (old new : Folders) (path name : List ℕ) (named : Named) (e e' : Entries) (was : entries_at old path ≡ Some e) (put : HasPut e name named e') (made : (f : List ℕ) → entries_at new f ≡ cond (bytes_eq path f) (Some e') (entries_at old f)) where
  put_path : (f : List ℕ) → bytes_eq path f ≡ true → (entries_at new f ≡ Some e') × (entries_at old f ≡ Some e)
  put_path f y = (made f ∙ cond-true (bytes_eq path f) _ _ y, subst (λ l. entries_at old l ≡ Some e) ((bytes_decides path f).0 y) was)

  put_elsewhere : (f : List ℕ) → bytes_eq path f ≡ false → entries_at new f ≡ entries_at old f
  put_elsewhere f n = made f ∙ cond-false (bytes_eq path f) _ _ n

  kept_same : (f other : List ℕ) → (b : Bool) → bytes_eq path f ≡ b → kept_at new f other ≡ (if b && bytes_eq name other then Some named else kept_at old f other)
  kept_same f other true y = ap (λ o. entry_in o other) (put_path f y).0 ∙ put.kept other ∙ ap (cond (bytes_eq name other) (Some named)) (sym (ap (λ o. entry_in o other) (put_path f y).1))
  kept_same f other false n = ap (λ o. entry_in o other) (put_elsewhere f n)

  count_same : (f : List ℕ) → (b : Bool) → bytes_eq path f ≡ b → count_at new f ≡ count_at old f + (if b then (if is_some (kept_at old path name) then 0 else 1) else 0)
  count_same f true y =
      let before : count_at old f ≡ btree_map_len e = ap count_of (put_path f y).1 in
      let after : count_at new f ≡ btree_map_len e' = ap count_of (put_path f y).0 in
      let found : kept_at old path name ≡ at_bytes e name = ap (λ o. entry_in o name) was in
      after ∙ put.count ∙ ap (λ n. n + (if is_some (at_bytes e name) then 0 else 1)) (sym before) ∙ ap (λ o. count_at old f + (if is_some o then 0 else 1)) (sym found)
  count_same f false n = ap count_of (put_elsewhere f n) ∙ sym (add-zero _)

  pub put_by : IsPut old path name named new
  put_by = record {
    kept = λ f other. kept_same f other (bytes_eq path f) refl;
    counts = λ f. count_same f (bytes_eq path f) refl;
    others = λ f some. ⊎_elim
        (λ y. let h = put_path f y in grind (arith, h.0))
        (λ n. subst IsSome (sym (put_elsewhere f n)) some)
        (cases_Bool (bytes_eq path f));
  }
