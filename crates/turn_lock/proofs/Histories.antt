-- Prefixes of histories, and the entries of one caller.
use Rattle.std.proofs.Common.{◌≡◌, ℕ, Bool, true, false, ◌≤◌, ◌≢◌, ◌⊎◌, [], ◌∷◌, ◌++◌, length, nat_lt, sym, refl, ap, ◌∙◌, subst, ⊎_elim, inl, inr, arith, append_assoc, append-nil, drop, cond, ne_eqb, eq-eqb, eqb, ltb-true, ltb-false, length-append}
use Rattle.std.proofs.lemmas.List.Elements.{filter-append}
use Rattle.turn_lock.specs.History.{Log, Begins, Adds, entries_by, longer}

module _ {E : Type 0} where
  -- a beginning of a beginning
  pub begins_both : (xs ys zs : Log E) → Begins xs ys → Begins ys zs → Begins xs zs
  begins_both xs ys zs a b = (a.0 ++ b.0, b.1 ∙ (ap (λ l. l ++ b.0) a.1 ∙ append_assoc xs a.0 b.0))

  pub Begins-append : (xs ys ys' ext : Log E) → ys' ≡ ys ++ ext → Begins xs ys → Begins xs ys'
  Begins-append xs ys ys' ext e b = (b.0 ++ ext, e ∙ (ap (λ l. l ++ ext) b.1 ∙ append_assoc xs b.0 ext))

  pub entries_by-append : (c : ℕ) (xs ys : Log E) → entries_by c (xs ++ ys) ≡ entries_by c xs ++ entries_by c ys
  entries_by-append c xs ys = filter-append (λ x. eqb x.0 c) xs ys

  -- a list that goes on without entries of a caller has the same entries of it
  pub entries_by-more : (c : ℕ) (ys ys' ext : Log E) → ys' ≡ ys ++ ext → entries_by c ext ≡ [] → entries_by c ys' ≡ entries_by c ys
  entries_by-more c ys ys' ext e none = ap (entries_by c) e ∙ (entries_by-append c ys ext ∙ (ap (λ l. entries_by c ys ++ l) none ∙ append-nil (entries_by c ys)))

  entries_by-other : (c j : ℕ) (e : E) → c ≢ j → entries_by c ((j, e) ∷ []) ≡ []
  entries_by-other c j e ne = ap (λ b. cond b ((j, e) ∷ []) []) (ne_eqb j c (λ p. ne (sym p)))

  nothing_more : (xs ys : Log E) → xs ++ ys ≡ xs → ys ≡ []
  nothing_more [] ys e = e
  nothing_more (x ∷ xs) ys e = nothing_more xs ys (ap (drop 1) e)

  -- the rest of a list has no entry of a caller whose entries all stand before
  pub none_missed : (c : ℕ) (xs ys rest : Log E) → ys ≡ xs ++ rest → entries_by c ys ≡ entries_by c xs → entries_by c rest ≡ []
  none_missed c xs ys rest e same = nothing_more (entries_by c xs) (entries_by c rest) (sym (entries_by-append c xs rest) ∙ (ap (entries_by c) (sym e) ∙ same))

  empty_front : (xs ys : Log E) → xs ++ ys ≡ [] → xs ≡ []
  empty_front [] ys e = refl
  empty_front (x ∷ xs) ys e = absurd (let h : length ((x ∷ xs) ++ ys) ≡ 0 = ap length e in omega arith)

  -- a prefix has no entry of a caller of which the whole list has none
  pub none_before : (c : ℕ) (xs ys : Log E) → Begins xs ys → entries_by c ys ≡ [] → entries_by c xs ≡ []
  none_before c xs ys b none = empty_front (entries_by c xs) (entries_by c b.0) (sym (entries_by-append c xs b.0) ∙ (ap (entries_by c) (sym b.1) ∙ none))

  -- between a prefix that has all of a caller's entries and the whole list, nothing of this caller comes
  pub between : (c : ℕ) (xs ys zs : Log E) → Begins xs ys → Begins ys zs → entries_by c zs ≡ entries_by c xs → entries_by c ys ≡ entries_by c xs
  between c xs ys zs b b' same = entries_by-more c xs ys b.0 b.1
      (none_before c b.0 (b.0 ++ b'.0) (b'.0, refl) (none_missed c xs zs (b.0 ++ b'.0) (b'.1 ∙ (ap (λ l. l ++ b'.0) b.1 ∙ append_assoc xs b.0 b'.0)) same))

  -- what an act adds
  pub added : (c : ℕ) (xs ys : Log E) → Adds c xs ys → (ext : Log E) × (ys ≡ xs ++ ext) × ((k : ℕ) → k ≢ c → entries_by k ext ≡ [])
  added c xs ys = ⊎_elim (λ e. ([], e ∙ sym (append-nil xs), λ k ne. refl)) (λ t. ((c, t.0) ∷ [], t.1, λ k ne. entries_by-other k c t.0 ne))

  -- of two lists that go on to the same one, the shorter begins the longer
  front : (xs ys r q : Log E) → xs ++ r ≡ ys ++ q → length xs ≤ length ys → Begins xs ys
  front [] ys r q e le = (ys, refl)
  front (x ∷ xs) [] r q e le = absurd (omega arith)
  front (x ∷ xs) (y ∷ ys) r q e le = let head : x ≡ y = cc in let t = front xs ys r q (ap (drop 1) e) (omega arith) in (t.0, λ i. sym head i ∷ t.1 i)

  pub shorter_begins : (xs ys zs : Log E) → Begins xs zs → Begins ys zs → length xs ≤ length ys → Begins xs ys
  shorter_begins xs ys zs b b' le = front xs ys b.0 b'.0 (sym b.1 ∙ b'.1) le

  longer_cases : (xs ys : Log E) (b : Bool) → nat_lt (length xs) (length ys) ≡ b → ((longer xs ys ≡ ys) × (length xs ≤ length ys)) ⊎ ((longer xs ys ≡ xs) × (length ys ≤ length xs))
  longer_cases xs ys true e = inl (ap (λ b. cond b ys xs) e, let h = ltb-true (length xs) (length ys) e in omega arith)
  longer_cases xs ys false e = inr (ap (λ b. cond b ys xs) e, ltb-false (length xs) (length ys) e)

  pub longer_is : (xs ys : Log E) → ((longer xs ys ≡ ys) × (length xs ≤ length ys)) ⊎ ((longer xs ys ≡ xs) × (length ys ≤ length xs))
  longer_is xs ys = longer_cases xs ys (nat_lt (length xs) (length ys)) refl

  -- the longer of two prefixes of one list begins with both, and is a prefix itself
  pub longer_begins : (xs ys zs : Log E) → Begins xs zs → Begins ys zs → Begins xs (longer xs ys) × Begins ys (longer xs ys) × Begins (longer xs ys) zs
  longer_begins xs ys zs b b' = ⊎_elim
      (λ (t : (longer xs ys ≡ ys) × (length xs ≤ length ys)). subst (λ (l : Log E). Begins xs l × Begins ys l × Begins l zs) (sym t.0) (shorter_begins xs ys zs b b' t.1, ([], sym (append-nil ys)), b'))
      (λ (t : (longer xs ys ≡ xs) × (length ys ≤ length xs)). subst (λ (l : Log E). Begins xs l × Begins ys l × Begins l zs) (sym t.0) (([], sym (append-nil xs)), shorter_begins ys xs zs b' b t.1, b))
      (longer_is xs ys)

  -- a prefix that is as long as the list is the list
  no_shorter : (xs zs : Log E) → Begins xs zs → length zs ≤ length xs → xs ≡ zs
  no_shorter [] [] b le = refl
  no_shorter [] (z ∷ zs) b le = absurd (omega arith)
  no_shorter (x ∷ xs) [] b le = absurd (let e = b.1 in cc)
  no_shorter (x ∷ xs) (z ∷ zs) b le = let e : z ∷ zs ≡ x ∷ (xs ++ b.0) = b.1 in let head : z ≡ x = cc in let t = no_shorter xs zs (b.0, ap (drop 1) e) (omega arith) in λ i. sym head i ∷ t i

  length_front : (xs ys : Log E) → Begins xs ys → length xs ≤ length ys
  length_front xs ys b = let e : length ys ≡ length (xs ++ b.0) = ap length b.1 in omega (arith, length-append xs b.0)

  both_ways : (xs ys : Log E) → Begins xs ys → Begins ys xs → xs ≡ ys
  both_ways xs ys b b' = no_shorter xs ys b (length_front ys xs b')

  -- of two prefixes of a list, the longer is the list where one of them is
  pub longer_whole : (xs ys zs : Log E) → Begins xs zs → Begins ys zs → (xs ≡ zs) ⊎ (ys ≡ zs) → longer xs ys ≡ zs
  longer_whole xs ys zs b b' one = let t = longer_begins xs ys zs b b' in ⊎_elim
      (λ (e : xs ≡ zs). let p : Begins zs (longer xs ys) = subst (λ (l : Log E). Begins l (longer xs ys)) e t.0 in sym (both_ways zs (longer xs ys) p t.2))
      (λ (e : ys ≡ zs). let p : Begins zs (longer xs ys) = subst (λ (l : Log E). Begins l (longer xs ys)) e t.1 in sym (both_ways zs (longer xs ys) p t.2))
      one

  first_entry : (x : ℕ × E) (xs : Log E) → entries_by x.0 (x ∷ xs) ≡ [] → ⊥
  first_entry x xs e = let h : cond (eqb x.0 x.0) (x ∷ entries_by x.0 xs) (entries_by x.0 xs) ≡ [] = e in
      let same : cond (eqb x.0 x.0) (x ∷ entries_by x.0 xs) (entries_by x.0 xs) ≡ x ∷ entries_by x.0 xs = ap (λ b. cond b (x ∷ entries_by x.0 xs) (entries_by x.0 xs)) (eq-eqb x.0 x.0 refl) in
      let wrong : x ∷ entries_by x.0 xs ≡ [] = sym same ∙ h in cc

  no_entries : (xs : Log E) → ((c : ℕ) → entries_by c xs ≡ []) → xs ≡ []
  no_entries [] none = refl
  no_entries (x ∷ xs) none = absurd (first_entry x xs (none x.0))

  -- a prefix that has every caller's entries is the whole list
  pub whole_seen : (xs ys : Log E) → Begins xs ys → ((c : ℕ) → entries_by c ys ≡ entries_by c xs) → ys ≡ xs
  whole_seen xs ys b all = b.1 ∙ (ap (λ l. xs ++ l) (no_entries b.0 (λ c. none_missed c xs ys b.0 b.1 (all c))) ∙ append-nil xs)
