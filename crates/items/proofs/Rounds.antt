-- Lists of items up to a last one, and the rounds of their replies.
use Rattle.std.proofs.Common.{◌≡◌, Bool, true, false, ◌||◌, List, [], ◌∷◌, ◌++◌, length, suc, ℕ, refl, sym, ◌∙◌, ap, subst}
use Rattle.std.proofs.lemmas.Bool.{false≢true}
use Rattle.items.specs.Rounds.{until_last, has_last, Rounds}

or_false : (a b : Bool) → (a || b) ≡ false → (a ≡ false) × (b ≡ false)
or_false true b e = absurd (false≢true (sym e))
or_false false b e = (refl, e)

module _ {A : Type 0} (is_last : A → Bool) where
  -- items without a last one stand before it
  pub until_last-append : (items more : List A) → has_last is_last items ≡ false → until_last is_last (items ++ more) ≡ items ++ until_last is_last more
  until_last-append [] more e = refl
  until_last-append (item ∷ items) more e =
      let f = or_false (is_last item) (has_last is_last items) e in
      rw f.0 (ap (λ (x : List A). item ∷ x) (until_last-append items more f.1))

  pub has_last-append : (items more : List A) → has_last is_last items ≡ false → has_last is_last (items ++ more) ≡ has_last is_last more
  has_last-append [] more e = refl
  has_last-append (item ∷ items) more e =
      let f = or_false (is_last item) (has_last is_last items) e in
      rw f.0 (has_last-append items more f.1)

  -- a last one ends the list
  pub until_last-last : (item : A) (more : List A) → is_last item ≡ true → until_last is_last (item ∷ more) ≡ item ∷ []
  until_last-last item more e = rw e refl

  -- an item that is not the last stands before it
  pub until_last-goes : (item : A) (more : List A) → is_last item ≡ false → until_last is_last (item ∷ more) ≡ item ∷ until_last is_last more
  until_last-goes item more e = rw e refl

  -- without a last one all items stand before it
  pub until_last-all : (items : List A) → has_last is_last items ≡ false → until_last is_last items ≡ items
  until_last-all [] e = refl
  until_last-all (item ∷ items) e =
      let f = or_false (is_last item) (has_last is_last items) e in
      rw f.0 (ap (λ (x : List A). item ∷ x) (until_last-all items f.1))

  has_last_cut : (item : A) (items : List A) (last : Bool) → is_last item ≡ last → has_last is_last (until_last is_last items) ≡ has_last is_last items → has_last is_last (until_last is_last (item ∷ items)) ≡ has_last is_last (item ∷ items)
  has_last_cut item items true e later = rw e refl
  has_last_cut item items false e later = rw e later

  -- the items up to a last one have one where all have
  pub has_last-until_last : (items : List A) → has_last is_last (until_last is_last items) ≡ has_last is_last items
  has_last-until_last [] = refl
  has_last-until_last (item ∷ items) = has_last_cut item items (is_last item) refl (has_last-until_last items)

  until_one : (item : A) (last : Bool) → is_last item ≡ last → until_last is_last (item ∷ []) ≡ item ∷ []
  until_one item true e = rw e refl
  until_one item false e = rw e refl

  pub until_last-one : (item : A) → until_last is_last (item ∷ []) ≡ item ∷ []
  until_last-one item = until_one item (is_last item) refl

  twice_cut : (item : A) (items : List A) (last : Bool) → is_last item ≡ last → until_last is_last (until_last is_last items) ≡ until_last is_last items → until_last is_last (until_last is_last (item ∷ items)) ≡ until_last is_last (item ∷ items)
  twice_cut item items true e later = rw e refl
  twice_cut item items false e later = rw e (ap (λ (x : List A). item ∷ x) later)

  pub until_last-twice : (items : List A) → until_last is_last (until_last is_last items) ≡ until_last is_last items
  until_last-twice [] = refl
  until_last-twice (item ∷ items) = twice_cut item items (is_last item) refl (until_last-twice items)

  none_of : (items more : List A) → [] ≡ items ++ more → (items ≡ []) × (more ≡ [])
  none_of [] more e = (refl, sym e)
  none_of (item ∷ items) more e = cc

  module _ (item : A) (items more : List A) where
    parts_cut : (last : Bool) → is_last item ≡ last → until_last is_last (item ∷ (items ++ more)) ≡ item ∷ (items ++ more)
        → (until_last is_last (items ++ more) ≡ items ++ more → (until_last is_last items ≡ items) × (until_last is_last more ≡ more))
        → (until_last is_last (item ∷ items) ≡ item ∷ items) × (until_last is_last more ≡ more)
    parts_cut true e same later =
        let short : item ∷ [] ≡ item ∷ (items ++ more) = sym (until_last-last item (items ++ more) e) ∙ same in
        let none = none_of items more (cc) in
        (until_last-last item items e ∙ ap (λ (x : List A). item ∷ x) (sym none.0), ap (until_last is_last) none.1 ∙ sym none.1)
    parts_cut false e same later =
        let long : item ∷ until_last is_last (items ++ more) ≡ item ∷ (items ++ more) = sym (until_last-goes item (items ++ more) e) ∙ same in
        let parts = later (cc) in
        (until_last-goes item items e ∙ ap (λ (x : List A). item ∷ x) parts.0, parts.1)

  -- each part of a list that ends with its first last one does so too
  pub until_last-parts : (items more : List A) → until_last is_last (items ++ more) ≡ items ++ more → (until_last is_last items ≡ items) × (until_last is_last more ≡ more)
  until_last-parts [] more same = (refl, same)
  until_last-parts (item ∷ items) more same = parts_cut item items more (is_last item) refl same (until_last-parts items more)

module _ {A B S : Type 0} (Answers : S → A → B → S → Type 0) where
  -- rounds and then more
  pub Rounds-append : (s : S) (items : List A) (replies : List B) (mid : S) (more : List A) (replies' : List B) (s' : S) →
      Rounds Answers s items replies mid → Rounds Answers mid more replies' s' → Rounds Answers s (items ++ more) (replies ++ replies') s'
  Rounds-append s [] [] mid more replies' s' e rounds = subst (λ (x : S). Rounds Answers x more replies' s') e rounds
  Rounds-append s (item ∷ items) (reply ∷ replies) mid more replies' s' (m, first, rest) rounds =
      (m, first, Rounds-append m items replies mid more replies' s' rest rounds)
  Rounds-append s [] (reply ∷ replies) mid more replies' s' none rounds = absurd none
  Rounds-append s (item ∷ items) [] mid more replies' s' none rounds = absurd none

  -- there is one reply for each item
  pub Rounds-length : (s : S) (items : List A) (replies : List B) (s' : S) → Rounds Answers s items replies s' → length replies ≡ length items
  Rounds-length s [] [] s' rounds = refl
  Rounds-length s (item ∷ items) (reply ∷ replies) s' (m, first, rest) = ap (λ (n : ℕ). suc n) (Rounds-length m items replies s' rest)
  Rounds-length s [] (reply ∷ replies) s' none = absurd none
  Rounds-length s (item ∷ items) [] s' none = absurd none
