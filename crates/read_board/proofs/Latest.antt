-- Each blob's last entry, where it stands.
use Rattle.std.proofs.Common.{◌≡◌, ℕ, zero, suc, ◌+◌, ◌<◌, ◌≤◌, ◌==◌, Bool, true, false, List, [], ◌∷◌, ◌++◌, length, drop, set, get_or, fold, slice_get, Option, Some, None, nat_le, if◌then◌else◌, refl, ap, sym, ◌∙◌, arith, inl, inr}
use Rattle.std.proofs.lemmas.Bool.Decides.{nat_tests}
use Rattle.std.proofs.lemmas.Bool.{cases_lt}
use Rattle.std.proofs.lemmas.List.Sums.{fold_push}
use Rattle.read_board.specs.declared.refresh.Refresh.{Refresh}
use Rattle.read_board.specs.Refreshes.{place, put, latest_of, on_board, covering, version_of, IsFullFor}

pub place_on : (blob : ℕ) (rs : List Refresh) (at : ℕ) (d : Refresh) → at < length rs → ((get_or rs at d).blob == blob) ≡ false
    → place blob (drop at rs) ≡ suc (place blob (drop (suc at) rs))
place_on blob [] at d less other = absurd (omega arith)
place_on blob (x ∷ xs) zero d less other = rw other refl
place_on blob (x ∷ xs) (suc at) d less other = place_on blob xs at d (omega arith) other

pub place_here : (blob : ℕ) (rs : List Refresh) (at : ℕ) (d : Refresh) → at < length rs → ((get_or rs at d).blob == blob) ≡ true → place blob (drop at rs) ≡ 0
place_here blob [] at d less same = absurd (omega arith)
place_here blob (x ∷ xs) zero d less same = rw same refl
place_here blob (x ∷ xs) (suc at) d less same = place_here blob xs at d (omega arith) same

put_case : (x : Refresh) (xs : List Refresh) (r : Refresh) (at : ℕ) (b : Bool) → (x.blob == r.blob) ≡ b
    → ((k : ℕ) → k ≡ place r.blob xs → k < length xs → set xs k r ≡ put xs r)
    → at ≡ (if b then 0 else suc (place r.blob xs)) → at < suc (length xs)
    → set (x ∷ xs) at r ≡ (if b then r ∷ xs else x ∷ put xs r)
put_case x xs r zero true t more is less = refl
put_case x xs r (suc at) true t more is less = absurd (omega (arith, is))
put_case x xs r zero false t more is less = absurd (omega (arith, is))
put_case x xs r (suc at) false t more is less = ap (λ l. x ∷ l) (more at (omega (arith, is)) (omega arith))

pub put_at : (rs : List Refresh) (r : Refresh) (at : ℕ) → at ≡ place r.blob rs → at < length rs → set rs at r ≡ put rs r
put_at [] r at is less = absurd (omega arith)
put_at (x ∷ xs) r at is less = put_case x xs r at (x.blob == r.blob) refl (put_at xs r) is less

end_case : (x : Refresh) (xs : List Refresh) (e : Refresh) (b : Bool) → (length xs ≤ place e.blob xs → put xs e ≡ xs ++ e ∷ []) → suc (length xs) ≤ (if b then 0 else suc (place e.blob xs))
    → (if b then e ∷ xs else x ∷ put xs e) ≡ x ∷ xs ++ e ∷ []
end_case x xs e true more past = absurd (omega arith)
end_case x xs e false more past = ap (λ l. x ∷ l) (more (omega arith))

pub put_end : (es : List Refresh) (e : Refresh) → length es ≤ place e.blob es → put es e ≡ es ++ e ∷ []
put_end [] e past = refl
put_end (x ∷ xs) e past = end_case x xs e (x.blob == e.blob) (put_end xs e) past

empty_case : (blob : ℕ) (e : Refresh) (b : Bool) → (if b then Some e else None) ≡ slice_get (e ∷ []) (if b then 0 else 1)
empty_case blob e true = refl
empty_case blob e false = refl

get_case : (blob : ℕ) (x : Refresh) (xs : List Refresh) (e : Refresh) (xe eb xb : Bool) → (x.blob == e.blob) ≡ xe → (e.blob == blob) ≡ eb → (x.blob == blob) ≡ xb
    → (if eb then Some e else slice_get xs (place blob xs)) ≡ slice_get (put xs e) (place blob (put xs e))
    → (if eb then Some e else slice_get (x ∷ xs) (if xb then 0 else suc (place blob xs))) ≡ slice_get (if xe then e ∷ xs else x ∷ put xs e) (place blob (if xe then e ∷ xs else x ∷ put xs e))
get_case blob x xs e true true xb p q r more = rw q refl
get_case blob x xs e true false true p q r more = absurd (grind (arith, nat_tests, p, q, r))
get_case blob x xs e true false false p q r more = rw q refl
get_case blob x xs e false true true p q r more = absurd (grind (arith, nat_tests, p, q, r))
get_case blob x xs e false true false p q r more = rw r more
get_case blob x xs e false false true p q r more = rw r refl
get_case blob x xs e false false false p q r more = rw r more

-- what stands in a blob's place after an entry is put
pub put_get : (blob : ℕ) (es : List Refresh) (e : Refresh) → (if e.blob == blob then Some e else slice_get es (place blob es)) ≡ slice_get (put es e) (place blob (put es e))
put_get blob [] e = empty_case blob e (e.blob == blob)
put_get blob (x ∷ xs) e = get_case blob x xs e (x.blob == e.blob) (e.blob == blob) (x.blob == blob) refl refl refl (put_get blob xs e)

on_from : (blob : ℕ) (log acc : List Refresh) (found : Option Refresh) → found ≡ slice_get acc (place blob acc)
    → fold (λ f e. if e.blob == blob then Some e else f) found log ≡ slice_get (fold put acc log) (place blob (fold put acc log))
on_from blob [] acc found is = is
on_from blob (e ∷ log) acc found is =
    on_from blob log (put acc e) (if e.blob == blob then Some e else found) (ap (λ f. if e.blob == blob then Some e else f) is ∙ put_get blob acc e)

-- the blob's last entry stands in its place
pub on_placed : (blob : ℕ) (log : List Refresh) → on_board blob log ≡ slice_get (latest_of log) (place blob (latest_of log))
on_placed blob log = on_from blob log [] None refl

get_mapped : (rs : List Refresh) (at : ℕ) (d : Refresh) → at < length rs → slice_get rs at ≡ Some (get_or rs at d)
get_mapped [] at d less = absurd (omega arith)
get_mapped (x ∷ xs) zero d less = refl
get_mapped (x ∷ xs) (suc at) d less = get_mapped xs at d (omega arith)

get_past : (rs : List Refresh) (at : ℕ) → length rs ≤ at → slice_get rs at ≡ None
get_past [] at past = refl
get_past (x ∷ xs) zero past = absurd (omega arith)
get_past (x ∷ xs) (suc at) past = get_past xs at (omega arith)

pub on_found : (blob : ℕ) (log : List Refresh) (rs : List Refresh) (at : ℕ) (d : Refresh) → rs ≡ latest_of log → at ≡ place blob rs → at < length rs
    → on_board blob log ≡ Some (get_or rs at d)
on_found blob log rs at d latest is less = on_placed blob log ∙ (ap (λ l. slice_get l (place blob l)) (sym latest) ∙ (ap (slice_get rs) (sym is) ∙ get_mapped rs at d less))

pub on_missing : (blob : ℕ) (log : List Refresh) (rs : List Refresh) (at : ℕ) → rs ≡ latest_of log → at ≡ place blob rs → length rs ≤ at → on_board blob log ≡ None
on_missing blob log rs at latest is past = on_placed blob log ∙ (ap (λ l. slice_get l (place blob l)) (sym latest) ∙ (ap (slice_get rs) (sym is) ∙ get_past rs at past))

pub past_place : (blob : ℕ) (rs : List Refresh) (at : ℕ) (d : Refresh) → at < length rs → ((get_or rs at d).blob ≡ blob → ⊥)
    → place blob rs ≡ at + place blob (drop at rs) → place blob rs ≡ at + 1 + place blob (drop (at + 1) rs)
past_place blob rs at d less other is =
    let no : ((get_or rs at d).blob == blob) ≡ false = grind (arith, nat_tests, other) in
    let next = place_on blob rs at d less no in
    let one : suc at ≡ at + 1 = omega arith in
    let rest : place blob (drop at rs) ≡ suc (place blob (drop (at + 1) rs)) = next ∙ ap (λ k. suc (place blob (drop k rs))) one in
    omega (arith, is, rest)

pub at_place : (blob : ℕ) (rs : List Refresh) (at : ℕ) (d : Refresh) → at < length rs → (get_or rs at d).blob ≡ blob
    → place blob rs ≡ at + place blob (drop at rs) → at ≡ place blob rs
at_place blob rs at d less same is =
    let yes : ((get_or rs at d).blob == blob) ≡ true = grind (arith, nat_tests, same) in
    omega (arith, is, place_here blob rs at d less yes)

none_past : (rs : List Refresh) (at : ℕ) → slice_get rs at ≡ None → length rs ≤ at
none_past [] at none = omega arith
none_past (x ∷ xs) zero none = absurd (cc (none))
none_past (x ∷ xs) (suc at) none = let rest = none_past xs at none in omega (arith, rest)

pub put_pushed : (rs : List Refresh) (r : Refresh) (at : ℕ) (new : List Refresh) (b : Bool) → at ≡ place r.blob rs → length rs ≤ at → b ≡ true → new ≡ (if b then rs ++ r ∷ [] else rs)
    → new ≡ put rs r
put_pushed rs r at new true is past done items = items ∙ sym (put_end rs r (omega (arith, is, past)))
put_pushed rs r at new false is past done items = absurd (cc (done))

covers : (e : Refresh) (version : ℕ) → version ≤ version_of e → Some e ≡ covering (Some e) version
covers e version le = let yes : nat_le version (version_of e) ≡ true = grind (arith, nat_tests, le) in rw yes refl

covers_not : (e : Refresh) (version : ℕ) → version_of e < version → None ≡ covering (Some e) version
covers_not e version lt = let no : nat_le version (version_of e) ≡ false = grind (arith, nat_tests, lt) in rw no refl

module _ (blob version : ℕ) (log : List Refresh) (rs : List Refresh) (at : ℕ) (latest : rs ≡ latest_of log) (is : at ≡ place blob rs) where
  pub finds_none : length rs ≤ at → None ≡ covering (on_board blob log) version
  finds_none past = ap (λ o. covering o version) (sym (on_missing blob log rs at latest is past))

  pub finds : (r : Refresh) → at < length rs → r ≡ get_or rs at r → version ≤ version_of r → Some r ≡ covering (on_board blob log) version
  finds r less here le = covers r version le ∙ ap (λ o. covering o version) (ap (λ x. Some x) here ∙ sym (on_found blob log rs at r latest is less))

  pub finds_older : (r : Refresh) → at < length rs → r ≡ get_or rs at r → version_of r < version → None ≡ covering (on_board blob log) version
  finds_older r less here lt = covers_not r version lt ∙ ap (λ o. covering o version) (ap (λ x. Some x) here ∙ sym (on_found blob log rs at r latest is less))

  pub full_here : at ≡ 64 → at ≤ length rs → length rs ≤ 64 → IsFullFor blob log
  full_here whole bound few = (on_missing blob log rs at latest is (omega (arith, whole, bound, few)), omega (arith, ap length latest, whole, bound, few))

  pub only_full : at ≤ length rs → IsFullFor blob log → at ≡ 64
  only_full bound full =
      let wide : length rs ≡ 64 = omega (arith, ap length latest, full.1) in
      let here : slice_get rs at ≡ None = sym (on_placed blob log ∙ (ap (λ l. slice_get l (place blob l)) (sym latest) ∙ ap (slice_get rs) (sym is))) ∙ full.0 in
      let past = none_past rs at here in omega (arith, past, bound, wide)

  -- where the board isn't full for the blob, there is room for its refresh
  pub room_below : at ≤ length rs → length rs ≤ 64 → (IsFullFor blob log → ⊥) → at < 64
  room_below bound few free = elim (cases_lt at 64) [
    | inl less ↦ less
    | inr past ↦ absurd (free (full_here (omega (arith, past, bound, few)) bound few))
  ]

-- another refresh in its place
pub put_latest : (log rs : List Refresh) (r : Refresh) → rs ≡ latest_of log → put rs r ≡ latest_of (log ++ r ∷ [])
put_latest log rs r latest = ap (λ (l : List Refresh). put l r) latest ∙ sym (fold_push put [] log r)
