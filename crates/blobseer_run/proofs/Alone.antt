-- A history of one pass holds no event of another caller.
use Rattle.std.proofs.Common.{◌≡◌, ◌⊎◌, ℕ, ◌==◌, Bool, true, false, cond, [], ◌∷◌, ◌++◌, zero, suc, refl, sym, ◌∙◌, ap, inl, inr, arith}
use Rattle.std.proofs.lemmas.Bool.Decides.{nat_tests}
use Rattle.blob_model.specs.declared.call.Event.{Event}
use Rattle.request_form.specs.Session.{AllOwn}
use Rattle.turn_lock.specs.History.{Log, entries_by, LacksUngiven, IsUngiven}
use Rattle.version_manager.specs.Log.{tag, tagged, events}

pub one_or_ungiven : (n : ℕ) → (n ≡ 1) ⊎ IsUngiven 1 n
one_or_ungiven zero = inr (inl refl)
one_or_ungiven (suc zero) = inl refl
one_or_ungiven (suc (suc n)) = inr (inr (omega arith))

kept_none : (b : Bool) (x : ℕ × Event) (xs : Log Event) → b ≡ true → cond b (x ∷ xs) xs ≡ [] → ⊥
kept_none true x xs e none = cc
kept_none false x xs e none = cc

tail_none : (b : Bool) (x : ℕ × Event) (xs : Log Event) → cond b (x ∷ xs) xs ≡ [] → xs ≡ []
tail_none true x xs none = absurd (let no : x ∷ xs ≡ [] = none in cc)
tail_none false x xs none = none

-- the first entry's caller was given, and so is 1
first_is_one : (x : ℕ × Event) (xs : Log Event) → LacksUngiven 1 (x ∷ xs) → (n : ℕ) → n ≡ x.0 → (n ≡ 1) ⊎ IsUngiven 1 n → x.0 ≡ 1
first_is_one x xs lacks n same (inl e) = sym same ∙ e
first_is_one x xs lacks n same (inr ungiven) =
    let is : (x.0 == n) ≡ true = grind (arith, nat_tests) in
    absurd (kept_none (x.0 == n) x (entries_by n xs) is (lacks n ungiven))

-- a beginning of a history with entries of caller 1 alone
pub own_of : (log rest : Log Event) → LacksUngiven 1 (log ++ rest) → log ≡ tagged (events log) → AllOwn 1 (events log)
own_of [] rest lacks tags = tt
own_of (x ∷ log) rest lacks tags =
    let first : x ≡ tag x.1 = cc in
    let later : log ≡ tagged (events log) = cc in
    let one : x.0 ≡ 1 = first_is_one x (log ++ rest) lacks x.0 refl (one_or_ungiven x.0) in (
      ap (λ (e : ℕ × Event). e.0) (sym first) ∙ one,
      own_of log rest (λ c ungiven. tail_none (x.0 == c) x (entries_by c (log ++ rest)) (lacks c ungiven)) later,
    )
