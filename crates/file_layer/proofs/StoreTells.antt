-- What a store answers, where its first reason to refuse is known.
use Rattle.std.proofs.Common.{◌≡◌, ℕ, ◌+◌, Bool, true, false, List, Option, Some, None, refl, sym, ap, ◌∙◌, arith}
use Rattle.std.specs.Prelude.{nat_lt, if◌then◌else◌, max}
use Rattle.std.proofs.Math.Nat.{max-eq_right}
use Rattle.std.proofs.lemmas.Bool.{false≢true}
use Rattle.std.proofs.lemmas.Bool.Decides.{nat_tests}
use Rattle.blob_model.specs.Store.{Store}
use Rattle.blob_model.specs.Answer.{Answered, Test, refuse, first_refusal}
use Rattle.blob_model.specs.History.{is_refused}
use Rattle.blob_model.specs.declared.call.Outcome.{Outcome}
use Rattle.blob_model.specs.declared.call.Outcome.TheVariants as Outcomes
use Rattle.blob_model.specs.declared.call.Refusal.{Refusal}

-- of what comes first
pub goes : (s : Store) (o : Option Refusal) (done : Answered) (x : Outcome) → (let a : Answered = elim o [ Some r ↦ refuse s r | None ↦ done ] in a).1 ≡ x → is_refused x ≡ false → (o ≡ None) × (done.1 ≡ x)
goes s None done x e ok = (refl, e)
goes s (Some r) done x e ok = absurd (false≢true (sym ok ∙ ap is_refused (sym e)))

refusal_is : (r q : Refusal) → Outcomes.Refused r ≡ Outcomes.Refused q → r ≡ q
refusal_is r q e = cc

pub stops : (s : Store) (o : Option Refusal) (done : Answered) (r : Refusal) → (let a : Answered = elim o [ Some r ↦ refuse s r | None ↦ done ] in a).1 ≡ Outcomes.Refused r → is_refused done.1 ≡ false → o ≡ Some r
stops s None done r e ok = absurd (false≢true (sym ok ∙ ap is_refused e))
stops s (Some q) done r e ok = ap (λ (x : Refusal). Some x) (refusal_is q r e)

-- a size can't be past itself
pub not_past : (n : ℕ) → nat_lt n n ≡ false
not_past n = grind (arith, nat_tests)

pub offset_first : (b : Bool) (r : Refusal) (ts : List Test) → b ≡ false → (if b then Some r else first_refusal ts) ≡ first_refusal ts
offset_first true r ts e = absurd (false≢true (sym e))
offset_first false r ts e = refl

pub size_sum : (n k : ℕ) → max n (n + k) ≡ n + k
size_sum n k = max-eq_right (omega arith)
