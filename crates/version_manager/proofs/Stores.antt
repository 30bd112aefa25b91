-- What the store of a history becomes by one event more.
use Rattle.std.proofs.Common.{◌≡◌, ℕ, false, List, [], ◌∷◌, ◌++◌, length, set, zero, suc, refl, ◌∙◌, ap}
use Rattle.std.specs.Prelude.{Option, Some, None, slice_get}
use Rattle.std.proofs.lemmas.Option.{none-some, same_Some}
use Rattle.blob_model.specs.Limits.{Bounds}
use Rattle.blob_model.specs.Store.{Store, Blob, blob_at, empty_store}
use Rattle.blob_model.specs.Answer.{Answered, Test, answer, refuse, first_refusal, unless_refused, in_blob}
use Rattle.blob_model.specs.History.{caller_of, call_of, store_from, store_of, is_refused, MayCall, IsLegalFrom, IsLegal}
use Rattle.blob_model.specs.declared.call.Call.{Call}
use Rattle.blob_model.specs.declared.call.Call.TheVariants as Calls
use Rattle.blob_model.specs.declared.call.Event.{Event}
use Rattle.blob_model.specs.declared.call.Outcome.{Outcome}
use Rattle.blob_model.specs.declared.call.Outcome.TheVariants as Outcomes
use Rattle.blob_model.specs.declared.call.Refusal.{Refusal}
use Rattle.blob_model.specs.declared.call.Refusal.TheVariants as Refusals
use Rattle.blob_model.proofs.Stays.{store_from-append}
use Rattle.version_manager.specs.declared.look.Look.{Look}
use Rattle.version_manager.specs.declared.look.Look.TheVariants as Looks
use Rattle.version_manager.specs.Looks.{look_call}

pub legal-append : (s : Store) (xs ys : List Event) → IsLegalFrom s xs → IsLegalFrom (store_from s xs) ys → IsLegalFrom s (xs ++ ys)
legal-append s [] ys h k = k
legal-append s (x ∷ xs) ys h k = (h.0, legal-append (answer s (caller_of x) (call_of x)).0 xs ys h.1 k)

module _ (limits : Bounds) (h : List Event) (e : Event) (s : Store) (o : Outcome) (is : answer (store_of limits h) (caller_of e) (call_of e) ≡ (s, o)) where
  pub store_after : store_of limits (h ++ e ∷ []) ≡ s
  store_after = store_from-append (empty_store limits) h (e ∷ []) ∙ ap (λ (a : Answered). a.0) is

  pub legal_after : IsLegal limits h → MayCall (store_of limits h) (call_of e) → is_refused o ≡ false → IsLegal limits (h ++ e ∷ [])
  legal_after legal may goes =
      legal-append (empty_store limits) h (e ∷ []) legal (record { may = may; accepted = ap (λ (a : Answered). is_refused a.1) is ∙ goes }, tt)

-- ---- answers
pub unless_none : (s : Store) (tests : List Test) (done : Answered) → first_refusal tests ≡ None → unless_refused s tests done ≡ done
unless_none s tests done e = ap (λ (o : Option Refusal). let a : Answered = elim o [ Some r ↦ refuse s r | None ↦ done ] in a) e

pub unless_some : (s : Store) (tests : List Test) (done : Answered) (r : Refusal) → first_refusal tests ≡ Some r → unless_refused s tests done ≡ refuse s r
unless_some s tests done r e = ap (λ (o : Option Refusal). let a : Answered = elim o [ Some r ↦ refuse s r | None ↦ done ] in a) e

pub in_blob_here : (s : Store) (blob : ℕ) (b : Blob) (f : Blob → Answered) → blob_at s blob ≡ Some b → in_blob s blob f ≡ f b
in_blob_here s blob b f h = ap (λ (o : Option Blob). let a : Answered = elim o [ None ↦ refuse s (Refusals.NoBlob blob) | Some x ↦ f x ] in a) h

pub in_blob_none : (s : Store) (blob : ℕ) (f : Blob → Answered) → blob_at s blob ≡ None → in_blob s blob f ≡ refuse s (Refusals.NoBlob blob)
in_blob_none s blob f h = ap (λ (o : Option Blob). let a : Answered = elim o [ None ↦ refuse s (Refusals.NoBlob blob) | Some x ↦ f x ] in a) h

-- a look at a blob that isn't there
pub look_none : (look : Look) (s : Store) (caller blob : ℕ) → blob_at s blob ≡ None → (answer s caller (look_call look blob)).1 ≡ Outcomes.Refused (Refusals.NoBlob blob)
look_none Looks.Recent s caller blob none = rw (none, in_blob)
look_none _ s caller blob none = rw (none, in_blob)

-- ---- the limits stay
unless_limits : (s : Store) (o : Option Refusal) (done : Answered) → done.0.limits ≡ s.limits → (let a : Answered = elim o [ Some r ↦ refuse s r | None ↦ done ] in a).0.limits ≡ s.limits
unless_limits s (Some r) done e = refl
unless_limits s None done e = e

in_blob_limits : (s : Store) (blob : ℕ) (o : Option Blob) (f : Blob → Answered) → ((b : Blob) → (f b).0.limits ≡ s.limits)
    → (let a : Answered = elim o [ None ↦ refuse s (Refusals.NoBlob blob) | Some b ↦ f b ] in a).0.limits ≡ s.limits
in_blob_limits s blob None f e = refl
in_blob_limits s blob (Some b) f e = e b

answer_limits : (s : Store) (caller : ℕ) (call : Call) → (answer s caller call).0.limits ≡ s.limits
answer_limits s caller Calls.Create = unless_limits s _ _ refl
answer_limits s caller (Calls.Assign blob place bytes) = in_blob_limits s blob (blob_at s blob) _ (λ b. unless_limits s _ _ refl)
answer_limits s caller (Calls.Finish blob version) = in_blob_limits s blob (blob_at s blob) _ (λ b. unless_limits s _ _ refl)
answer_limits s caller (Calls.Branch blob version) = in_blob_limits s blob (blob_at s blob) _ (λ b. unless_limits s _ _ refl)
answer_limits s caller (Calls.Read blob version offset count) = in_blob_limits s blob (blob_at s blob) _ (λ b. unless_limits s _ _ refl)
answer_limits s caller (Calls.Size blob version) = in_blob_limits s blob (blob_at s blob) _ (λ b. unless_limits s _ _ refl)
answer_limits s caller (Calls.Sync blob version) = in_blob_limits s blob (blob_at s blob) _ (λ b. unless_limits s _ _ refl)
answer_limits s caller _ = in_blob_limits s _ (blob_at s _) _ (λ b. refl)

from_limits : (s : Store) (h : List Event) → (store_from s h).limits ≡ s.limits
from_limits s [] = refl
from_limits s (e ∷ es) = from_limits (answer s (caller_of e) (call_of e)).0 es ∙ answer_limits s (caller_of e) (call_of e)

pub store_limits : (limits : Bounds) (h : List Event) → (store_of limits h).limits ≡ limits
store_limits limits h = from_limits (empty_store limits) h

pub get-set_is : {X : Type 0} (xs : List X) (i : ℕ) (x y : X) → slice_get (set xs i y) i ≡ Some x → y ≡ x
get-set_is [] i x y h = absurd (none-some x h)
get-set_is (a ∷ xs) zero x y h = same_Some y x h
get-set_is (a ∷ xs) (suc i) x y h = get-set_is xs i x y h

pub get-push_last : {X : Type 0} (xs : List X) (y : X) → slice_get (xs ++ y ∷ []) (length xs) ≡ Some y
get-push_last [] y = refl
get-push_last (x ∷ xs) y = get-push_last xs y
