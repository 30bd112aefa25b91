-- When the store refuses a call in a blob that is there.
use Rattle.std.proofs.Common.{◌≡◌, ℕ, ◌+◌, ◌<◌, ◌≤◌, Bool, true, false, arith, inl, inr, List, [], ◌∷◌, refl, ap, ◌∙◌}
use Rattle.std.specs.Prelude.{◌==◌, ◌||◌, nat_lt, if◌then◌else◌, Option, Some, None}
use Rattle.std.proofs.lemmas.Bool.{cases_lt}
use Rattle.std.proofs.lemmas.Bool.Decides.{nat_tests}
use Rattle.blob_model.specs.Content.{offset_of, size_of}
use Rattle.blob_model.specs.Store.{Store, Blob, blob_at, assigned, waiting, published, size_now, size_with, is_finished}
use Rattle.blob_model.specs.Answer.{answer, refuse, Answered, Test, first_refusal, offset_past_size, blob_too_big, too_many_versions, too_many_open, already, not_published, range_past_size}
use Rattle.blob_model.specs.History.{is_refused}
use Rattle.blob_model.specs.declared.call.Place.{Place}
use Rattle.blob_model.specs.declared.call.Call.TheVariants as Calls
use Rattle.blob_model.specs.declared.call.Refusal.{Refusal}
use Rattle.blob_model.specs.declared.call.Refusal.TheVariants as Refusals

abbrev Unless : Store → Option Refusal → Answered → Answered
Unless s o done = elim o [ Some r ↦ refuse s r | None ↦ done ]

abbrev refuses : List Test → Bool
refuses [] = false
refuses (t ∷ ts) = t.refuses || refuses ts

first_case : (s : Store) (done : Answered) (b : Bool) (r : Refusal) (rest : Option Refusal) (x : Bool) → is_refused (Unless s rest done).1 ≡ x
    → is_refused (Unless s (if b then Some r else rest) done).1 ≡ (b || x)
first_case s done true r rest x e = refl
first_case s done false r rest x e = e

tests_refuse : (s : Store) (ts : List Test) (done : Answered) → is_refused done.1 ≡ false → is_refused (Unless s (first_refusal ts) done).1 ≡ refuses ts
tests_refuse s [] done ok = ok
tests_refuse s (t ∷ ts) done ok = first_case s done t.refuses t.refusal (first_refusal ts) (refuses ts) (tests_refuse s ts done ok)

abbrev Inside : Store → ℕ → Option Blob → (Blob → Answered) → Answered
Inside s blob o f = elim o [ None ↦ refuse s (Refusals.NoBlob blob) | Some b ↦ f b ]

inside_is : (s : Store) (blob : ℕ) (o : Option Blob) (f : Blob → Answered) (b : Blob) → o ≡ Some b → is_refused (Inside s blob o f).1 ≡ is_refused (f b).1
inside_is s blob None f b e = (let no : ⊥ = cc in absurd no)
inside_is s blob (Some x) f b e = (let same : x ≡ b = cc in ap (λ (y : Blob). is_refused (f y).1) same)

-- ---- a blob that is there
pub assign_refused : (s : Store) (caller blob : ℕ) (place : Place) (bytes : List ℕ) (b : Blob) → blob_at s blob ≡ Some b
    → is_refused (answer s caller (Calls.Assign blob place bytes)).1
    ≡ (nat_lt (size_now b) (offset_of place (size_now b)) || (nat_lt s.limits.max_size (size_with b place bytes) || (assigned b == s.limits.max_versions || (waiting b == s.limits.max_open || false))))
assign_refused s caller blob place bytes b e =
    inside_is s blob (blob_at s blob) _ b e
    ∙ tests_refuse s (offset_past_size b place ∷ blob_too_big s b place bytes ∷ too_many_versions s b ∷ too_many_open s b ∷ []) _ refl

pub finish_refused : (s : Store) (caller blob version : ℕ) (b : Blob) → blob_at s blob ≡ Some b
    → is_refused (answer s caller (Calls.Finish blob version)).1 ≡ (is_finished b version || false)
finish_refused s caller blob version b e = inside_is s blob (blob_at s blob) _ b e ∙ tests_refuse s (already b version ∷ []) _ refl

pub read_refused : (s : Store) (caller blob version offset count : ℕ) (b : Blob) → blob_at s blob ≡ Some b
    → is_refused (answer s caller (Calls.Read blob version offset count)).1
    ≡ (nat_lt (published b) version || (nat_lt (size_of b.updates version) (offset + count) || false))
read_refused s caller blob version offset count b e =
    inside_is s blob (blob_at s blob) _ b e ∙ tests_refuse s (not_published b version ∷ range_past_size b version offset count ∷ []) _ refl

-- whether a read of a published version is past its size
pub read_test : (front version size sum end : ℕ) → version ≤ front → (size < end → size < sum) → (size < sum → size < end)
    → nat_lt size end ≡ (nat_lt front version || (nat_lt size sum || false))
read_test front version size sum end le on back =
    let a : nat_lt front version ≡ false = grind (arith, nat_tests) in
    elim (cases_lt size sum) [
      | inl past ↦
          (let more : size < end = back past in
          let b : nat_lt size sum ≡ true = grind (arith, nat_tests) in
          let d : nat_lt size end ≡ true = grind (arith, nat_tests) in
          rw (a, b, d) refl)
      | inr within ↦
          (let less : end ≤ size = elim (cases_lt size end) [ inl far ↦ absurd (let past : size < sum = on far in omega arith) | inr near ↦ near ] in
          let b : nat_lt size sum ≡ false = grind (arith, nat_tests) in
          let d : nat_lt size end ≡ false = grind (arith, nat_tests) in
          rw (a, b, d) refl)
    ]
