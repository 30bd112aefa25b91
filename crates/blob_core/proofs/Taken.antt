-- What the store has done where it didn't refuse a change.
use Rattle.std.proofs.Common.{◌≡◌, ◌⊎◌, ℕ, ◌+◌, ◌-◌, ◌≤◌, zero, suc, Bool, true, false, List, [], ◌∷◌, ◌++◌, length, arith, inl, inr, refl, ap, sym, ◌∙◌}
use Rattle.std.specs.Prelude.{◌==◌, nat_lt, if◌then◌else◌, Option, Some, None}
use Rattle.std.proofs.lemmas.Bool.Decides.{nat_tests}
use Rattle.blob_model.specs.Content.{offset_of}
use Rattle.blob_model.specs.Store.{Store, Blob, blob_at, with_blob, and_blob, and_update, finish, branch_of, published, size_now}
use Rattle.blob_model.specs.Answer.{answer, refuse, Answered, Test, first_refusal, too_many_blobs, offset_past_size, blob_too_big, too_many_versions, too_many_open, already, not_published, range_past_size, bytes_of}
use Rattle.blob_model.specs.Content.{size_of}
use Rattle.blob_model.specs.History.{is_refused}
use Rattle.blob_model.specs.declared.call.Place.{Place}
use Rattle.blob_model.specs.declared.call.Call.TheVariants as Calls
use Rattle.blob_model.specs.declared.call.Outcome.TheVariants as Outcomes
use Rattle.blob_model.specs.declared.call.Refusal.{Refusal}
use Rattle.blob_model.specs.declared.call.Refusal.TheVariants as Refusals
use Rattle.std.proofs.lemmas.Bool.{cases_eq}
use Rattle.std.proofs.lemmas.Option.{slice_get_within}
use Rattle.blob_model.proofs.Marks.{get-set_other, blob_at-with}
use Rattle.blob_model.proofs.Stays.{get-append, item_of}
use Rattle.blob_core.proofs.Lists.{get_next, one_value}

-- ---- not refused
unless_done : (s : Store) (o : Option Refusal) (done : Answered) → is_refused (let a : Answered = elim o [ Some r ↦ refuse s r | None ↦ done ] in a).1 ≡ false
    → (o ≡ None) × ((let a : Answered = elim o [ Some r ↦ refuse s r | None ↦ done ] in a) ≡ done)
unless_done s (Some r) done e = (let no : ⊥ = cc in absurd no)
unless_done s None done e = (refl, refl)

-- what a call did in a blob
abbrev Inside : Store → ℕ → Option Blob → (Blob → Answered) → Answered
Inside s blob o f = elim o [ None ↦ refuse s (Refusals.NoBlob blob) | Some b ↦ f b ]

inside_done : (s : Store) (blob : ℕ) (o : Option Blob) (f : Blob → Answered) → is_refused (Inside s blob o f).1 ≡ false
    → (b : Blob) × (o ≡ Some b) × (is_refused (f b).1 ≡ false) × (Inside s blob o f ≡ f b)
inside_done s blob None f e = (let no : ⊥ = cc in absurd no)
inside_done s blob (Some b) f e = (b, refl, e, refl)

passes : (b : Bool) (r : Refusal) (rest : Option Refusal) → (if b then Some r else rest) ≡ None → (b ≡ false) × (rest ≡ None)
passes true r rest e = (let no : ⊥ = cc in absurd no)
passes false r rest e = (refl, e)

test_passes : (a b : ℕ) → nat_lt a b ≡ false → b ≤ a
test_passes a b e = grind (arith, nat_tests)

pub create_done : (s : Store) (caller : ℕ) → is_refused (answer s caller Calls.Create).1 ≡ false
    → (answer s caller Calls.Create).0 ≡ and_blob s (record { updates = []; finished = [] })
create_done s caller e = ap (λ (a : Answered). a.0) (unless_done s (first_refusal (too_many_blobs s ∷ [])) _ e).1

pub assign_done : (s : Store) (caller blob : ℕ) (place : Place) (bytes : List ℕ) → is_refused (answer s caller (Calls.Assign blob place bytes)).1 ≡ false
    → (b : Blob) × (blob_at s blob ≡ Some b) × (offset_of place (size_now b) ≤ size_now b)
    × ((answer s caller (Calls.Assign blob place bytes)).0 ≡ with_blob s blob (and_update b (record { caller = caller; place = place; bytes = bytes })))
assign_done s caller blob place bytes e =
    let (b, is, ok, done) = inside_done s blob (blob_at s blob) _ e in
    let tests : List Test = offset_past_size b place ∷ blob_too_big s b place bytes ∷ too_many_versions s b ∷ too_many_open s b ∷ [] in
    let d = unless_done s (first_refusal tests) _ ok in
    let first = passes (nat_lt (size_now b) (offset_of place (size_now b))) _ _ d.0 in
    (b, is, test_passes (size_now b) (offset_of place (size_now b)) first.0, ap (λ (a : Answered). a.0) (done ∙ d.1))

pub finish_done : (s : Store) (caller blob version : ℕ) → is_refused (answer s caller (Calls.Finish blob version)).1 ≡ false
    → (b : Blob) × (blob_at s blob ≡ Some b) × ((answer s caller (Calls.Finish blob version)).0 ≡ with_blob s blob (finish b version))
finish_done s caller blob version e =
    let (b, is, ok, done) = inside_done s blob (blob_at s blob) _ e in
    let d = unless_done s (first_refusal (already b version ∷ [])) _ ok in
    (b, is, ap (λ (a : Answered). a.0) (done ∙ d.1))

pub branch_done : (s : Store) (caller blob version : ℕ) → is_refused (answer s caller (Calls.Branch blob version)).1 ≡ false
    → (b : Blob) × (blob_at s blob ≡ Some b) × (version ≤ published b) × ((answer s caller (Calls.Branch blob version)).0 ≡ and_blob s (branch_of b version))
branch_done s caller blob version e =
    let (b, is, ok, done) = inside_done s blob (blob_at s blob) _ e in
    let d = unless_done s (first_refusal (not_published b version ∷ too_many_blobs s ∷ [])) _ ok in
    let first = passes (nat_lt (published b) version) _ _ d.0 in
    (b, is, test_passes (published b) version first.0, ap (λ (a : Answered). a.0) (done ∙ d.1))

pub read_done : (s : Store) (caller blob version offset count : ℕ) → is_refused (answer s caller (Calls.Read blob version offset count)).1 ≡ false
    → (b : Blob) × (blob_at s blob ≡ Some b) × (version ≤ published b) × (offset + count ≤ size_of b.updates version)
    × ((answer s caller (Calls.Read blob version offset count)).1 ≡ Outcomes.Content (bytes_of b version offset count))
read_done s caller blob version offset count e =
    let (b, is, ok, done) = inside_done s blob (blob_at s blob) _ e in
    let d = unless_done s (first_refusal (not_published b version ∷ range_past_size b version offset count ∷ [])) _ ok in
    let first = passes (nat_lt (published b) version) _ _ d.0 in
    let next = passes (nat_lt (size_of b.updates version) (offset + count)) _ _ first.1 in
    (b, is, test_passes (published b) version first.0, test_passes (size_of b.updates version) (offset + count) next.0, ap (λ (a : Answered). a.1) (done ∙ d.1))

apart_zero : (id : ℕ) → (id == 0) ≡ false → 1 ≤ id
apart_zero id e = grind (arith, nat_tests)

pub blob_some : (s : Store) (id : ℕ) (b : Blob) → blob_at s id ≡ Some b → (1 ≤ id) × (id ≤ length s.blobs)
blob_some s id b e =
    let at = item_of s.blobs (id == 0) (id - 1) b e in
    let some : 1 ≤ id = apart_zero id at.0 in
    (some, omega (arith, slice_get_within s.blobs (id - 1) b at.1))

pub more_kept : (s : Store) (x : Blob) (id : ℕ) (b : Blob) → blob_at s id ≡ Some b → blob_at (and_blob s x) id ≡ Some b
more_kept s x id b e =
    let at = item_of s.blobs (id == 0) (id - 1) b e in
    rw at.0 (get-append s.blobs (x ∷ []) (id - 1) b at.1)

pub more_was : (s : Store) (x : Blob) (id : ℕ) (b : Blob) → blob_at (and_blob s x) id ≡ Some b → ((id ≡ suc (length s.blobs)) × (x ≡ b)) ⊎ (blob_at s id ≡ Some b)
more_was s x id b e =
    let at = item_of (s.blobs ++ x ∷ []) (id == 0) (id - 1) b e in
    let some : 1 ≤ id = apart_zero id at.0 in
    elim (get_next s.blobs x (id - 1) b at.1) [
      | inl new ↦ inl ((let here : id - 1 ≡ length s.blobs = new.0 in omega arith), new.1)
      | inr old ↦ inr (rw at.0 old)
    ]

-- a change of one blob leaves the others
with_other : (s : Store) (other : ℕ) (before x : Blob) → blob_at s other ≡ Some before → (id : ℕ) → (id ≡ other → ⊥) → blob_at (with_blob s other x) id ≡ blob_at s id
with_other s other before x is zero apart = refl
with_other s other before x is (suc id) apart =
    let some : 1 ≤ other = (blob_some s other before is).0 in
    let t : (suc id == 0) ≡ false = grind (arith, nat_tests) in
    rw t (get-set_other s.blobs (other - 1) (suc id - 1) x (λ e. apart (omega arith)))

pub with_was : (s : Store) (other : ℕ) (before x : Blob) → blob_at s other ≡ Some before → (id : ℕ) (b : Blob) → blob_at (with_blob s other x) id ≡ Some b
    → ((id ≡ other) × (x ≡ b)) ⊎ (blob_at s id ≡ Some b)
with_was s other before x is id b e = elim (cases_eq id other) [
  | inl same ↦ inl (same, one_value (blob_at (with_blob s other x) other) x b (blob_at-with s other before x is) (rw same at e))
  | inr apart ↦ inr (sym (with_other s other before x is id apart) ∙ e)
]

-- each blob that was there is there, or is the one that changed
pub with_on : (s : Store) (other : ℕ) (before x : Blob) → blob_at s other ≡ Some before → (id : ℕ) (b : Blob) → blob_at s id ≡ Some b
    → (id ≡ other) ⊎ (blob_at (with_blob s other x) id ≡ Some b)
with_on s other before x is id b e = elim (cases_eq id other) [ inl same ↦ inl same | inr apart ↦ inr (with_other s other before x is id apart ∙ e) ]
