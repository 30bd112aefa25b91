-- What the store says of a version that waits in it, and of the version before it.
use Rattle.std.proofs.Common.{◌≡◌, refl, sym, ◌∙◌, ap, ℕ, ◌+◌, ◌<◌, ◌≤◌, ◌==◌, Bool, true, false, if◌then◌else◌, [], ◌∷◌, Option, Some, None, arith}
use Rattle.std.specs.Prelude.{nat_lt}
use Rattle.std.proofs.lemmas.Bool.Decides.{nat_tests}
use Rattle.blob_model.specs.Store.{Store, Blob, blob_at, assigned, published, held, is_finished, finish, with_blob}
use Rattle.blob_model.specs.Answer.{Answered, answer, refuse, unless_refused, first_refusal, not_numbered, pending, already, repair_refusal}
use Rattle.blob_model.specs.History.{is_refused}
use Rattle.blob_model.specs.declared.call.Call.TheVariants as Calls
use Rattle.blob_model.specs.declared.call.Outcome.TheVariants as Outcomes
use Rattle.blob_model.specs.declared.call.Refusal.{Refusal}
use Rattle.blob_model.specs.declared.call.Refusal.TheVariants as Refusals
use Rattle.request_form.specs.Answers.{is_waiting_in}
use Rattle.request_form.proofs.PublishedReads.{not_below}

-- the blob is there, and what is known of the version in it
pub record IsThere (store : Store) (blob : ℕ) (P : Blob → Type 0) : Type 0 where
  pub b : Blob
  pub is : blob_at store blob ≡ Some b
  pub holds : P b

is_below : (a b : ℕ) → a < b → nat_lt a b ≡ true
is_below a b lt = grind (arith, nat_tests)

not_same : (a b : ℕ) → a < b → (a == b) ≡ false
not_same a b lt = grind (arith, nat_tests)

-- ---- what the store computes, by the tests alone
abbrev finish_by : Store → ℕ → ℕ → Option Blob → Answered
finish_by store blob version o =
    elim o [
      | None ↦ refuse store (Refusals.NoBlob blob)
      | Some b ↦ unless_refused store (already b version ∷ []) (with_blob store blob (finish b version), Outcomes.Published (published (finish b version)))
    ]

abbrev finish_test : Store → Bool → ℕ → Answered → Answered
finish_test store x version done = unless_refused store (record { refuses = x; refusal = Refusals.Already version } ∷ []) done

abbrev sync_by : Store → ℕ → ℕ → Option Blob → Answered
sync_by store blob version o =
    elim o [
      | None ↦ refuse store (Refusals.NoBlob blob)
      | Some b ↦ unless_refused store (not_numbered b version ∷ pending b version ∷ []) (store, Outcomes.Synced version)
    ]

abbrev sync_test : Store → Bool → Bool → Refusal → ℕ → ℕ → Answered
sync_test store x y unnumbered version h =
    unless_refused store (record { refuses = x; refusal = unnumbered } ∷ record { refuses = y; refusal = Refusals.Pending version h } ∷ []) (store, Outcomes.Synced version)

abbrev refusal_by : Option Blob → ℕ → ℕ → Option Refusal
refusal_by o blob version = elim o [ None ↦ Some (Refusals.NoBlob blob) | Some b ↦ first_refusal (not_numbered b version ∷ already b version ∷ []) ]

abbrev refusal_test : Bool → Bool → ℕ → ℕ → Option Refusal
refusal_test x y version h =
    first_refusal (record { refuses = x; refusal = Refusals.NotPublished version h } ∷ record { refuses = y; refusal = Refusals.Already version } ∷ [])

-- ---- by what is refused
already_test : (x y : Bool) (version published w : ℕ) → refusal_test x y version published ≡ Some (Refusals.Already w) → (w ≡ version) × (y ≡ true)
already_test true y version published w e = let never : ⊥ = cc in absurd never
already_test false true version published w e = (cc, refl)
already_test false false version published w e = let never : ⊥ = cc in absurd never

none_test : (x y : Bool) (version published : ℕ) → refusal_test x y version published ≡ None → (x ≡ false) × (y ≡ false)
none_test true y version published e = let never : ⊥ = cc in absurd never
none_test false true version published e = let never : ⊥ = cc in absurd never
none_test false false version published e = (refl, refl)

already_by : (store : Store) (o : Option Blob) (blob version w : ℕ) → blob_at store blob ≡ o → refusal_by o blob version ≡ Some (Refusals.Already w)
    → (w ≡ version) × IsThere store blob (λ b. is_finished b version ≡ true)
already_by store None blob version w is e = let never : ⊥ = cc in absurd never
already_by store (Some b) blob version w is e =
    let t = already_test (nat_lt (assigned b) version) (is_finished b version) version (published b) w e in
    (t.0, record { b = b; is = is; holds = t.1 })

-- a version that was finished before
pub found_already : (store : Store) (blob version w : ℕ) → repair_refusal store blob version ≡ Some (Refusals.Already w) → (w ≡ version) × IsThere store blob (λ b. is_finished b version ≡ true)
found_already store blob version w e = already_by store (blob_at store blob) blob version w refl e

none_by : (store : Store) (o : Option Blob) (blob version : ℕ) → blob_at store blob ≡ o → refusal_by o blob version ≡ None
    → IsThere store blob (λ b. (nat_lt (assigned b) version ≡ false) × (is_finished b version ≡ false))
none_by store None blob version is e = let never : ⊥ = cc in absurd never
none_by store (Some b) blob version is e =
    let t = none_test (nat_lt (assigned b) version) (is_finished b version) version (published b) e in
    record { b = b; is = is; holds = t }

-- a version that may be finished
pub may_be_finished : (store : Store) (blob version : ℕ) → repair_refusal store blob version ≡ None → IsThere store blob (λ b. (nat_lt (assigned b) version ≡ false) × (is_finished b version ≡ false))
may_be_finished store blob version e = none_by store (blob_at store blob) blob version refl e

unfinished_test : (store : Store) (x : Bool) (version : ℕ) (done : Answered) → is_refused (finish_test store x version done).1 ≡ false → x ≡ false
unfinished_test store true version done e = let never : ⊥ = cc in absurd never
unfinished_test store false version done e = refl

unfinished_by : (store : Store) (o : Option Blob) (blob version : ℕ) → blob_at store blob ≡ o → is_refused (finish_by store blob version o).1 ≡ false → IsThere store blob (λ b. is_finished b version ≡ false)
unfinished_by store None blob version is e = let never : ⊥ = cc in absurd never
unfinished_by store (Some b) blob version is e =
    record { b = b; is = is; holds = unfinished_test store (is_finished b version) version (with_blob store blob (finish b version), Outcomes.Published (published (finish b version))) e }

-- and what isn't refused was unfinished
pub finish_unfinished : (store : Store) (caller blob version : ℕ) → is_refused (answer store caller (Calls.Finish blob version)).1 ≡ false → IsThere store blob (λ b. is_finished b version ≡ false)
finish_unfinished store caller blob version e = unfinished_by store (blob_at store blob) blob version refl e

-- a numbered version above the published one waits
pub before_waits : (store : Store) (caller blob version : ℕ) (t : IsThere store blob (λ b. (published b < version) × (version ≤ assigned b)))
    → (answer store caller (Calls.Sync blob version)).1 ≡ Outcomes.Refused (Refusals.Pending version (published t.b + 1))
before_waits store caller blob version t =
    let unnumbered : Refusal = Refusals.NotPublished version (published t.b) in
    ap (λ (o : Option Blob). (sync_by store blob version o).1) t.is
    ∙ (ap (λ (x : Bool). (sync_test store x (nat_lt (published t.b) version) unnumbered version (held t.b)).1) (not_below (assigned t.b) version t.holds.1)
    ∙ (ap (λ (y : Bool). (sync_test store false y unnumbered version (held t.b)).1) (is_below (published t.b) version t.holds.0)
    ∙ ap (λ (z : Bool). Outcomes.Refused (Refusals.Pending version (if z then 0 else (published t.b + 1)))) (not_same (published t.b) (assigned t.b) (omega (arith, t.holds.0, t.holds.1)))))

-- one that isn't above it doesn't
pub before_ready : (store : Store) (caller blob version : ℕ) (t : IsThere store blob (λ b. (version ≤ published b) × (version ≤ assigned b)))
    → (answer store caller (Calls.Sync blob version)).1 ≡ Outcomes.Synced version
before_ready store caller blob version t =
    let unnumbered : Refusal = Refusals.NotPublished version (published t.b) in
    ap (λ (o : Option Blob). (sync_by store blob version o).1) t.is
    ∙ (ap (λ (x : Bool). (sync_test store x (nat_lt (published t.b) version) unnumbered version (held t.b)).1) (not_below (assigned t.b) version t.holds.1)
    ∙ ap (λ (y : Bool). (sync_test store false y unnumbered version (held t.b)).1) (not_below (published t.b) version t.holds.0))

-- what waits, by the answer to a sync
waits_test : (store : Store) (x y : Bool) (r : Refusal) (version h p w h' : ℕ) → r ≡ Refusals.NotPublished version p → (sync_test store x y r version h).1 ≡ Outcomes.Refused (Refusals.Pending w h') → y ≡ true
waits_test store true y r version h p w h' is e = let never : ⊥ = cc in absurd never
waits_test store false true r version h p w h' is e = refl
waits_test store false false r version h p w h' is e = let never : ⊥ = cc in absurd never

waits_by : (store : Store) (o : Option Blob) (blob version w h : ℕ) → blob_at store blob ≡ o → (sync_by store blob version o).1 ≡ Outcomes.Refused (Refusals.Pending w h) → is_waiting_in store blob version ≡ true
waits_by store None blob version w h is e = let never : ⊥ = cc in absurd never
waits_by store (Some b) blob version w h is e =
    ap (λ (o : Option Blob). elim o [ None ↦ false | Some x ↦ nat_lt (published x) version ]) is
    ∙ waits_test store (nat_lt (assigned b) version) (nat_lt (published b) version) (Refusals.NotPublished version (published b)) version (held b) (published b) w h refl e

pub pending_waits : (store : Store) (caller blob version w h : ℕ) → (answer store caller (Calls.Sync blob version)).1 ≡ Outcomes.Refused (Refusals.Pending w h) → is_waiting_in store blob version ≡ true
pending_waits store caller blob version w h e = waits_by store (blob_at store blob) blob version w h refl e

-- ---- a numbered version
-- whether it may be finished is whether it isn't
pub refusal_of_numbered : (store : Store) (blob version : ℕ) (x : Bool) → IsThere store blob (λ b. (version ≤ assigned b) × (is_finished b version ≡ x)) → repair_refusal store blob version ≡ refusal_test false x version 0
refusal_of_numbered store blob version x t =
    ap (λ (o : Option Blob). refusal_by o blob version) t.is
    ∙ (ap (λ (y : Bool). refusal_test y (is_finished t.b version) version (published t.b)) (not_below (assigned t.b) version t.holds.0)
    ∙ ap (λ (y : Bool). refusal_test false y version (published t.b)) t.holds.1)

-- where it may not, it is finished
only_test : (x y : Bool) (version h : ℕ) (r : Refusal) → x ≡ false → refusal_test x y version h ≡ Some r → r ≡ Refusals.Already version
only_test true y version h r out e = let never : ⊥ = cc in absurd never
only_test false true version h r out e = cc
only_test false false version h r out e = let never : ⊥ = cc in absurd never

pub only_already : (store : Store) (blob version : ℕ) (r : Refusal) → IsThere store blob (λ b. version ≤ assigned b) → repair_refusal store blob version ≡ Some r → r ≡ Refusals.Already version
only_already store blob version r t e =
    only_test (nat_lt (assigned t.b) version) (is_finished t.b version) version (published t.b) r (not_below (assigned t.b) version t.holds)
    (sym (ap (λ (o : Option Blob). refusal_by o blob version) t.is) ∙ e)

-- ---- by what a finish is answered
taken_test : (store : Store) (x : Bool) (version : ℕ) (done : Answered) (n : ℕ) → (finish_test store x version done).1 ≡ Outcomes.Published n → x ≡ false
taken_test store true version done n e = let never : ⊥ = cc in absurd never
taken_test store false version done n e = refl

pub may_by_published : (store : Store) (caller blob version n : ℕ) → IsThere store blob (λ b. version ≤ assigned b) → (answer store caller (Calls.Finish blob version)).1 ≡ Outcomes.Published n
    → repair_refusal store blob version ≡ None
may_by_published store caller blob version n t e =
    let done : Answered = (with_blob store blob (finish t.b version), Outcomes.Published (published (finish t.b version))) in
    let unfinished : is_finished t.b version ≡ false =
    taken_test store (is_finished t.b version) version done n (sym (ap (λ (o : Option Blob). (finish_by store blob version o).1) t.is) ∙ e) in
    refusal_of_numbered store blob version false (record { b = t.b; is = t.is; holds = (t.holds, unfinished) })

refused_test : (store : Store) (x : Bool) (version : ℕ) (done : Answered) (n : ℕ) (r : Refusal) → done.1 ≡ Outcomes.Published n → (finish_test store x version done).1 ≡ Outcomes.Refused r
    → (r ≡ Refusals.Already version) × (x ≡ true)
refused_test store true version done n r is e = (cc, refl)
refused_test store false version done n r is e = let never : ⊥ = cc in absurd never

pub already_by_refused : (store : Store) (caller blob version : ℕ) (r : Refusal) → IsThere store blob (λ b. version ≤ assigned b) → (answer store caller (Calls.Finish blob version)).1 ≡ Outcomes.Refused r
    → (r ≡ Refusals.Already version) × (repair_refusal store blob version ≡ Some (Refusals.Already version))
already_by_refused store caller blob version r t e =
    let done : Answered = (with_blob store blob (finish t.b version), Outcomes.Published (published (finish t.b version))) in
    let by = refused_test store (is_finished t.b version) version done _ r refl (sym (ap (λ (o : Option Blob). (finish_by store blob version o).1) t.is) ∙ e) in
    (by.0, refusal_of_numbered store blob version true (record { b = t.b; is = t.is; holds = (t.holds, by.1) }))
