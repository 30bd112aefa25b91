-- What the store answers a read, by what it answers of the version's size.
use Rattle.std.proofs.Common.{◌≡◌, refl, sym, ◌∙◌, ap, ℕ, ◌+◌, ◌<◌, ◌≤◌, Bool, true, false, List, [], ◌∷◌, take, drop, Option, Some, None, arith}
use Rattle.std.specs.Prelude.{nat_lt}
use Rattle.std.proofs.lemmas.Bool.{lt-ltb, false≢true}
use Rattle.std.proofs.lemmas.Bool.Decides.{nat_tests}
use Rattle.blob_model.specs.Content.{content, size_of}
use Rattle.blob_model.specs.Store.{Store, Blob, blob_at, published}
use Rattle.blob_model.specs.Answer.{Answered, Test, refuse, unless_refused, not_published, range_past_size, bytes_of}
use Rattle.blob_model.specs.declared.call.Call.TheVariants as Calls
use Rattle.blob_model.specs.declared.call.Outcome.TheVariants as Outcomes
use Rattle.blob_model.specs.declared.call.Refusal.{Refusal}
use Rattle.blob_model.specs.declared.call.Refusal.TheVariants as Refusals
use Rattle.blob_model.specs.History.{store_of}
use Rattle.blob_model.specs.declared.call.Event.{Event}
use Rattle.version_manager.specs.Desks.{updates_or_none, updates_in}
use Rattle.version_manager.specs.Log.{desk_at, events, outcome_in}
use Rattle.version_manager.specs.declared.journal.DeskFixed.{DeskFixed}
use Rattle.request_form.specs.PublishedReads.{IsPublishedIn}
use Rattle.request_form.proofs.PublishedReads.{not_below}

-- a test that refuses decides, whatever follows
refused_first : (s : Store) (x : Bool) (r r' : Refusal) (n : ℕ) (tests : List Test) (done : Answered)
    → (unless_refused s (record { refuses = x; refusal = r } ∷ []) (s, Outcomes.Size n)).1 ≡ Outcomes.Refused r'
    → (unless_refused s (record { refuses = x; refusal = r } ∷ tests) done).1 ≡ Outcomes.Refused r'
refused_first s true r r' n tests done e = e
refused_first s false r r' n tests done e = cc

-- a test that passes leaves it to the others
passed_first : (s : Store) (x : Bool) (r : Refusal) (n m : ℕ) (tests : List Test) (done : Answered)
    → (unless_refused s (record { refuses = x; refusal = r } ∷ []) (s, Outcomes.Size n)).1 ≡ Outcomes.Size m
    → (unless_refused s (record { refuses = x; refusal = r } ∷ tests) done).1 ≡ (unless_refused s tests done).1
passed_first s true r n m tests done e = cc
passed_first s false r n m tests done e = refl

last_refuses : (s : Store) (x : Bool) (r : Refusal) (done : Answered) → x ≡ true → (unless_refused s (record { refuses = x; refusal = r } ∷ []) done).1 ≡ Outcomes.Refused r
last_refuses s true r done e = refl
last_refuses s false r done e = absurd (false≢true e)

last_passes : (s : Store) (x : Bool) (r : Refusal) (done : Answered) → x ≡ false → (unless_refused s (record { refuses = x; refusal = r } ∷ []) done).1 ≡ done.1
last_passes s true r done e = absurd (false≢true (sym e))
last_passes s false r done e = refl

-- in a blob that may be there
abbrev in_one : Store → Option Blob → ℕ → (Blob → Answered) → Answered
in_one s o blob f = elim o [ None ↦ refuse s (Refusals.NoBlob blob) | Some b ↦ f b ]

abbrev sized : Store → ℕ → Blob → Answered
sized s version b = unless_refused s (not_published b version ∷ []) (s, Outcomes.Size (size_of b.updates version))

abbrev ranged : Store → ℕ → ℕ → ℕ → Blob → Answered
ranged s version offset count b = unless_refused s (not_published b version ∷ range_past_size b version offset count ∷ []) (s, Outcomes.Content (bytes_of b version offset count))

refused_in : (s : Store) (o : Option Blob) (blob version offset count : ℕ) (r : Refusal) → (in_one s o blob (sized s version)).1 ≡ Outcomes.Refused r
    → (in_one s o blob (ranged s version offset count)).1 ≡ Outcomes.Refused r
refused_in s None blob version offset count r e = e
refused_in s (Some b) blob version offset count r e =
    refused_first s (nat_lt (published b) version) (Refusals.NotPublished version (published b)) r (size_of b.updates version)
    (range_past_size b version offset count ∷ []) (s, Outcomes.Content (bytes_of b version offset count)) e

past_in : (s : Store) (o : Option Blob) (blob version offset count n : ℕ) → (in_one s o blob (sized s version)).1 ≡ Outcomes.Size n → size_of (updates_or_none o) version < offset + count
    → (in_one s o blob (ranged s version offset count)).1 ≡ Outcomes.Refused (Refusals.RangePastSize (offset + count) (size_of (updates_or_none o) version))
past_in s None blob version offset count n e past = cc
past_in s (Some b) blob version offset count n e past =
    passed_first s (nat_lt (published b) version) (Refusals.NotPublished version (published b)) (size_of b.updates version) n
    (range_past_size b version offset count ∷ []) (s, Outcomes.Content (bytes_of b version offset count)) e
    ∙ last_refuses s (nat_lt (size_of b.updates version) (offset + count)) (Refusals.RangePastSize (offset + count) (size_of b.updates version))
    (s, Outcomes.Content (bytes_of b version offset count)) (lt-ltb (size_of b.updates version) (offset + count) past)

within_in : (s : Store) (o : Option Blob) (blob version offset count n : ℕ) → (in_one s o blob (sized s version)).1 ≡ Outcomes.Size n → offset + count ≤ size_of (updates_or_none o) version
    → (in_one s o blob (ranged s version offset count)).1 ≡ Outcomes.Content (take count (drop offset (content (updates_or_none o) version)))
within_in s None blob version offset count n e within = cc
within_in s (Some b) blob version offset count n e within =
    passed_first s (nat_lt (published b) version) (Refusals.NotPublished version (published b)) (size_of b.updates version) n
    (range_past_size b version offset count ∷ []) (s, Outcomes.Content (bytes_of b version offset count)) e
    ∙ last_passes s (nat_lt (size_of b.updates version) (offset + count)) (Refusals.RangePastSize (offset + count) (size_of b.updates version))
    (s, Outcomes.Content (bytes_of b version offset count)) (not_below (size_of b.updates version) (offset + count) within)

-- ---- in the store of a history
pub read_refused : (f : DeskFixed) (log : List (ℕ × Event)) (caller blob version offset count : ℕ) (r : Refusal) → outcome_in f log caller (Calls.Size blob version) ≡ Outcomes.Refused r
    → outcome_in f log caller (Calls.Read blob version offset count) ≡ Outcomes.Refused r
read_refused f log caller blob version offset count r e = refused_in (store_of f.limits (events log)) (blob_at (store_of f.limits (events log)) blob) blob version offset count r e

module _ (f : DeskFixed) (log : List (ℕ × Event)) (caller blob version offset count n : ℕ) (there : outcome_in f log caller (Calls.Size blob version) ≡ Outcomes.Size n) where
  pub read_past : size_of (updates_in (desk_at f log) blob) version < offset + count
      → outcome_in f log caller (Calls.Read blob version offset count) ≡ Outcomes.Refused (Refusals.RangePastSize (offset + count) (size_of (updates_in (desk_at f log) blob) version))
  read_past past = past_in (store_of f.limits (events log)) (blob_at (store_of f.limits (events log)) blob) blob version offset count n there past

  pub read_within : offset + count ≤ size_of (updates_in (desk_at f log) blob) version
      → outcome_in f log caller (Calls.Read blob version offset count) ≡ Outcomes.Content (take count (drop offset (content (updates_in (desk_at f log) blob) version)))
  read_within within = within_in (store_of f.limits (events log)) (blob_at (store_of f.limits (events log)) blob) blob version offset count n there within

-- the size that is told is that of the version
size_by : (s : Store) (x : Bool) (r : Refusal) (m n : ℕ) → (unless_refused s (record { refuses = x; refusal = r } ∷ []) (s, Outcomes.Size m)).1 ≡ Outcomes.Size n → n ≡ m
size_by s true r m n e = let no : ⊥ = cc in absurd no
size_by s false r m n e = cc

size_in_one : (s : Store) (o : Option Blob) (blob version n : ℕ) → (in_one s o blob (sized s version)).1 ≡ Outcomes.Size n → n ≡ size_of (updates_or_none o) version
size_in_one s None blob version n e = let no : ⊥ = cc in absurd no
size_in_one s (Some b) blob version n e = size_by s (nat_lt (published b) version) (Refusals.NotPublished version (published b)) (size_of b.updates version) n e

pub told_size : (f : DeskFixed) (log : List (ℕ × Event)) (caller blob version n : ℕ) → outcome_in f log caller (Calls.Size blob version) ≡ Outcomes.Size n
    → n ≡ size_of (updates_in (desk_at f log) blob) version
told_size f log caller blob version n e = size_in_one (store_of f.limits (events log)) (blob_at (store_of f.limits (events log)) blob) blob version n e

-- ---- where the version is published, and then alone, its size is told
size_passed : (s : Store) (b : Blob) (version n : ℕ) (x : Bool) → nat_lt (published b) version ≡ x
    → (unless_refused s (record { refuses = x; refusal = Refusals.NotPublished version (published b) } ∷ []) (s, Outcomes.Size (size_of b.updates version))).1 ≡ Outcomes.Size n
    → version ≤ published b
size_passed s b version n true t e = let no : ⊥ = cc in absurd no
size_passed s b version n false t e = grind (arith, nat_tests, t)

published_in : (s : Store) (o : Option Blob) (blob version n : ℕ) → (in_one s o blob (sized s version)).1 ≡ Outcomes.Size n → (b : Blob) × (o ≡ Some b) × (version ≤ published b)
published_in s None blob version n e = let no : ⊥ = cc in absurd no
published_in s (Some b) blob version n e = (b, refl, size_passed s b version n (nat_lt (published b) version) refl e)

pub published_there : (f : DeskFixed) (log : List (ℕ × Event)) (caller blob version n : ℕ) → outcome_in f log caller (Calls.Size blob version) ≡ Outcomes.Size n
    → IsPublishedIn (store_of f.limits (events log)) blob version
published_there f log caller blob version n e = published_in (store_of f.limits (events log)) (blob_at (store_of f.limits (events log)) blob) blob version n e

pub size_there : (f : DeskFixed) (log : List (ℕ × Event)) (caller blob version : ℕ) (b : Blob) → blob_at (store_of f.limits (events log)) blob ≡ Some b → version ≤ published b
    → outcome_in f log caller (Calls.Size blob version) ≡ Outcomes.Size (size_of b.updates version)
size_there f log caller blob version b is le =
    let s : Store = store_of f.limits (events log) in
    let not : nat_lt (published b) version ≡ false = grind (arith, nat_tests, le) in
    ap (λ (o : Option Blob). (in_one s o blob (sized s version)).1) is
    ∙ last_passes s (nat_lt (published b) version) (Refusals.NotPublished version (published b)) (s, Outcomes.Size (size_of b.updates version)) not
