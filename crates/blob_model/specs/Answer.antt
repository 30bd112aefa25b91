use Rattle.std.specs.Prelude.{ℕ, ◌+◌, ◌==◌, nat_lt, Bool, if◌then◌else◌, List, [], ◌∷◌, length, take, drop, Option, Some, None}
use Rattle.blob_model.specs.Content.{content, size_of, offset_of}
use Rattle.blob_model.specs.Store.{Blob, Store, assigned, published, held, waiting, size_now, size_with, blob_at, with_blob, and_blob, and_update, is_finished, finish, branch_of}
use Rattle.blob_model.specs.declared.call.Place.{Place}
use Rattle.blob_model.specs.declared.call.Call.{Call}
use Rattle.blob_model.specs.declared.call.Call.TheVariants as Calls
use Rattle.blob_model.specs.declared.call.Outcome.{Outcome}
use Rattle.blob_model.specs.declared.call.Outcome.TheVariants as Outcomes
use Rattle.blob_model.specs.declared.call.Refusal.{Refusal}
use Rattle.blob_model.specs.declared.call.Refusal.TheVariants as Refusals

-- what a call leaves, and what it is answered
abbrev pub Answered : Type 0
Answered = Store × Outcome

abbrev pub refuse : Store → Refusal → Answered
refuse s r = (s, Outcomes.Refused r)

-- a condition, and the refusal that it means
pub record Test : Type 0 where
  pub refuses : Bool
  pub refusal : Refusal

-- the first refusal whose condition holds
abbrev pub first_refusal : List Test → Option Refusal
first_refusal [] = None
first_refusal (t ∷ ts) = if t.refuses then Some t.refusal else first_refusal ts

-- the first refusal, or else what the call does
abbrev pub unless_refused : Store → List Test → Answered → Answered
unless_refused s tests done = elim (first_refusal tests) [ Some r ↦ refuse s r | None ↦ done ]

-- what a call does in a blob, which must be there
abbrev pub in_blob : Store → ℕ → (Blob → Answered) → Answered
in_blob s blob f = elim (blob_at s blob) [ None ↦ refuse s (Refusals.NoBlob blob) | Some b ↦ f b ]

-- ---- the conditions, each with its numbers
abbrev pub too_many_blobs : Store → Test
too_many_blobs s = record { refuses = length s.blobs == s.limits.max_blobs; refusal = Refusals.TooManyBlobs s.limits.max_blobs }

abbrev pub not_published : Blob → ℕ → Test
not_published b version = record { refuses = nat_lt (published b) version; refusal = Refusals.NotPublished version (published b) }

abbrev pub not_numbered : Blob → ℕ → Test
not_numbered b version = record { refuses = nat_lt (assigned b) version; refusal = Refusals.NotPublished version (published b) }

abbrev pub pending : Blob → ℕ → Test
pending b version = record { refuses = nat_lt (published b) version; refusal = Refusals.Pending version (held b) }

abbrev pub already : Blob → ℕ → Test
already b version = record { refuses = is_finished b version; refusal = Refusals.Already version }

abbrev pub range_past_size : Blob → ℕ → ℕ → ℕ → Test
range_past_size b version offset count =
    record { refuses = nat_lt (size_of b.updates version) (offset + count); refusal = Refusals.RangePastSize (offset + count) (size_of b.updates version) }

abbrev pub offset_past_size : Blob → Place → Test
offset_past_size b place =
    record { refuses = nat_lt (size_now b) (offset_of place (size_now b)); refusal = Refusals.OffsetPastSize (offset_of place (size_now b)) (size_now b) }

abbrev pub blob_too_big : Store → Blob → Place → List ℕ → Test
blob_too_big s b place bytes =
    record { refuses = nat_lt s.limits.max_size (size_with b place bytes); refusal = Refusals.BlobTooBig (size_with b place bytes) s.limits.max_size }

abbrev pub too_many_versions : Store → Blob → Test
too_many_versions s b = record { refuses = assigned b == s.limits.max_versions; refusal = Refusals.TooManyVersions s.limits.max_versions }

abbrev pub too_many_open : Store → Blob → Test
too_many_open s b = record { refuses = waiting b == s.limits.max_open; refusal = Refusals.TooManyOpen s.limits.max_open }

-- why nobody may finish the update of a version: the first of the reasons
abbrev pub repair_refusal : Store → ℕ → ℕ → Option Refusal
repair_refusal s blob version =
    elim (blob_at s blob) [ None ↦ Some (Refusals.NoBlob blob) | Some b ↦ first_refusal (not_numbered b version ∷ already b version ∷ []) ]

-- the bytes of a range of a version
abbrev pub bytes_of : Blob → ℕ → ℕ → ℕ → List ℕ
bytes_of b version offset count = take count (drop offset (content b.updates version))

-- what the store answers a caller's call, and the store after it
abbrev pub answer : Store → ℕ → Call → Answered
answer s caller Calls.Create =
    unless_refused s (too_many_blobs s ∷ []) (and_blob s (record { updates = []; finished = [] }), Outcomes.Blob (length s.blobs + 1))
answer s caller (Calls.Assign blob place bytes) =
    in_blob s blob (λ b.
    unless_refused s
    (offset_past_size b place ∷ blob_too_big s b place bytes ∷ too_many_versions s b ∷ too_many_open s b ∷ []) (
      with_blob s blob (and_update b (record { caller = caller; place = place; bytes = bytes })),
      Outcomes.Assigned (assigned b + 1) (offset_of place (size_now b)) (size_with b place bytes),
    ))
answer s caller (Calls.Finish blob version) =
    in_blob s blob (λ b.
    unless_refused s (already b version ∷ []) (with_blob s blob (finish b version), Outcomes.Published (published (finish b version))))
answer s caller (Calls.Branch blob version) =
    in_blob s blob (λ b.
    unless_refused s (not_published b version ∷ too_many_blobs s ∷ []) (and_blob s (branch_of b version), Outcomes.Blob (length s.blobs + 1)))
answer s caller (Calls.Read blob version offset count) =
    in_blob s blob (λ b.
    unless_refused s
    (not_published b version ∷ range_past_size b version offset count ∷ [])
    (s, Outcomes.Content (bytes_of b version offset count)))
answer s caller (Calls.Recent blob) =
    in_blob s blob (λ b. (s, Outcomes.Recent (published b) (size_of b.updates (published b))))
answer s caller (Calls.Size blob version) =
    in_blob s blob (λ b. unless_refused s (not_published b version ∷ []) (s, Outcomes.Size (size_of b.updates version)))
answer s caller (Calls.Sync blob version) =
    in_blob s blob (λ b. unless_refused s (not_numbered b version ∷ pending b version ∷ []) (s, Outcomes.Synced version))
answer s caller (Calls.Status blob) =
    in_blob s blob (λ b. (s, Outcomes.Status (assigned b) (published b) (held b)))
