-- A question of where a range lies is refused as a read of the range is.
use Rattle.std.proofs.Common.{◌≡◌, ◌⊎◌, inl, inr, ℕ, ◌+◌, ◌<◌, ◌≤◌, Bool, true, false, List, [], ◌∷◌, Option, Some, None, Result, Ok, Err, refl, sym, ap, subst, arith}
use Rattle.std.specs.Prelude.{nat_lt, if◌then◌else◌}
use Rattle.std.proofs.lemmas.Bool.{lt-ltb}
use Rattle.std.proofs.lemmas.Bool.Decides.{nat_tests}
use Rattle.blob_model.specs.Content.{size_of}
use Rattle.blob_model.specs.Store.{Store, Blob, blob_at, published}
use Rattle.blob_model.specs.Answer.{Answered, Test, answer, refuse, unless_refused, in_blob, not_published, range_past_size, bytes_of, first_refusal}
use Rattle.blob_model.specs.declared.call.Call.TheVariants as Calls
use Rattle.blob_model.specs.declared.call.Event.{Event}
use Rattle.blob_model.specs.declared.call.Outcome.{Outcome}
use Rattle.blob_model.specs.declared.call.Outcome.TheVariants as Outcomes
use Rattle.blob_model.specs.declared.call.Refusal.{Refusal}
use Rattle.blob_model.specs.declared.call.Refusal.TheVariants as Refusals
use Rattle.snapshot.specs.Versions.{Version, size_now}
use Rattle.faults.specs.declared.no_memory.NoMemory.{NoMemory}
use Rattle.request_form.specs.Session.{sees, store_at, outcome_at}
use Rattle.request_form.specs.Answers.{read_fault, max_read}
use Rattle.request_form.specs.Replies.{fault_of}
use Rattle.request_form.specs.declared.form.Fault.{Fault}
use Rattle.request_form.specs.declared.form.Fault.TheVariants as Faults
use Rattle.file_names.specs.declared.form.FileReply.{FileReply}
use Rattle.file_names.specs.declared.form.PageHolders.{PageHolders}
use Rattle.file_layer.specs.Files.{Gaps, Files, with_store, store_fault, ArePlaces, TellsWhere, WhereAnswer, Opens, PlacesSaid}
use Rattle.file_layer.specs.Sessions.{said_of}

-- what a read is answered, where the version has so many bytes
abbrev ReadsOf : Outcome → ℕ → ℕ → ℕ → Type 0
ReadsOf read offset count size =
    (size < offset + count → read ≡ Outcomes.Refused (Refusals.RangePastSize (offset + count) size)) × (offset + count ≤ size → (bytes : List ℕ) × (read ≡ Outcomes.Content bytes))

-- two answers by one condition first, which both refuse where it holds
both_first : (R : Answered → Answered → Type 0) (s : Store) (t : Test) (ts us : List Test) (a b : Answered) → R (refuse s t.refusal) (refuse s t.refusal) → R (unless_refused s ts a) (unless_refused s us b)
    → R (unless_refused s (t ∷ ts) a) (unless_refused s (t ∷ us) b)
both_first R s t ts us a b holds fails = by t.refuses
  where
    by : (early : Bool) → R (elim (if early then Some t.refusal else first_refusal ts) [ Some r ↦ refuse s r | None ↦ a ]) (elim (if early then Some t.refusal else first_refusal us) [ Some r ↦ refuse s r | None ↦ b ])
    by true = holds
    by false = fails

-- two answers in one blob
both_in : (R : Answered → Answered → Type 0) (s : Store) (blob : ℕ) (f g : Blob → Answered) → R (refuse s (Refusals.NoBlob blob)) (refuse s (Refusals.NoBlob blob)) → ((b : Blob) → R (f b) (g b)) → R (in_blob s blob f) (in_blob s blob g)
both_in R s blob f g lacks has = found (blob_at s blob)
  where
    found : (o : Option Blob) → R (elim o [ None ↦ refuse s (Refusals.NoBlob blob) | Some b ↦ f b ]) (elim o [ None ↦ refuse s (Refusals.NoBlob blob) | Some b ↦ g b ])
    found None = lacks
    found (Some b) = has b

-- what the size of a version tells of a read of it
abbrev SizeTells : ℕ → ℕ → Answered → Answered → Type 0
SizeTells offset count asked read = ((size : ℕ) → asked.1 ≡ Outcomes.Size size → ReadsOf read.1 offset count size) × ((r : Refusal) → asked.1 ≡ Outcomes.Refused r → read.1 ≡ Outcomes.Refused r)

refusal_no_size : (r : Refusal) (size : ℕ) → Outcomes.Refused r ≡ Outcomes.Size size → ⊥
refusal_no_size r size e = cc

size_no_refusal : (size : ℕ) (r : Refusal) → Outcomes.Size size ≡ Outcomes.Refused r → ⊥
size_no_refusal size r e = cc

size_is : (m n : ℕ) → Outcomes.Size m ≡ Outcomes.Size n → m ≡ n
size_is m n e = cc

both_refused : (offset count : ℕ) (s : Store) (r : Refusal) → SizeTells offset count (refuse s r) (refuse s r)
both_refused offset count s r = (λ size e. absurd (refusal_no_size r size e), λ other e. e)

in_range : (s : Store) (b : Blob) (version offset count : ℕ) (past : Bool) → nat_lt (size_of b.updates version) (offset + count) ≡ past
    → SizeTells offset count (s, Outcomes.Size (size_of b.updates version))
    (elim (if past then Some (Refusals.RangePastSize (offset + count) (size_of b.updates version)) else None) [ Some r ↦ refuse s r | None ↦ (s, Outcomes.Content (bytes_of b version offset count)) ])
in_range s b version offset count true e = (
  λ size is. let same = size_is (size_of b.updates version) size is in
      (λ lt. ap (λ n. Outcomes.Refused (Refusals.RangePastSize (offset + count) n)) same, λ le. absurd (grind (arith, e, same))),
  λ r is. absurd (size_no_refusal (size_of b.updates version) r is),
)
in_range s b version offset count false e = (
  λ size is. let same = size_is (size_of b.updates version) size is in
      (λ lt. absurd (grind (arith, e, same)), λ le. (bytes_of b version offset count, refl)),
  λ r is. absurd (size_no_refusal (size_of b.updates version) r is),
)

size_tells : (s : Store) (caller blob version offset count : ℕ) → SizeTells offset count (answer s caller (Calls.Size blob version)) (answer s caller (Calls.Read blob version offset count))
size_tells s caller blob version offset count =
    both_in (SizeTells offset count) s blob
    (λ b. unless_refused s (not_published b version ∷ []) (s, Outcomes.Size (size_of b.updates version)))
    (λ b. unless_refused s (not_published b version ∷ range_past_size b version offset count ∷ []) (s, Outcomes.Content (bytes_of b version offset count)))
    (both_refused offset count s (Refusals.NoBlob blob))
    (λ b. both_first (SizeTells offset count) s (not_published b version) [] (range_past_size b version offset count ∷ []) (s, Outcomes.Size (size_of b.updates version)) (s, Outcomes.Content (bytes_of b version offset count))
    (both_refused offset count s (Refusals.NotPublished version (published b)))
    (in_range s b version offset count (nat_lt (size_of b.updates version) (offset + count)) refl))

reads_of : (s : Store) (caller blob version offset count size : ℕ) → (answer s caller (Calls.Size blob version)).1 ≡ Outcomes.Size size → ReadsOf (answer s caller (Calls.Read blob version offset count)).1 offset count size
reads_of s caller blob version offset count size e = (size_tells s caller blob version offset count).0 size e

-- where the size of a version is refused, a read of it is
refused_as : (s : Store) (caller blob version offset count : ℕ) (r : Refusal) → (answer s caller (Calls.Size blob version)).1 ≡ Outcomes.Refused r → (answer s caller (Calls.Read blob version offset count)).1 ≡ Outcomes.Refused r
refused_as s caller blob version offset count r e = (size_tells s caller blob version offset count).1 r e

-- a read is too long, or not
by_length : (count : ℕ) (b : Bool) → nat_lt max_read count ≡ b → (if b then Some (Faults.ReadTooLong count) else None) ≡ read_fault count
by_length count b e = ap (λ t. if t then Some (Faults.ReadTooLong count) else None) (sym e)

pub long_read : (count : ℕ) → max_read < count → read_fault count ≡ Some (Faults.ReadTooLong count)
long_read count lt = sym (by_length count true (lt-ltb max_read count lt))

pub short_read : (count : ℕ) → count ≤ max_read → read_fault count ≡ None
short_read count le = sym (by_length count false (grind (arith, nat_tests)))

module _ (gaps : Gaps) (seen f' : Files) (blob version offset count : ℕ) where
  there : (v : Version) (opens : Opens gaps seen blob version (Ok v) f') → ReadsOf (outcome_at seen.store opens.others (Calls.Read blob version offset count)) offset count (size_now v)
  there v opens = reads_of (store_at seen.store opens.others) seen.store.caller blob version offset count (size_now v) opens.size

  placed : (others : List Event) → f' ≡ with_store seen (sees seen.store others) → (places : List PageHolders) → ArePlaces f' offset count places → ArePlaces seen offset count places
  placed others is places h = let same = subst (λ f. ArePlaces f offset count places) is h in record { which = same.which; lie = same.lie }

  -- what is said of a version that was opened
  pub where_opened : (v : Version) → Opens gaps seen blob version (Ok v) f' → read_fault count ≡ None → (said : Result FileReply NoMemory) → PlacesSaid f' (size_now v) offset count said
      → WhereAnswer gaps seen blob version offset count (said_of said) f'
  where_opened v opens short (Err out) within = WhereAnswer.unsaid opens.others opens.is_gap short opens.is refl
  where_opened v opens short (Ok reply) (inl past) =
      WhereAnswer.told opens.others opens.is_gap short opens.is (subst (λ o. TellsWhere seen offset count o reply) (sym ((there v opens).0 past.0)) past.1)
  where_opened v opens short (Ok reply) (inr held) =
      let read = (there v opens).1 held.0 in
      WhereAnswer.told opens.others opens.is_gap short opens.is
      (subst (λ o. TellsWhere seen offset count o reply) (sym read.1) (held.1.0, held.1.1, placed opens.others opens.is held.1.0 held.1.2))

  -- of one that wasn't
  pub where_refused : (fault : Fault) → Opens gaps seen blob version (Err fault) f' → read_fault count ≡ None → WhereAnswer gaps seen blob version offset count (store_fault fault) f'
  where_refused fault opens short = by opens.fault
    where
      by : (fault ≡ Faults.NoMemory) ⊎ ((refusal : Refusal) × (outcome_at seen.store opens.others (Calls.Size blob version) ≡ Outcomes.Refused refusal) × (fault ≡ fault_of refusal))
          → WhereAnswer gaps seen blob version offset count (store_fault fault) f'
      by (inl out) = WhereAnswer.no_memory opens.others opens.is_gap short opens.is (ap store_fault out)
      by (inr why) =
          let read = refused_as (store_at seen.store opens.others) seen.store.caller blob version offset count why.0 why.1 in
          WhereAnswer.told opens.others opens.is_gap short opens.is (subst (λ o. TellsWhere seen offset count o (store_fault fault)) (sym read) (ap store_fault why.2))
