-- Which refusal comes first.
use Rattle.std.proofs.Common.{◌≡◌, ℕ, ◌+◌, ◌<◌, ◌≤◌, Bool, true, false, List, [], ◌∷◌, length, max, Option, Some, None, arith, refl, ap, sym, ◌∙◌, eq-eqb}
use Rattle.std.specs.Prelude.{if◌then◌else◌}
use Rattle.std.proofs.lemmas.Bool.{lt-ltb, le-ltb, ne_eqb}
use Rattle.blob_model.specs.Content.{offset_of}
use Rattle.blob_model.specs.Limits.{Bounds}
use Rattle.blob_model.specs.Store.{Store, Blob, empty_store, assigned, waiting, size_now, size_with}
use Rattle.blob_model.specs.Answer.{Answered, Test, first_refusal, unless_refused, offset_past_size, blob_too_big, too_many_versions, too_many_open}
use Rattle.blob_model.specs.declared.call.Place.{Place}
use Rattle.blob_model.specs.declared.call.Outcome.TheVariants as Outcomes
use Rattle.blob_model.specs.declared.call.Refusal.{Refusal}
use Rattle.blob_model.specs.declared.call.Refusal.TheVariants as Refusals
use Rattle.version_manager.specs.DeskInvariant.{update_tests}
use Rattle.version_manager.proofs.Stores.{unless_none, unless_some}

pub first_hit : (t : Test) (ts : List Test) → t.refuses ≡ true → Some t.refusal ≡ first_refusal (t ∷ ts)
first_hit t ts e = sym (ap (λ (v : Bool). if v then Some t.refusal else first_refusal ts) e)

pub first_pass : (t : Test) (ts : List Test) (r : Option Refusal) → t.refuses ≡ false → r ≡ first_refusal ts → r ≡ first_refusal (t ∷ ts)
first_pass t ts r e h = h ∙ sym (ap (λ (v : Bool). if v then Some t.refusal else first_refusal ts) e)

-- the answer, by the first refusal
pub refused_is : (s : Store) (tests : List Test) (done : Answered) (r : Refusal) → Some r ≡ first_refusal tests → Outcomes.Refused r ≡ (unless_refused s tests done).1
refused_is s tests done r e = sym (ap (λ (a : Answered). a.1) (unless_some s tests done r (sym e)))

pub done_is : (s : Store) (tests : List Test) (done : Answered) → None ≡ first_refusal tests → done.1 ≡ (unless_refused s tests done).1
done_is s tests done e = sym (ap (λ (a : Answered). a.1) (unless_none s tests done (sym e)))

-- why an update of these bytes is refused, by the size before it and the offset
module _ (limits : Bounds) (b : Blob) (place : Place) (bytes : List ℕ) (size at len : ℕ) (s : size ≡ size_now b) (o : at ≡ offset_of place size) (n : length bytes ≡ len) where
  abbrev past : Test
  past = offset_past_size b place

  abbrev big : Test
  big = blob_too_big (empty_store limits) b place bytes

  abbrev versions : Test
  versions = too_many_versions (empty_store limits) b

  abbrev open' : Test
  open' = too_many_open (empty_store limits) b

  pub at_is : at ≡ offset_of place (size_now b)
  at_is = o ∙ ap (offset_of place) s

  pub end_is : max size (at + len) ≡ size_with b place bytes
  end_is = omega (arith, s, at_is, n)

  pub refused_past : size < at → Some (Refusals.OffsetPastSize at size) ≡ first_refusal (update_tests limits b place bytes)
  refused_past lt =
      ap (λ x. Some (Refusals.OffsetPastSize x size)) at_is
      ∙ ap (λ x. Some (Refusals.OffsetPastSize (offset_of place (size_now b)) x)) s
      ∙ first_hit past (big ∷ versions ∷ open' ∷ []) (lt-ltb (size_now b) (offset_of place (size_now b)) (omega (arith, s, at_is)))

  within : at ≤ size → past.refuses ≡ false
  within le = le-ltb (size_now b) (offset_of place (size_now b)) (omega (arith, s, at_is))

  pub refused_big : (end limit : ℕ) → limit ≡ limits.max_size → end ≡ max size (at + len) → at ≤ size → limit < end
      → Some (Refusals.BlobTooBig end limit) ≡ first_refusal (update_tests limits b place bytes)
  refused_big end limit l e le lt =
      let is : end ≡ size_with b place bytes = e ∙ end_is in
      first_pass past (big ∷ versions ∷ open' ∷ []) (Some (Refusals.BlobTooBig end limit)) (within le)
      (
      ap (λ x. Some (Refusals.BlobTooBig x limit)) is
      ∙ ap (λ x. Some (Refusals.BlobTooBig (size_with b place bytes) x)) l
      ∙ first_hit big (versions ∷ open' ∷ []) (lt-ltb limits.max_size (size_with b place bytes) (omega (arith, is, l)))
      )

  fits : (end : ℕ) → end ≡ max size (at + len) → end ≤ limits.max_size → big.refuses ≡ false
  fits end e le = le-ltb limits.max_size (size_with b place bytes) (omega (arith, e, end_is))

  pub refused_versions : (end limit : ℕ) → limit ≡ limits.max_versions → end ≡ max size (at + len) → at ≤ size → end ≤ limits.max_size → assigned b ≡ limit
      → Some (Refusals.TooManyVersions limit) ≡ first_refusal (update_tests limits b place bytes)
  refused_versions end limit l e le few is =
      first_pass past (big ∷ versions ∷ open' ∷ []) (Some (Refusals.TooManyVersions limit)) (within le)
      (first_pass big (versions ∷ open' ∷ []) (Some (Refusals.TooManyVersions limit)) (fits end e few) (ap (λ x. Some (Refusals.TooManyVersions x)) l ∙ first_hit versions (open' ∷ []) (eq-eqb (assigned b) limits.max_versions (is ∙ l))))

  pub refused_open : (end limit : ℕ) → limit ≡ limits.max_open → end ≡ max size (at + len) → at ≤ size → end ≤ limits.max_size → (assigned b ≡ limits.max_versions → ⊥) → waiting b ≡ limit
      → Some (Refusals.TooManyOpen limit) ≡ first_refusal (update_tests limits b place bytes)
  refused_open end limit l e le few more is =
      first_pass past (big ∷ versions ∷ open' ∷ []) (Some (Refusals.TooManyOpen limit)) (within le)
      (first_pass big (versions ∷ open' ∷ []) (Some (Refusals.TooManyOpen limit)) (fits end e few)
      (first_pass versions (open' ∷ []) (Some (Refusals.TooManyOpen limit)) (ne_eqb (assigned b) limits.max_versions more) (ap (λ x. Some (Refusals.TooManyOpen x)) l ∙ first_hit open' [] (eq-eqb (waiting b) limits.max_open (is ∙ l)))))

  pub not_refused : (end : ℕ) → end ≡ max size (at + len) → at ≤ size → end ≤ limits.max_size → (assigned b ≡ limits.max_versions → ⊥) → (waiting b ≡ limits.max_open → ⊥)
      → None ≡ first_refusal (update_tests limits b place bytes)
  not_refused end e le few more waits =
      first_pass past (big ∷ versions ∷ open' ∷ []) None (within le)
      (first_pass big (versions ∷ open' ∷ []) None (fits end e few)
      (first_pass versions (open' ∷ []) None (ne_eqb (assigned b) limits.max_versions more)
      (first_pass open' [] None (ne_eqb (waiting b) limits.max_open waits) refl)))
