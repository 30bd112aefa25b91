-- A store tells of a blob's last published version, or refuses it.
use Rattle.std.proofs.Common.{◌≡◌, refl}
use Rattle.std.specs.Prelude.{ℕ, List, true, Option, Some, None}
use Rattle.blob_model.specs.Store.{Store, Blob, blob_at, published}
use Rattle.blob_model.specs.Content.{size_of}
use Rattle.blob_model.specs.Answer.{Answered, refuse, in_blob}
use Rattle.blob_model.specs.declared.call.Call.TheVariants as Calls
use Rattle.blob_model.specs.declared.call.Event.{Event}
use Rattle.blob_model.specs.declared.call.Outcome.TheVariants as Outcomes
use Rattle.blob_model.specs.declared.call.Refusal.TheVariants as Refusals
use Rattle.request_form.specs.Session.{Session, store_at, outcome_at}
use Rattle.request_form.specs.Replies.{reply_of}
use Rattle.file_layer.specs.Files.{is_recent}

-- what holds of a refusal for want of the blob, and of what is done in each blob, holds of what is done in the blob of that id
pub by_blob : (P : Answered → Type 0) (s : Store) (blob : ℕ) (f : Blob → Answered) → P (refuse s (Refusals.NoBlob blob)) → ((b : Blob) → P (f b)) → P (in_blob s blob f)
by_blob P s blob f lacks has = found (blob_at s blob)
  where
    found : (o : Option Blob) → P (elim o [ None ↦ refuse s (Refusals.NoBlob blob) | Some b ↦ f b ])
    found None = lacks
    found (Some b) = has b

pub recent_ok : (s : Session) (others : List Event) (blob : ℕ) → is_recent (reply_of (outcome_at s others (Calls.Recent blob))) ≡ true
recent_ok s others blob = by_blob (λ a. is_recent (reply_of a.1) ≡ true) (store_at s others) blob (λ b. (store_at s others, Outcomes.Recent (published b) (size_of b.updates (published b)))) refl (λ b. refl)
