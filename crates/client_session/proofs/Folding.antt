-- The pages that a numbered update stores anew, as the store tells them and as its ticket does.
use Rattle.std.proofs.Common.{◌≡◌, ◌⊎◌, inl, inr, refl, sym, ◌∙◌, ap, ℕ, ◌+◌, ◌≤◌, List, [], length, take, Option, Some, None, arith}
use Rattle.blob_model.specs.Store.{Store, Blob, blob_at}
use Rattle.blob_model.specs.History.{store_of}
use Rattle.blob_model.specs.declared.call.Event.{Event}
use Rattle.range_log.specs.Updates.{extents}
use Rattle.range_log.specs.Rows.{folds_of}
use Rattle.border_hints.specs.Numbered.{NumberedUpdate}
use Rattle.tree_weaver.specs.Anew.{StoresNoneAnew}
use Rattle.version_manager.specs.Desks.{IsTicketOf, updates_in, updates_or_none, published_or_none}
use Rattle.version_manager.specs.Folds.{IsInOrder}
use Rattle.version_manager.specs.Log.{IsWaitingTicket, events, desk_at}
use Rattle.version_manager.specs.Stays.{ticket_folds}
use Rattle.version_manager.specs.declared.journal.DeskFixed.{DeskFixed}
use Rattle.request_form.specs.Answers.{folds_in}

-- those that the ticket's update stores anew, by the updates up to it
abbrev pub folds_of_ticket : DeskFixed → List (ℕ × Event) → NumberedUpdate → List ℕ
folds_of_ticket f log t = folds_of t.snapshot.page_size (extents (take t.version (updates_in (desk_at f log) t.blob))) t.version

in_blob : (p : ℕ) (o : Option Blob) (version : ℕ) → 1 ≤ version → version ≤ length (updates_or_none o) → (elim o [ None ↦ [] | Some b ↦ folds_of p (extents b.updates) version ]) ≡ folds_of p (extents (updates_or_none o)) version
in_blob p None version some le = absurd (omega (arith, some, le))
in_blob p (Some b) version some le = refl

-- of a numbered version
pub folds_there : (p : ℕ) (s : Store) (blob version : ℕ) → 1 ≤ version → version ≤ length (updates_or_none (blob_at s blob)) → folds_in p s blob version ≡ folds_of p (extents (updates_or_none (blob_at s blob))) version
folds_there p s blob version some le = in_blob p (blob_at s blob) version some le

pub folds_told : (f : DeskFixed) (log : List (ℕ × Event)) (t : NumberedUpdate) → 1 ≤ t.version → IsTicketOf (desk_at f log) t → folds_in f.page_size (store_of f.limits (events log)) t.blob t.version ≡ folds_of_ticket f log t
folds_told f log t some ticket =
    folds_there f.page_size (store_of f.limits (events log)) t.blob t.version some ticket.numbered ∙ ticket_folds (desk_at f log) t ticket

-- ---- when its update may be finished
-- one that stores none anew
pub none_in_order : (f : DeskFixed) (log : List (ℕ × Event)) (t : NumberedUpdate) → IsTicketOf (desk_at f log) t → StoresNoneAnew t → IsInOrder f.page_size (store_of f.limits (events log)) t.blob t.version
none_in_order f log t ticket none = λ some. absurd (some (ticket_folds (desk_at f log) t ticket ∙ none _ ticket.stands))

-- and one that was woven by a fresh ticket
pub fresh_in_order : (f : DeskFixed) (log : List (ℕ × Event)) (blob version : ℕ) (t : NumberedUpdate) → IsWaitingTicket f log blob version t → StoresNoneAnew t ⊎ (length t.snapshot.rows + 1 ≡ t.version)
    → IsInOrder f.page_size (store_of f.limits (events log)) t.blob t.version
fresh_in_order f log blob version t w (inl none) = none_in_order f log t w.ticket none
fresh_in_order f log blob version t w (inr next) = λ some.
    let s : Store = store_of f.limits (events log) in
    let here : length t.snapshot.rows ≡ published_or_none (blob_at s t.blob) = w.hints.rows ∙ ap (λ (b : ℕ). published_or_none (blob_at s b)) (sym w.blob_is) in
    omega (arith, here, next)
