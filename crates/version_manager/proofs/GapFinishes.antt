-- Which versions a gap finishes.
use Rattle.std.proofs.Common.{◌≡◌, ℕ, ◌≤◌, ◌||◌, Bool, List, ◌++◌, length, refl, ap, ◌∙◌, arith}
use Rattle.std.specs.Prelude.{Option, Some, None}
use Rattle.std.proofs.lemmas.List.{map-append}
use Rattle.blob_model.specs.Store.{Store, Blob, blob_at, empty_store}
use Rattle.blob_model.specs.History.{store_of, finishes}
use Rattle.blob_model.specs.declared.call.Event.{Event}
use Rattle.blob_model.proofs.Stays.{store_kept, store_from-append}
use Rattle.blob_model.proofs.Marks.{finished_by}
use Rattle.version_manager.specs.declared.journal.DeskFixed.{DeskFixed}
use Rattle.version_manager.specs.Desks.{updates_or_none, finished_or_not}
use Rattle.version_manager.specs.Laws.{FinishedByGap}
use Rattle.version_manager.specs.Log.{events}

at_blob : (f : DeskFixed) (h more : List Event) (blob version : ℕ) (o : Option Blob) → blob_at (store_of f.limits h) blob ≡ o → 1 ≤ version → version ≤ length (updates_or_none o)
    → finished_or_not (blob_at (store_of f.limits (h ++ more)) blob) version ≡ (finished_or_not o version || finishes blob version more)
at_blob f h more blob version None is some within = absurd (omega arith)
at_blob f h more blob version (Some b) is some within =
    let (new, at, stay) = store_kept (store_of f.limits h) more blob b is in
    let there : blob_at (store_of f.limits (h ++ more)) blob ≡ Some new = ap (λ (s : Store). blob_at s blob) (store_from-append (empty_store f.limits) h more) ∙ at in
    ap (λ (o : Option Blob). finished_or_not o version) there ∙ finished_by f.limits h more blob version b new is there within

pub finished_after : FinishedByGap
finished_after f seen gap blob version some within =
    let F : List Event → Bool = λ l. finished_or_not (blob_at (store_of f.limits l) blob) version in
    ap F (map-append (λ (x : ℕ × Event). x.1) seen gap) ∙ at_blob f (events seen) (events gap) blob version (blob_at (store_of f.limits (events seen)) blob) refl some within
