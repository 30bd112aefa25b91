-- A page that an update stores anew was put only where the version before is published.
use Rattle.std.proofs.Common.{◌≡◌, ℕ, ◌-◌, ◌≤◌, List, [], ◌∷◌, refl, sym, ap, subst, ◌∙◌, arith, inl, inr}
use Rattle.std.specs.Prelude.{Some}
use Rattle.blob_model.specs.Limits.{Bounds}
use Rattle.blob_model.specs.Store.{Store, Blob, blob_at, published}
use Rattle.blob_model.specs.History.{store_from}
use Rattle.blob_model.specs.declared.call.Event.{Event}
use Rattle.blob_model.proofs.Stays.{store_kept}
use Rattle.blob_core.specs.World.{World, UpdateEntry, empty_world, fold_at, kept_at, same_fold}
use Rattle.blob_core.specs.declared.world.FoldKey.{FoldKey}
use Rattle.blob_core.specs.Steps.{events_of, IsAllowed, AllAllowed, after, world_after, with_fold, folded_page}
use Rattle.blob_core.specs.declared.step.Step.{Step}
use Rattle.blob_core.specs.declared.step.Step.TheVariants as Moves
use Rattle.blob_core.proofs.Lists.{entry_old, fold_means}
use Rattle.version_manager.specs.Desks.{published_in, published_or_none}
use Rattle.version_manager.specs.Log.{desk_at}
use Rattle.world_acts.specs.Worlds.{StoresAgree}
use Rattle.world_acts.specs.Puts.{FoldsFollow}
use Rattle.world_acts.proofs.Folding.{with_fold_is}

-- the blob is there, and the version before is published
pub record IsAfterPublished (s : Store) (blob version : ℕ) : Type 0 where
  pub b : Blob
  pub there : blob_at s blob ≡ Some b
  pub before : version - 1 ≤ published b

abbrev pub Follows : World → Type 0
Follows w = (blob version page : ℕ) (bytes : List ℕ) → fold_at w.folded blob version page ≡ Some bytes → IsAfterPublished w.store blob version

later : (s : Store) (more : List Event) (blob version : ℕ) → IsAfterPublished s blob version → IsAfterPublished (store_from s more) blob version
later s more blob version h =
    let (new, at, stay) = store_kept s more blob h.b h.there in
    record { b = new; there = at; before = omega (arith, h.before, stay.published) }

fold_case : (p : ℕ) (w : World) (blob version page : ℕ) (b : Blob) (kept : UpdateEntry) → Follows w → blob_at w.store blob ≡ Some b → kept_at w.updates blob version ≡ Some kept
    → version - 1 ≤ published b → (at v i : ℕ) (bytes : List ℕ) → fold_at (with_fold p w blob version page) at v i ≡ Some bytes → IsAfterPublished w.store at v
fold_case p w blob version page b kept h there has before at v i bytes is =
    let key : FoldKey = record { blob = blob; version = version; page = page } in
    let other : FoldKey = record { blob = at; version = v; page = i } in
    let F : List (FoldKey × List ℕ) → Type 0 = λ l. fold_at l at v i ≡ Some bytes in
    let P : FoldKey → Type 0 = λ k. IsAfterPublished w.store k.blob k.version in
    elim (with_fold_is p w blob version page b kept there has (fold_at w.folded blob version page) refl) [
      | inl same ↦ h at v i bytes (subst F same is)
      | inr new ↦
          elim (entry_old same_fold w.folded key (folded_page p w blob b kept version page) other bytes (fold_means key other) (subst F new.1 is)) [
            | inl same ↦ subst P same.0 (record { b = b; there = there; before = before })
            | inr old ↦ h at v i bytes old
          ]
    ]

step_follows : (p : ℕ) (w : World) (step : Step) → Follows w → IsAllowed p w step → Follows (after p w step)
step_follows p w (Moves.FoldPut blob version page) h ok =
    let (b, own, folded, before) = ok in
    fold_case p w blob version page b folded.kept h own.there folded.there before
step_follows p w step h ok = λ at v i bs is. later w.store (events_of w step) at v (h at v i bs is)

follows_on : (p : ℕ) (w : World) (steps : List Step) → Follows w → AllAllowed p w steps → Follows (world_after p w steps)
follows_on p w [] h ok = h
follows_on p w (step ∷ steps) h ok = follows_on p (after p w step) steps (step_follows p w step h ok.0) ok.1

pub steps_follow : (p : ℕ) (limits : Bounds) (steps : List Step) → AllAllowed p (empty_world limits) steps → Follows (world_after p (empty_world limits) steps)
steps_follow p limits steps ok = follows_on p (empty_world limits) steps (λ at v i bs e. (let no : ⊥ = cc in absurd no)) ok

pub folds_follow : StoresAgree → FoldsFollow
folds_follow agree f history w blob version page bytes a is =
    let all : Follows w = subst Follows (sym a.is) (steps_follow f.page_size f.limits a.steps a.allowed) in
    let one : IsAfterPublished w.store blob version = all blob version page bytes is in
    let known : published_in (desk_at f history) blob ≡ published one.b =
    ap (λ (s : Store). published_or_none (blob_at s blob)) (sym (agree f history w a)) ∙ ap published_or_none one.there in
    omega (arith, one.before, known)
