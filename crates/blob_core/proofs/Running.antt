-- Every list of allowed steps keeps what holds of a world, and is a legal history.
use Rattle.std.proofs.Common.{◌≡◌, ℕ, ◌≤◌, List, [], ◌∷◌, ◌++◌, refl, ap, ◌∙◌}
use Rattle.blob_model.specs.Content.{Update}
use Rattle.blob_model.specs.Store.{Blob, blob_at, with_blob, finish}
use Rattle.blob_model.specs.History.{store_from, IsLegalFrom, MayCall}
use Rattle.blob_model.specs.declared.call.Event.{Event}
use Rattle.blob_model.specs.declared.call.Event.TheVariants as Events
use Rattle.blob_model.specs.declared.call.Call.TheVariants as Calls
use Rattle.blob_core.specs.World.{World, bytes_of_pages}
use Rattle.blob_core.specs.Steps.{IsAllowed, AllAllowed, IsNumberedIn, after, world_after, events_of, events_from}
use Rattle.blob_core.specs.declared.step.Step.{Step}
use Rattle.blob_core.specs.declared.step.Step.TheVariants as Moves
use Rattle.blob_core.proofs.Lists.{SmallPages, joined_some, one_value}
use Rattle.blob_core.proofs.Growing.{Cited}
use Rattle.blob_core.proofs.Taken.{create_done, assign_done, finish_done, branch_done}
use Rattle.blob_core.proofs.Keeping.{Stands, page_put, node_put, finished, numbered, created, branched}
use Rattle.blob_core.proofs.Folding.{fold_put}

pub step_stands : (c : Cited) (p : ℕ) (w : World) (step : Step) → 1 ≤ p → Stands p w → IsAllowed p w step → Stands p (after p w step)
step_stands c p w (Moves.PagePut page bytes) pos s ok = page_put p w page bytes s ok.0 ok.1 ok.2
step_stands c p w (Moves.Create caller) pos s ok = created p w (store_from w.store (Events.Create caller ∷ [])) s (create_done w.store caller ok)
step_stands c p w (Moves.Assign caller blob place pages) pos s ok =
    let (b, is, fits, store) = assign_done w.store caller blob place (bytes_of_pages w.pages pages) ok.1 in
    let u : Update = record { caller = caller; place = place; bytes = bytes_of_pages w.pages pages } in
    numbered c p w (store_from w.store (Events.Assign caller blob place (bytes_of_pages w.pages pages) ∷ [])) blob b u pages s is ok.0 refl (joined_some p w.pages s.pages pages ok.0) fits store
step_stands c p w (Moves.FoldPut blob version page) pos s ok =
    let (b, own, folded, before) = ok in
    fold_put c p w blob version page b pos s own folded before
step_stands c p w (Moves.NodePut key) pos s ok =
    let (b, own, has, folded) = ok in
    node_put c p w key b pos s own has folded
step_stands c p w (Moves.Finish caller blob version) pos s ok =
    let (b, own, row) = ok.1 in
    let (x, is, store) = finish_done w.store caller blob version ok.0 in
    let same : x ≡ b = one_value (blob_at w.store blob) x b is own.there in
    finished c p w (store_from w.store (Events.Finish caller blob version ∷ [])) blob version b pos s own row
    (store ∙ ap (λ (y : Blob). with_blob w.store blob (finish y version)) same)
step_stands c p w (Moves.Branch caller blob version) pos s ok =
    let (b, is, le, store) = branch_done w.store caller blob version ok in
    branched c p w (store_from w.store (Events.Branch caller blob version ∷ [])) blob version b s is le store
step_stands c p w (Moves.Read blob version offset count) pos s ok = s

pub stands_after : (c : Cited) (p : ℕ) (w : World) (steps : List Step) → 1 ≤ p → Stands p w → AllAllowed p w steps → Stands p (world_after p w steps)
stands_after c p w [] pos s ok = s
stands_after c p w (step ∷ steps) pos s ok = stands_after c p (after p w step) steps pos (step_stands c p w step pos s ok.0) ok.1

-- the store is that of the events
pub store_after : (p : ℕ) (w : World) (steps : List Step) → (world_after p w steps).store ≡ store_from w.store (events_from p w steps)
store_after p w [] = refl
store_after p w (Moves.Read blob version offset count ∷ steps) = store_after p w steps
store_after p w (step ∷ steps) = store_after p (after p w step) steps

may_finish : (w : World) (caller blob version : ℕ) (b : Blob) → IsNumberedIn w blob version b → MayCall w.store (Calls.Finish blob version)
may_finish w caller blob version b own = rw own.there (own.some, own.upto)

-- the events of an allowed step may come before those that its world allows
step_legal : (p : ℕ) (w : World) (step : Step) (rest : List Event) → SmallPages p w.pages → IsAllowed p w step → IsLegalFrom (after p w step).store rest
    → IsLegalFrom w.store (events_of w step ++ rest)
step_legal p w (Moves.Create caller) rest small ok legal = (record { may = tt; accepted = ok }, legal)
step_legal p w (Moves.Assign caller blob place pages) rest small ok legal = (record { may = joined_some p w.pages small pages ok.0; accepted = ok.1 }, legal)
step_legal p w (Moves.Finish caller blob version) rest small ok legal = (record { may = may_finish w caller blob version ok.1.0 ok.1.1; accepted = ok.0 }, legal)
step_legal p w (Moves.Branch caller blob version) rest small ok legal = (record { may = tt; accepted = ok }, legal)
step_legal p w step rest small ok legal = legal

pub legal_after : (c : Cited) (p : ℕ) (w : World) (steps : List Step) → 1 ≤ p → Stands p w → AllAllowed p w steps → IsLegalFrom w.store (events_from p w steps)
legal_after c p w [] pos s ok = tt
legal_after c p w (step ∷ steps) pos s ok =
    step_legal p w step (events_from p (after p w step) steps) s.pages ok.0 (legal_after c p (after p w step) steps pos (step_stands c p w step pos s ok.0) ok.1)
