-- What a world has stays in it, whatever allowed steps follow.
use Rattle.std.proofs.Common.{◌≡◌, ℕ, ◌+◌, ◌≤◌, List, [], ◌∷◌, refl, sym, subst, inl, inr}
use Rattle.std.specs.Prelude.{Some}
use Rattle.blob_model.specs.Store.{assigned}
use Rattle.blob_core.specs.World.{World, empty_world, fold_at, kept_at, node_at, same_number, same_update, same_fold, same_key, bytes_of_pages}
use Rattle.blob_core.specs.Woven.{woven}
use Rattle.blob_core.specs.Steps.{IsAllowed, AllAllowed, after, world_after, folded_page, next_kept}
use Rattle.blob_core.specs.Standing.{IsReached}
use Rattle.blob_core.specs.declared.world.FoldKey.{FoldKey}
use Rattle.blob_core.specs.declared.world.UpdateKey.{UpdateKey}
use Rattle.blob_core.specs.declared.step.Step.{Step}
use Rattle.blob_core.specs.declared.step.Step.TheVariants as Moves
use Rattle.blob_core.proofs.Lists.{number_means, update_means, fold_means, key_means, entry_kept}
use Rattle.blob_core.proofs.Growing.{Cited}
use Rattle.blob_core.proofs.Taken.{assign_done}
use Rattle.blob_core.proofs.Keeping.{Stands, UpdateStands, empty_stands, with_update_is, with_node_is, next_free}
use Rattle.blob_core.proofs.Running.{step_stands, stands_after}
use Rattle.world_acts.specs.Worlds.{HasAllOf, WorldsOnlyGrow}
use Rattle.world_acts.proofs.Steps.{worlds_are_reached}
use Rattle.world_acts.proofs.Folding.{with_fold_is}

-- ---- what stands in each world that is reached
pub stands : Cited → (p : ℕ) (w : World) → IsReached p w → Stands p w
stands c p w a = subst (λ (x : World). Stands p x) (sym a.is) (stands_after c p (empty_world a.limits) a.steps a.some (empty_stands p a.limits) a.allowed)

-- ---- what each step keeps
pub has_itself : (w : World) → HasAllOf w w
has_itself w = record { pages = λ page bytes is. is; updates = λ blob version kept is. is; folded = λ blob version page bytes is. is; nodes = λ key n is. is }

pub has_further : (u v w : World) → HasAllOf u v → HasAllOf v w → HasAllOf u w
has_further u v w a b = record {
  pages = λ page bytes is. b.pages page bytes (a.pages page bytes is);
  updates = λ blob version kept is. b.updates blob version kept (a.updates blob version kept is);
  folded = λ blob version page bytes is. b.folded blob version page bytes (a.folded blob version page bytes is);
  nodes = λ key n is. b.nodes key n (a.nodes key n is);
}

pub step_grows : (p : ℕ) (w : World) (step : Step) → Stands p w → IsAllowed p w step → HasAllOf w (after p w step)
step_grows p w (Moves.PagePut page bytes) s ok = record {
  pages = λ n b is. entry_kept same_number w.pages page bytes n b (number_means page n) ok.0 is;
  updates = λ blob version kept is. is;
  folded = λ blob version i b is. is;
  nodes = λ key n is. is;
}
step_grows p w (Moves.Assign caller blob place pages) s ok =
    let (b, is, fits, store) = assign_done w.store caller blob place (bytes_of_pages w.pages pages) ok.1 in
    let key : UpdateKey = record { blob = blob; version = assigned b + 1 } in
    record {
      pages = λ page bytes e. e;
      updates = λ id v kept e.
          (let q : UpdateKey = record { blob = id; version = v } in
          rw (with_update_is p w blob pages b is)
          (entry_kept same_update w.updates key (next_kept p b pages) q kept (update_means key q) (next_free p w blob b s is (kept_at w.updates blob (assigned b + 1)) refl) e));
      folded = λ id v page bytes e. e;
      nodes = λ k n e. e;
    }
step_grows p w (Moves.FoldPut blob version page) s ok =
    let (b, own, folded, before) = ok in
    let key : FoldKey = record { blob = blob; version = version; page = page } in
    record {
      pages = λ n bytes is. is;
      updates = λ id v kept is. is;
      folded = λ id v i bytes is.
          (let q : FoldKey = record { blob = id; version = v; page = i } in
          elim (with_fold_is p w blob version page b folded.kept own.there folded.there (fold_at w.folded blob version page) refl) [
            | inl same ↦ rw same is
            | inr new ↦ rw new.1 (entry_kept same_fold w.folded key (folded_page p w blob b folded.kept version page) q bytes (fold_means key q) new.0 is)
          ]);
      nodes = λ k n is. is;
    }
step_grows p w (Moves.NodePut key) s ok =
    let (b, own, has, folded) = ok in
    let u : UpdateStands p w key.blob b key.version = (s.blobs key.blob b own.there).updates key.version own.some own.upto in
    let kept : kept_at w.updates key.blob key.version ≡ Some u.kept = rw own.own at u.there in
    record {
      pages = λ n bytes is. is;
      updates = λ id v e is. is;
      folded = λ id v i bytes is. is;
      nodes = λ k n is.
          elim (with_node_is p w key b u.kept own.there kept (node_at w.nodes key) refl) [
            | inl same ↦ rw same is
            | inr new ↦ rw new.1 (entry_kept same_key w.nodes key (woven p w key.blob b u.kept key.version key.range) k n (key_means key k) new.0 is)
          ];
    }
step_grows p w step s ok = record { pages = λ page bytes is. is; updates = λ id v kept is. is; folded = λ id v page bytes is. is; nodes = λ key n is. is }

steps_grow : Cited → (p : ℕ) (w : World) (steps : List Step) → 1 ≤ p → Stands p w → AllAllowed p w steps → HasAllOf w (world_after p w steps)
steps_grow c p w [] pos s ok = has_itself w
steps_grow c p w (step ∷ steps) pos s ok =
    has_further w (after p w step) (world_after p w (step ∷ steps)) (step_grows p w step s ok.0)
    (steps_grow c p (after p w step) steps pos (step_stands c p w step pos s ok.0) ok.1)

pub worlds_only_grow : Cited → WorldsOnlyGrow
worlds_only_grow c f history w steps a ok =
    let reached = worlds_are_reached f history w a in
    steps_grow c f.page_size w steps reached.some (stands c f.page_size w reached) ok
