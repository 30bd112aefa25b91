use Rattle.std.proofs.Common.{◌≡◌, ℕ, ◌-◌, ◌≤◌, true, List, length, arith, inl, inr, ap, sym, subst, ◌∙◌}
use Rattle.std.specs.Prelude.{None}
use Rattle.blob_model.specs.Store.{Blob, published, true_prefix}
use Rattle.tree_geom.specs.declared.touch.Touch.{Touch}
use Rattle.tree_geom.specs.Geometry.{page_range}
use Rattle.range_log.specs.Log.{HasNode, size_at}
use Rattle.range_log.specs.Extents.{extent_at, size_after}
use Rattle.range_log.specs.Updates.{extents, update_at}
use Rattle.range_log.proofs.Bytes.{length-extents}
use Rattle.blob_core.specs.World.{World, fold_at, log_of}
use Rattle.blob_core.specs.Steps.{over_page}
use Rattle.blob_core.specs.Walk.{page_walk}
use Rattle.blob_core.specs.Acts.{IsDone, IsLogOf}
use Rattle.blob_core.specs.declared.world.FoldKey.{FoldKey}
use Rattle.blob_core.specs.declared.step.Step.TheVariants as Moves
use Rattle.blob_core.specs.contracts.state.State.{the_view}
use Rattle.blob_core.proofs.Growing.{size_in_log}
use Rattle.blob_core.proofs.Finding.{touched_node}
use Rattle.blob_core.proofs.Rowing.{log_tells, older_some}
use Rattle.blob_core.proofs.Acting.{MayFold, RowStands, row_stands, not_foldable, fold_kept, fold_done}
use Rattle.blob_core.proofs.Onward.{on_err}
use Rattle.blob_core.proofs.state.State.put_fold.Goals as goal
use Rattle.blob_core.proofs.state.State.put_fold.Goals.{After-marked-front, After-has_fold, then-not-folds_page-via-then-not-folds_page, then-not-folds_page-via-else-not-folds_page+then-front-version}

row_here : (c : After-marked-front) → RowStands c.args.p c.args.self.now c.args.blob c.args.version c.in-Some-blob.stored.now c.in-Some.row.log.items c.in-Some.row.keys.items
row_here c = row_stands (c.steps_hold.ensures.stays c.args.p c.args.self.now c.requires) c.in-Some-blob.ensures c.in_ok-row.ensures c.in-Some.is

logged : (c : After-marked-front) → IsLogOf c.args.p c.in-Some-blob.stored.now c.as_slice-log.result.now
logged c = rw c.as_slice-log.ensures.value (row_here c).touches

front : (c : After-marked-front) → published c.in-Some-blob.stored.now ≡ c.marked-front.result
front c = ap (λ (x : Blob). true_prefix x.finished) (sym c.stored.view_is) ∙ ap true_prefix (sym c.as_slice.ensures.value) ∙ sym c.marked-front.ensures.is

-- the page may be stored anew
may : (c : After-has_fold) → RowStands c.args.p c.args.self.now c.args.blob c.args.version c.in-Some-blob.stored.now c.in-Some.row.log.items c.in-Some.row.keys.items
    → published c.in-Some-blob.stored.now ≡ c.marked-front.result → MayFold c.args.p c.args.self.now c.args.blob c.args.version c.args.page c.in-Some-blob.stored.now
may c row before =
    let folds = c.folds_page.ensures.0 c.if-not-folds_page.false in
    record { sound = row.sound; own = row.own; met = folds.0; anew = folds.1; before = omega (arith, before, c.if-front-version.false) }

-- and its update has a leaf of it
has_leaf : (c : After-has_fold) → MayFold c.args.p c.args.self.now c.args.blob c.args.version c.args.page c.in-Some-blob.stored.now
    → HasNode c.args.p (log_of c.args.p c.in-Some-blob.stored.now.updates) c.args.version (page_range c.args.p c.args.page)
has_leaf c m =
    let us = c.in-Some-blob.stored.now.updates in
    touched_node c.args.p c.args.version c.args.page (extents us) c.requires.some (c.page_bytes_stay.ensures.extents us m.sound.replay).0 m.own.some
    (omega (arith, m.own.upto, length-extents us)) m.met

pub folds_page-requires-clause-log : goal.folds_page-requires-clause-log
folds_page-requires-clause-log c = logged (goal.at.folds_page-requires-clause-log c).After-marked-front

pub folds_page-requires-clause-version : goal.folds_page-requires-clause-version
folds_page-requires-clause-version c = let own = (row_here (goal.at.folds_page-requires-clause-version c).After-marked-front).own in (own.some, own.upto)

pub overflow_sub-version : goal.overflow_sub-version
overflow_sub-version c = (row_here (goal.at.overflow_sub-version c).After-marked-front).own.some

pub returns-then-not-folds_page-clause-refused : goal.returns-then-not-folds_page-clause-refused
returns-then-not-folds_page-clause-refused c answer =
    let here = (goal.at.returns-then-not-folds_page-clause-refused c).After-marked-front in
    not_foldable c.args.p c.args.self.now c.args.blob c.args.version c.args.page c.in-Some-blob.stored.now (row_here here).sound c.in-Some-blob.ensures
    (elim c.then-not-folds_page.branch [
      | then-not-folds_page-via-then-not-folds_page x ↦
          inl (λ both. (let yes : c.folds_page.result ≡ true = c.folds_page.ensures.1 both in let never : ⊥ = cc x.if-not-folds_page.true in never))
      | then-not-folds_page-via-else-not-folds_page+then-front-version x ↦ inr (omega (arith, front here, x.if-front-version.true))
    ])

pub returns-then-has_fold-clause-done : goal.returns-then-has_fold-clause-done
returns-then-has_fold-clause-done c =
    let (bytes, is) = c.has_fold.ensures.there c.if-has_fold.true in
    let here = goal.at.returns-then-has_fold-clause-done c in
    fold_kept c.args.p c.args.self.now c.args.blob c.args.version c.args.page c.in-Some-blob.stored.now bytes
    (may here.After-has_fold (row_here here.After-marked-front) (front here.After-marked-front)) (rw (c.as_slice-2.ensures.value ∙ ap (λ (x : World). x.folded) c.self.view_is) at is)

pub overflow_sub-number : goal.overflow_sub-number
overflow_sub-number c = (row_here (goal.at.overflow_sub-number c).After-marked-front).own.some

pub walk_page-requires-clause-version : goal.walk_page-requires-clause-version
walk_page-requires-clause-version c =
    let here = (goal.at.walk_page-requires-clause-version c).After-marked-front in
    omega (arith, (log_tells c.page_bytes_stay.ensures.extents c.args.p c.in-Some-blob.stored.now c.as_slice-log.result.now (logged here)).0, (row_here here).own.upto)

pub walk_page-requires-clause-some : goal.walk_page-requires-clause-some
walk_page-requires-clause-some c =
    let here = goal.at.walk_page-requires-clause-some c in
    let allowed = may here.After-has_fold (row_here here.After-marked-front) (front here.After-marked-front) in
    older_some c.page_bytes_stay.ensures.extents c.args.p c.in-Some-blob.stored.now c.as_slice-log.result.now c.args.version c.args.page (logged here.After-marked-front)
    (has_leaf here.After-has_fold allowed) allowed.anew

pub walk_page-requires-clause-fits : goal.walk_page-requires-clause-fits
walk_page-requires-clause-fits c =
    let here = (goal.at.walk_page-requires-clause-fits c).After-marked-front in
    let row = row_here here in
    let le : c.args.version - 1 ≤ length c.in-Some-blob.stored.now.updates = omega (arith, row.own.upto) in
    let tells = log_tells c.page_bytes_stay.ensures.extents c.args.p c.in-Some-blob.stored.now c.as_slice-log.result.now (logged here) in
    omega (arith, tells.1 (c.args.version - 1) le, row.sound.fits (c.args.version - 1) le)

pub put_own-requires-clause-log : goal.put_own-requires-clause-log
put_own-requires-clause-log c = logged (goal.at.put_own-requires-clause-log c).After-marked-front

pub put_own-requires-clause-has : goal.put_own-requires-clause-has
put_own-requires-clause-has c =
    let here = goal.at.put_own-requires-clause-has c in
    has_leaf here.After-has_fold (may here.After-has_fold (row_here here.After-marked-front) (front here.After-marked-front))

pub returns-in_err-insert-clause-same : goal.returns-in_err-insert-clause-same
returns-in_err-insert-clause-same c =
    let v : World = the_view c.self.inside in
    let same : c.insert.new.self.items ≡ v.folded = c.in_err-insert.ensures.items in
    on_err c.from_residual-in_err-insert.result (ap (λ (l : List (FoldKey × List ℕ)). record v { folded = l }) same ∙ c.self.view_is)

pub returns-clause-done : goal.returns-clause-done
returns-clause-done c =
    let here = goal.at.returns-clause-done c in
    let row = row_here here.After-marked-front in
    let b : Blob = c.in-Some-blob.stored.now in
    let p : ℕ = c.args.p in
    let k : ℕ = c.args.version in
    let i : ℕ = c.args.page in
    let v : World = the_view c.self.inside in
    let to : v ≡ c.args.self.now = c.self.view_is in
    let May : World → Type 0 = λ x. MayFold p x c.args.blob k i b in
    let none : fold_at v.folded c.args.blob k i ≡ None =
    ap (λ (l : List (FoldKey × List ℕ)). fold_at l c.args.blob k i) (sym c.as_slice-2.ensures.value) ∙ c.has_fold.ensures.missing c.if-has_fold.false in
    let size : size_at c.as_slice-log.result.now (k - 1) ≡ size_after (extents b.updates) (k - 1) =
    ap (λ (l : List Touch). size_at l (k - 1)) (logged here.After-marked-front).is ∙ size_in_log p b.updates (k - 1) (omega (arith, row.own.upto)) in
    let walk : c.as_slice-3.result.now ≡ page_walk p v c.args.blob b (k - 1) i = rw (c.as_slice-3.ensures.value, c.in_ok-older.ensures, size, to) in
    let over : List ℕ → List ℕ = λ older. over_page p (extent_at (extents b.updates) k) i (update_at b.updates k).bytes older in
    let bytes : c.of.result ≡ over (page_walk p v c.args.blob b (k - 1) i) = c.of.ensures ∙ c.in_ok-bytes.ensures ∙ ap over walk in
    let Done : World → Type 0 = λ x. IsDone p x (Moves.FoldPut c.args.blob k i)
    (record v { folded = c.insert.new.self.items }) in
    subst Done to
    (fold_done p v c.args.blob k i b c.of.result c.insert.new.self.items (subst May (sym to) (may here.After-has_fold row (front here.After-marked-front))) none bytes c.in_ok-insert.ensures.items)
