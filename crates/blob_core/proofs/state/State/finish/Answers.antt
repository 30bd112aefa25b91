use Rattle.std.proofs.Common.{◌≡◌, ◌-◌, List, length, arith, inl, inr, ap, sym, subst, ◌∙◌}
use Rattle.std.specs.Prelude.{◌==◌, Some, slice_set}
use Rattle.std.proofs.lemmas.Option.{get_or_from_slice_get}
use Rattle.blob_model.specs.Store.{Blob, blob_at, finish}
use Rattle.range_log.specs.Rows.{row_keys_of}
use Rattle.blob_core.specs.World.{World, log_of}
use Rattle.blob_core.specs.Steps.{IsNumberedIn, RowIsThere}
use Rattle.blob_core.specs.Acts.{IsDone}
use Rattle.blob_core.specs.declared.step.Step.TheVariants as Moves
use Rattle.blob_core.specs.contracts.state.State.{the_view}
use Rattle.blob_core.proofs.Taken.{blob_some}
use Rattle.blob_model.proofs.Stays.{item_of}
use Rattle.blob_core.proofs.Acting.{RowStands, row_stands, finish_is_done, not_finishable, same_there}
use Rattle.blob_core.proofs.state.State.finish.Goals as goal
use Rattle.blob_core.proofs.state.State.finish.Goals.{In-Some-blob, then-is_marked-via-then-is_marked, then-is_marked-via-else-is_marked+then-not-are_there}

row_here : (c : In-Some-blob) → RowStands c.args.p c.args.self.now c.args.blob c.args.version c.in-Some-blob.stored.now c.in-Some.row.log.items c.in-Some.row.keys.items
row_here c = row_stands (c.steps_hold.ensures.stays c.args.p c.args.self.now c.requires) c.in-Some-blob.ensures c.in_ok-row.ensures c.in-Some.is

pub is_marked-requires : goal.is_marked-requires
is_marked-requires c =
    let row = row_here (goal.at.is_marked-requires c).In-Some-blob in
    (row.own.some, omega (arith, row.own.upto, row.sound.marks))

pub returns-then-is_marked-clause-refused : goal.returns-then-is_marked-clause-refused
returns-then-is_marked-clause-refused c answer =
    let w : World = c.args.self.now in
    let b : Blob = c.in-Some-blob.stored.now in
    let row = row_here (goal.at.returns-then-is_marked-clause-refused c).In-Some-blob in
    elim c.then-is_marked.branch [
      | then-is_marked-via-then-is_marked x ↦
          not_finishable c.args.p w c.args.caller c.args.blob c.args.version b c.in-Some-blob.ensures (inl (sym c.is_marked.ensures ∙ x.if-is_marked.true))
      | then-is_marked-via-else-is_marked+then-not-are_there x ↦
          (let nodes : x.as_slice.result.now ≡ w.nodes = x.as_slice.ensures.value ∙ ap (λ (y : World). y.nodes) c.self.view_is in
          let keys : x.as_slice-else-is_marked.result.now ≡ row_keys_of c.args.p (log_of c.args.p b.updates) c.args.version = x.as_slice-else-is_marked.ensures.value ∙ row.ranges in
          not_finishable c.args.p w c.args.caller c.args.blob c.args.version b c.in-Some-blob.ensures
          (inr (λ all. x.are_there.ensures.missing x.if-not-are_there.true (same_there w.nodes x.as_slice.result.now c.args.blob c.args.version _ x.as_slice-else-is_marked.result.now (sym nodes) (sym keys) all))))
    ]

pub index_mut-requires : goal.index_mut-requires
index_mut-requires c =
    let some = blob_some c.args.self.now.store c.args.blob c.in-Some-blob.stored.now c.in-Some-blob.ensures in
    let same : length c.self.inside.blobs.items ≡ length c.args.self.now.store.blobs = ap (λ (w : World). length w.store.blobs) c.self.view_is in
    omega (arith, some.0, some.1, c.self.inside.blobs.ok.0)

pub mark-requires : goal.mark-requires
mark-requires c =
    let w : World = c.args.self.now in
    let b : Blob = c.in-Some-blob.stored.now in
    let row = row_here (goal.at.mark-requires c).In-Some-blob in
    let At : World → Type 0 = λ x. blob_at x.store c.args.blob ≡ Some b in
    let there : At (the_view c.self.inside) = subst At (sym c.self.view_is) c.in-Some-blob.ensures in
    let at = item_of c.self.inside.blobs.items (c.args.blob == 0) (c.args.blob - 1) b there in
    let old : c.index_mut.result.now ≡ b = c.index_mut.ensures.value ∙ get_or_from_slice_get c.self.inside.blobs.items (c.args.blob - 1) b c.index_mut.result.now at.1 in
    (row.own.some, omega (arith, row.own.upto, row.sound.marks, ap (λ (x : Blob). length x.finished) old))

pub returns-clause-done : goal.returns-clause-done
returns-clause-done c =
    let w : World = c.args.self.now in
    let b : Blob = c.in-Some-blob.stored.now in
    let row = row_here (goal.at.returns-clause-done c).In-Some-blob in
    let v : World = the_view c.self.inside in
    let to : v ≡ w = c.self.view_is in
    let At : World → Type 0 = λ x. blob_at x.store c.args.blob ≡ Some b in
    let at = item_of c.self.inside.blobs.items (c.args.blob == 0) (c.args.blob - 1) b (subst At (sym to) c.in-Some-blob.ensures) in
    let old : c.index_mut.result.now ≡ b = c.index_mut.ensures.value ∙ get_or_from_slice_get c.self.inside.blobs.items (c.args.blob - 1) b c.index_mut.result.now at.1 in
    let put : Blob → List Blob = λ x. slice_set c.self.inside.blobs.items (c.args.blob - 1) x in
    let set : put c.mark.new.blob ≡ put (finish b c.args.version) = ap put (c.mark.ensures ∙ ap (λ (x : Blob). finish x c.args.version) old) in
    let Own : World → Type 0 = λ x. IsNumberedIn x c.args.blob c.args.version b in
    let all : RowIsThere c.args.p v c.args.blob c.args.version b =
    same_there c.as_slice.result.now v.nodes c.args.blob c.args.version c.as_slice-else-is_marked.result.now (row_keys_of c.args.p (log_of c.args.p b.updates) c.args.version) c.as_slice.ensures.value
    (c.as_slice-else-is_marked.ensures.value ∙ row.ranges) (c.are_there.ensures.all c.if-not-are_there.false) in
    let Done : World → Type 0 = λ x. IsDone c.args.p x (Moves.Finish c.args.caller c.args.blob c.args.version)
    (record v { store = record { limits = v.store.limits; blobs = put c.mark.new.blob } }) in
    subst Done to
    (finish_is_done c.args.p v c.args.caller c.args.blob c.args.version b (put c.mark.new.blob) (subst Own (sym to) row.own) all (sym c.is_marked.ensures ∙ c.if-is_marked.false) set)
