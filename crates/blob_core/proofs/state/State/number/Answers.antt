use Rattle.std.proofs.Common.{◌≡◌, ℕ, ◌+◌, ◌-◌, ◌<◌, Bool, false, List, ◌∷◌, length, arith, ap, sym, subst, ◌∙◌, vec_len}
use Rattle.std.specs.Prelude.{◌==◌, if◌then◌else◌, Some, slice_set, vec_capacity}
use Rattle.std.specs.List.{insert}
use Rattle.std.proofs.lemmas.Option.{get_or_from_slice_get}
use Rattle.blob_model.specs.Content.{Update}
use Rattle.blob_model.specs.Store.{Blob, blob_at, assigned, published, and_update}
use Rattle.blob_model.specs.Answer.{answer}
use Rattle.blob_model.specs.History.{is_refused}
use Rattle.blob_model.specs.declared.call.Call.TheVariants as Calls
use Rattle.range_log.specs.declared.«open».OpenTouch.{OpenTouch}
use Rattle.tree_geom.specs.declared.touch.Touch.{Touch}
use Rattle.range_log.specs.Log.{size_at}
use Rattle.blob_core.specs.World.{World, UpdateEntry, waiting_after}
use Rattle.blob_core.specs.Standing.{IsSound}
use Rattle.blob_core.specs.Steps.{next_kept}
use Rattle.blob_core.specs.Acts.{IsDone}
use Rattle.blob_core.specs.declared.world.UpdateKey.{UpdateKey}
use Rattle.blob_core.specs.declared.step.Step.TheVariants as Moves
use Rattle.blob_core.specs.contracts.state.State.{the_view}
use Rattle.blob_core.proofs.Acting.{number_done}
use Rattle.blob_core.proofs.Taken.{blob_some}
use Rattle.blob_model.proofs.Stays.{item_of}
use Rattle.blob_core.proofs.Onward.{on_err}
use Rattle.blob_core.proofs.state.State.number.Goals as goal
use Rattle.blob_core.proofs.state.State.number.Goals.{In-Some-blob}

sound : (c : In-Some-blob) → IsSound c.args.p c.args.self.now c.args.blob c.in-Some-blob.stored.now
sound c = (c.steps_hold.ensures.stays c.args.p c.args.self.now c.requires).blobs c.args.blob c.in-Some-blob.stored.now c.in-Some-blob.ensures

pub touches_of-requires : goal.touches_of-requires
touches_of-requires c = let s = sound (goal.at.touches_of-requires c).In-Some-blob in record { replay = s.replay; fits = s.fits }

pub size_at-size-requires : goal.size_at-size-requires
size_at-size-requires c = omega (arith, c.len.ensures, ap length c.as_slice-3.ensures.value)

pub refuses_update-requires-clause-size : goal.refuses_update-requires-clause-size
refuses_update-requires-clause-size c =
    let count : c.len.result ≡ assigned c.in-Some-blob.stored.now = omega (arith, c.len.ensures, c.in_ok-log.ensures.count) in
    c.size_at-size.ensures
    ∙ ap (λ (l : List Touch). size_at l c.len.result) c.as_slice-3.ensures.value
    ∙ ap (λ (v : ℕ). size_at c.in_ok-log.log.items v) count
    ∙ c.in_ok-log.ensures.sizes (assigned c.in-Some-blob.stored.now) (omega arith)

pub refuses_update-requires-clause-fits : goal.refuses_update-requires-clause-fits
refuses_update-requires-clause-fits c =
    let s = sound (goal.at.refuses_update-requires-clause-fits c).In-Some-blob in
    omega (arith, refuses_update-requires-clause-size c, s.fits (assigned c.in-Some-blob.stored.now) (omega arith))

pub kept_beside-requires : goal.kept_beside-requires
kept_beside-requires c =
    let count : length c.as_slice-4.result.now ≡ assigned c.in-Some-blob.stored.now = ap length c.as_slice-4.ensures.value ∙ c.in_ok-log.ensures.count in
    record { front = omega (arith, (sound (goal.at.kept_beside-requires c).In-Some-blob).front, count); log = count }

pub overflow_add-key : goal.overflow_add-key
overflow_add-key c = omega (arith, c.len-2.ensures, c.in_ok-log.ensures.count, (sound (goal.at.overflow_add-key c).In-Some-blob).few)

pub overflow_sub-blob : goal.overflow_sub-blob
overflow_sub-blob c = (blob_some c.args.self.now.store c.args.blob c.in-Some-blob.stored.now c.in-Some-blob.ensures).0

pub index_mut-requires : goal.index_mut-requires
index_mut-requires c =
    let some = blob_some c.args.self.now.store c.args.blob c.in-Some-blob.stored.now c.in-Some-blob.ensures in
    let same : length c.self.inside.blobs.items ≡ length c.args.self.now.store.blobs = ap (λ (w : World). length w.store.blobs) c.self.view_is in
    omega (arith, some.0, some.1, c.self.inside.blobs.ok.0)

pub returns-in_err-try_reserve-clause-same : goal.returns-in_err-try_reserve-clause-same
returns-in_err-try_reserve-clause-same c =
    let v : World = the_view c.self.inside in
    let same : c.try_reserve.new.self.items ≡ v.updates = c.in_err-try_reserve.ensures.items in
    on_err c.from_residual-in_err-try_reserve.result (ap (λ (l : List (UpdateKey × UpdateEntry)). record v { updates = l }) same ∙ c.self.view_is)

pub returns-clause-done : goal.returns-clause-done
returns-clause-done c =
    let w : World = c.args.self.now in
    let v : World = the_view c.self.inside in
    let to : v ≡ w = c.self.view_is in
    let b : Blob = c.in-Some-blob.stored.now in
    let At : World → Type 0 = λ x. blob_at x.store c.args.blob ≡ Some b in
    let there : At v = subst At (sym to) c.in-Some-blob.ensures in
    let joins = rw (c.as_slice.ensures.value, c.as_slice-2.ensures, c.in-Some.is) at c.in_ok-bytes.ensures in
    let u : Update = record { caller = c.args.caller; place = c.args.place; bytes = c.in-Some.bytes } in
    let Taken : World → Type 0 = λ x. is_refused (answer x.store c.args.caller (Calls.Assign c.args.blob c.args.place c.in-Some.bytes)).1 ≡ false in
    let taken : Taken v = subst Taken (sym to) (sym c.refuses_update.ensures ∙ c.if-refuses_update.false) in
    let at = item_of v.store.blobs (c.args.blob == 0) (c.args.blob - 1) b there in
    let old : c.index_mut.result.now ≡ b = c.index_mut.ensures.value ∙ get_or_from_slice_get c.self.inside.blobs.items (c.args.blob - 1) b c.index_mut.result.now at.1 in
    let put : Blob → List Blob = λ x. slice_set c.self.inside.blobs.items (c.args.blob - 1) x in
    let set : put c.add_update.new.blob ≡ put (and_update b u) = ap put (c.in_ok-add_update.ensures.done ∙ ap (λ (x : Blob). and_update x u) old) in
    let numbered : ℕ → UpdateKey = λ n. record { blob = c.args.blob; version = n + 1 } in
    let count : c.len-2.result ≡ assigned b = omega (arith, c.len-2.ensures, c.in_ok-log.ensures.count) in
    let K : List ℕ → ℕ → List OpenTouch → UpdateEntry = λ l n t. record { pages = l; published = n; waiting = t } in
    let kept : UpdateEntry = c.in_ok-kept.kept in
    let W : List Touch → List OpenTouch = λ l. waiting_after l (published b) (assigned b - published b) in
    let beside : kept ≡ next_kept c.args.p b c.args.pages.now =
    ap (λ (l : List ℕ). K l kept.published kept.waiting) c.in_ok-kept.ensures.pages
    ∙ ap (λ (n : ℕ). K c.args.pages.now n kept.waiting) c.in_ok-kept.ensures.published
    ∙ ap (λ (t : List OpenTouch). K c.args.pages.now (published b) t) (c.in_ok-kept.ensures.waiting ∙ ap W (c.as_slice-4.ensures.value ∙ c.in_ok-log.ensures.log)) in
    let entry : UpdateKey × UpdateEntry = (numbered c.len-2.result, kept) in
    let room : vec_len c.try_reserve.new.self < vec_capacity c.try_reserve.new.self = omega (arith, c.in_ok-try_reserve.ensures.ok) in
    let pick : Bool → List (UpdateKey × UpdateEntry) = λ t. if t then insert c.try_reserve.new.self.items 0 entry else c.try_reserve.new.self.items in
    let more : c.insert.new.self.items ≡ entry ∷ v.updates =
    c.insert.ensures.items ∙ ap pick (c.insert.ensures.succeeds room) ∙ ap (λ (l : List (UpdateKey × UpdateEntry)). entry ∷ l) c.in_ok-try_reserve.ensures.items in
    let Done : World → Type 0 = λ x. IsDone c.args.p x (Moves.Assign c.args.caller c.args.blob c.args.place c.args.pages.now)
    (record v { store = record { limits = v.store.limits; blobs = put c.add_update.new.blob }; updates = c.insert.new.self.items }) in
    subst Done to
    (number_done c.args.p v c.args.blob c.args.pages.now b u (numbered c.len-2.result) kept (put c.add_update.new.blob) c.insert.new.self.items there joins.0 joins.1 taken set
    (ap numbered count) beside more)
