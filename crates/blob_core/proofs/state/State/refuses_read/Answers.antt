use Rattle.std.proofs.Common.{◌≡◌, ℕ, ◌+◌, ◌≤◌, List, length, arith, ap, sym, ◌∙◌}
use Rattle.std.specs.Prelude.{◌||◌, nat_lt, false}
use Rattle.blob_model.specs.Content.{size_of}
use Rattle.blob_model.specs.Store.{Blob, assigned, published, true_prefix}
use Rattle.tree_geom.specs.declared.touch.Touch.{Touch}
use Rattle.range_log.specs.Log.{size_at}
use Rattle.blob_core.specs.Standing.{IsSound}
use Rattle.blob_core.proofs.Refusing.{read_refused, read_test}
use Rattle.blob_core.proofs.state.State.refuses_read.Goals as goal
use Rattle.blob_core.proofs.state.State.refuses_read.Goals.{In-Some, Else-marked-version}

sound : (c : In-Some) → IsSound c.args.p c.args.self.now c.args.blob c.in-Some.stored.now
sound c = (c.steps_hold.ensures.stays c.args.p c.args.self.now c.requires).blobs c.args.blob c.in-Some.stored.now c.in-Some.ensures

-- the version is published
upto : (c : Else-marked-version) → c.args.version ≤ published c.in-Some.stored.now
upto c =
    let front : published c.in-Some.stored.now ≡ c.marked.result =
    ap (λ (x : Blob). true_prefix x.finished) (sym c.stored.view_is) ∙ ap true_prefix (sym c.as_slice.ensures.value) ∙ sym c.marked.ensures.is in
    omega (arith, front, c.if-marked-version.false)

pub touches_of-requires : goal.touches_of-requires
touches_of-requires c = let s = sound (goal.at.touches_of-requires c).In-Some in record { replay = s.replay; fits = s.fits }

pub size_at-size-requires : goal.size_at-size-requires
size_at-size-requires c =
    let here = goal.at.size_at-size-requires c in
    omega (arith, upto here.Else-marked-version, (sound here.In-Some).front, c.in_ok-log.ensures.count, ap length c.as_slice-2.ensures.value)

pub returns : goal.returns
returns c =
    let here = goal.at.returns c in
    let b : Blob = c.in-Some.stored.now in
    let s = sound here.In-Some in
    let le = upto here.Else-marked-version in
    let upto : c.args.version ≤ assigned b = omega (arith, le, s.front) in
    let size : c.size_at-size.result ≡ size_of b.updates c.args.version =
    c.size_at-size.ensures ∙ ap (λ (l : List Touch). size_at l c.args.version) c.as_slice-2.ensures.value ∙ c.in_ok-log.ensures.sizes c.args.version upto in
    let small : c.size_at-size.result ≤ 1099511627776 = omega (arith, size, s.fits c.args.version upto) in
    read_test (published b) c.args.version c.size_at-size.result (c.args.offset + c.args.length) c.saturating_add.result le
    (λ lt. omega (arith, lt, c.saturating_add.ensures, small)) (λ lt. omega (arith, lt, c.saturating_add.ensures, small))
    ∙ ap (λ (n : ℕ). nat_lt (published b) c.args.version || (nat_lt n (c.args.offset + c.args.length) || false)) size
    ∙ sym (read_refused c.args.self.now.store 0 c.args.blob c.args.version c.args.offset c.args.length b c.in-Some.ensures)
