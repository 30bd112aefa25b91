use Rattle.std.proofs.Common.{◌≡◌, ℕ, ◌+◌, ◌*◌, ◌/◌, ◌^◌, ◌<◌, ◌≤◌, false, List, length, arith, ap, sym, ◌∙◌}
use Rattle.std.proofs.Math.Nat.{pow-le-pow_right, div-mul-le_self}
use Rattle.blob_model.specs.Content.{size_of}
use Rattle.blob_model.specs.Store.{Blob, assigned}
use Rattle.blob_model.specs.Answer.{answer}
use Rattle.blob_model.specs.History.{is_refused}
use Rattle.blob_model.specs.declared.call.Call.TheVariants as Calls
use Rattle.tree_geom.specs.declared.touch.Touch.{Touch}
use Rattle.range_log.specs.Log.{size_at}
use Rattle.range_log.specs.Extents.{size_after}
use Rattle.range_log.specs.Updates.{extents}
use Rattle.blob_core.specs.Standing.{IsSound}
use Rattle.blob_core.proofs.Growing.{size_in_log}
use Rattle.blob_core.proofs.Walking.{read_within, walked_some, walked_cut}
use Rattle.blob_core.proofs.state.State.read.Goals as goal
use Rattle.blob_core.proofs.state.State.read.Goals.{In-Some, After-size_at}

sound : (c : In-Some) → IsSound c.args.p c.args.self.now c.args.blob c.in-Some.stored.now
sound c = (c.steps_hold.ensures.stays c.args.p c.args.self.now c.requires).blobs c.args.blob c.in-Some.stored.now c.in-Some.ensures

taken : (c : In-Some) → is_refused (answer c.args.self.now.store 0 (Calls.Read c.args.blob c.args.version c.args.offset c.args.length)).1 ≡ false
taken c = sym c.in_ok-refuses_read.ensures ∙ c.if-branch.false

-- what is read lies in a version that was numbered
within : (c : In-Some) → (c.args.version ≤ assigned c.in-Some.stored.now) × (c.args.offset + c.args.length ≤ size_of c.in-Some.stored.now.updates c.args.version)
within c =
    let inside = read_within c.args.self.now.store c.args.blob c.args.version c.args.offset c.args.length c.in-Some.stored.now c.in-Some.ensures (taken c) in
    (omega (arith, inside.0, (sound c).front), inside.1)

size_is : (c : After-size_at) → c.args.version ≤ assigned c.in-Some.stored.now → c.size_at.result ≡ size_of c.in-Some.stored.now.updates c.args.version
size_is c upto = c.size_at.ensures ∙ ap (λ (l : List Touch). size_at l c.args.version) c.as_slice.ensures.value ∙ c.in_ok-log.ensures.sizes c.args.version upto

pub touches_of-requires : goal.touches_of-requires
touches_of-requires c = let s = sound (goal.at.touches_of-requires c).In-Some in record { replay = s.replay; fits = s.fits }

pub size_at-requires : goal.size_at-requires
size_at-requires c = omega (arith, (within (goal.at.size_at-requires c).In-Some).0, c.in_ok-log.ensures.count, ap length c.as_slice.ensures.value)

pub height-levels-requires-clause-some : goal.height-levels-requires-clause-some
height-levels-requires-clause-some c =
    let here = goal.at.height-levels-requires-clause-some c in
    let inside = within here.In-Some in
    omega (arith, size_is here.After-size_at inside.0, inside.1, c.if-length-eq0.false)

pub height-levels-requires-clause-fits : goal.height-levels-requires-clause-fits
height-levels-requires-clause-fits c =
    let here = goal.at.height-levels-requires-clause-fits c in
    let upto = (within here.In-Some).0 in
    omega (arith, size_is here.After-size_at upto, (sound here.In-Some).fits c.args.version upto)

pub overflow_add-last : goal.overflow_add-last
overflow_add-last c =
    let here = (goal.at.overflow_add-last c).In-Some in
    let inside = within here in
    omega (arith, inside.1, (sound here).fits c.args.version inside.0)

pub nonzero_div-first : goal.nonzero_div-first
nonzero_div-first c = omega (arith, c.bytes.ensures.bounds.0)

pub nonzero_div-last : goal.nonzero_div-last
nonzero_div-last c = omega (arith, c.bytes-2.ensures.bounds.0)

pub overflow_sub-last : goal.overflow_sub-last
overflow_sub-last c = omega (arith, c.if-length-eq0.false)

pub overflow_mul-skipped : goal.overflow_mul-skipped
overflow_mul-skipped c =
    let same : c.bytes.result ≡ c.bytes-3.result = c.bytes.ensures.is ∙ sym c.bytes-3.ensures.is in
    let down = div-mul-le_self c.args.offset c.bytes.result in
    omega (arith, down, ap (λ (n : ℕ). c.args.offset / c.bytes.result * n) same, c.ranges.offset)

pub overflow_sub-skipped : goal.overflow_sub-skipped
overflow_sub-skipped c =
    let same : c.bytes.result ≡ c.bytes-3.result = c.bytes.ensures.is ∙ sym c.bytes-3.ensures.is in
    let down = div-mul-le_self c.args.offset c.bytes.result in
    omega (arith, down, ap (λ (n : ℕ). c.args.offset / c.bytes.result * n) same)

pub add_tree-requires-clause-height : goal.add_tree-requires-clause-height
add_tree-requires-clause-height c = c.height-levels.ensures.bound

pub add_tree-requires-clause-fits : goal.add_tree-requires-clause-fits
add_tree-requires-clause-fits c =
    let two : 0 < 2 = omega arith in
    let small : 2 ^ c.height-levels.result ≤ 2 ^ 38 = pow-le-pow_right two c.height-levels.ensures.bound in
    omega (arith, small)

pub returns : goal.returns
returns c =
    let here = (goal.at.returns c).In-Some in
    let b : Blob = c.in-Some.stored.now in
    let size : c.size_at.result ≡ size_after (extents b.updates) c.args.version =
    c.size_at.ensures ∙ ap (λ (l : List Touch). size_at l c.args.version) (c.as_slice.ensures.value ∙ c.in_ok-log.ensures.log) ∙ size_in_log c.args.p b.updates c.args.version (within here).0 in
    rw (
      walked_some c.args.p c.args.self.now c.args.blob c.args.version c.args.offset c.args.length b c.in-Some.ensures (taken here),
      walked_cut c.args.p c.args.self.now c.args.blob c.args.version c.args.offset c.args.length b (omega arith),
      c.of-2.ensures,
      c.in_ok-extend_from_slice.ensures.items,
      c.new-bytes.ensures.items,
      c.part.ensures,
      c.as_slice-2.ensures.value,
      c.in_ok-add_tree.ensures,
      c.new-pages.ensures.items,
      c.height-levels.ensures.is,
      size,
      c.bytes.ensures.is,
      c.bytes-2.ensures.is,
      c.bytes-3.ensures.is,
    )
