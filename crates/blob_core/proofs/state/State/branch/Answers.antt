use Rattle.std.proofs.Common.{◌≡◌, ap, sym, arith, ◌∙◌}
use Rattle.blob_model.specs.Store.{Blob, published, true_prefix}
use Rattle.blob_core.specs.Standing.{IsSound}
use Rattle.blob_core.proofs.state.State.branch.Goals as goal

pub branched-requires : goal.branched-requires
branched-requires c =
    let b : Blob = c.in-Some.parent.now in
    let s : IsSound c.args.p c.args.self.now c.args.blob b = (c.steps_hold.ensures.stays c.args.p c.args.self.now c.requires).blobs c.args.blob b c.in-Some.ensures in
    let e : published b ≡ c.marked-published.result =
    ap (λ (x : Blob). true_prefix x.finished) (sym c.parent.view_is) ∙ ap true_prefix (sym c.as_slice.ensures.value) ∙ sym c.marked-published.ensures.is in
    omega (arith, s.front)
