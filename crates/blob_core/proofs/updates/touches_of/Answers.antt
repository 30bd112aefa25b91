use Rattle.std.proofs.Common.{◌≡◌, ℕ, ◌+◌, suc, List, arith, ap, sym, ◌∙◌}
use Rattle.blob_model.specs.Store.{Blob}
use Rattle.blob_model.specs.Content.{Update, size_of}
use Rattle.blob_core.proofs.Logs.{falls_in, whole_log}
use Rattle.blob_core.proofs.updates.touches_of.Goals as goal

pub overflow_add-at : goal.overflow_add-at
overflow_add-at c =
    let same : c.as_slice-update-items.result.now ≡ c.args.blob.now.updates = c.as_slice-update-items.ensures.value ∙ ap (λ (b : Blob). b.updates) c.blob.view_is in
    omega (arith, (falls_in c.page_bytes_stay.ensures.extents c.args.p c.loop-update.update-index c.loop-update.size same c.requires.replay c.requires.fits c.loop-update-test.true c.update.view_is c.update-item.is c.loop-update.invariant.size).1)

pub touched-requires-clause-fits : goal.touched-requires-clause-fits
touched-requires-clause-fits c =
    let same : c.as_slice-update-items.result.now ≡ c.args.blob.now.updates = c.as_slice-update-items.ensures.value ∙ ap (λ (b : Blob). b.updates) c.blob.view_is in
    omega (arith, (falls_in c.page_bytes_stay.ensures.extents c.args.p c.loop-update.update-index c.loop-update.size same c.requires.replay c.requires.fits c.loop-update-test.true c.update.view_is c.update-item.is c.loop-update.invariant.size).1)

pub loop-update-preserved : goal.loop-update-preserved
loop-update-preserved c =
    let us : List Update = c.as_slice-update-items.result.now in
    let same : c.as_slice-update-items.result.now ≡ c.args.blob.now.updates = c.as_slice-update-items.ensures.value ∙ ap (λ (b : Blob). b.updates) c.blob.view_is in
    let f = falls_in c.page_bytes_stay.ensures.extents c.args.p c.loop-update.update-index c.loop-update.size same c.requires.replay c.requires.fits c.loop-update-test.true c.update.view_is c.update-item.is c.loop-update.invariant.size in
    let one : suc c.loop-update.update-index ≡ c.loop-update.update-index + 1 = omega arith in
    record {
      size = rw (c.max-size.ensures, c.offset_in-at.ensures, c.len-len.ensures) (f.0.next ∙ ap (λ (k : ℕ). size_of us k) one);
      log = c.in_ok-push.ensures.items
          ∙ rw (c.loop-update.invariant.log, c.touched.ensures.is, c.max-size.ensures, c.offset_in-at.ensures, c.len-len.ensures) (sym f.0.touch);
    }

pub returns : goal.returns
returns c =
    let same : c.as_slice-update-items.result.now ≡ c.args.blob.now.updates = c.as_slice-update-items.ensures.value ∙ ap (λ (b : Blob). b.updates) c.blob.view_is in
    let w = whole_log c.page_bytes_stay.ensures.extents c.args.p c.args.blob.now.updates c.as_slice-update-items.result.now c.loop-update.update-index c.loop-update.log.items same c.requires.replay
    c.loop-update-test.false c.loop-update.invariant.log in
    record { log = w.0; count = w.1; sizes = w.2 }
