use Rattle.std.proofs.Common.{◌≡◌, ◌≤◌, List, arith, ap, sym, ◌∙◌}
use Rattle.std.specs.Prelude.{Option}
use Rattle.blob_model.specs.Store.{Blob, assigned}
use Rattle.blob_model.specs.Content.{size_of}
use Rattle.tree_geom.specs.declared.touch.Touch.{Touch}
use Rattle.range_log.specs.Log.{size_at}
use Rattle.range_log.specs.Updates.{extents}
use Rattle.range_log.specs.Rows.{row_keys_of}
use Rattle.branching.specs.declared.Parent.{Parent}
use Rattle.branching.specs.Parents.{origin_of}
use Rattle.blob_core.specs.World.{World, origin}
use Rattle.blob_core.specs.Standing.{IsSound}
use Rattle.blob_core.proofs.state.State.row.Goals as goal
use Rattle.blob_core.proofs.state.State.row.Goals.{In-Some, Else-own-blob}

sound : (c : In-Some) → IsSound c.args.p c.args.self.now c.args.blob c.in-Some.stored.now
sound c = (c.steps_hold.ensures.stays c.args.p c.args.self.now c.requires).blobs c.args.blob c.in-Some.stored.now c.in-Some.ensures

upto : (c : Else-own-blob) → c.args.version ≤ assigned c.in-Some.stored.now
upto c = omega (arith, c.len-assigned.ensures, c.if-assigned-version.false, ap (λ (x : Blob). assigned x) c.stored.view_is, c.stored.inside.updates.ok.0)

pub touches_of-requires : goal.touches_of-requires
touches_of-requires c = let s = sound (goal.at.touches_of-requires c).In-Some in record { replay = s.replay; fits = s.fits }

pub row_keys-requires-clause-of_updates : goal.row_keys-requires-clause-of_updates
row_keys-requires-clause-of_updates c =
    let us = c.in-Some.stored.now.updates in
    (extents us, (c.page_bytes_stay.ensures.extents us (sound (goal.at.row_keys-requires-clause-of_updates c).In-Some).replay).0, c.as_slice-2.ensures.value ∙ c.in_ok-log.ensures.log)

pub row_keys-requires-clause-fits : goal.row_keys-requires-clause-fits
row_keys-requires-clause-fits c =
    let here = goal.at.row_keys-requires-clause-fits c in
    let le = upto here.Else-own-blob in
    let size : size_at c.as_slice-2.result.now c.args.version ≡ size_of c.in-Some.stored.now.updates c.args.version =
    ap (λ (l : List Touch). size_at l c.args.version) c.as_slice-2.ensures.value ∙ c.in_ok-log.ensures.sizes c.args.version le in
    omega (arith, size, (sound here.In-Some).fits c.args.version le)

pub returns : goal.returns
returns c =
    let w : World = c.args.self.now in
    let b : Blob = c.in-Some.stored.now in
    let here = goal.at.returns c in
    let s = sound here.In-Some in
    let numbered_in : c.origin-own.result ≡ origin w c.args.blob c.args.version =
    c.origin-own.ensures ∙ ap (λ (l : List (Option Parent)). origin_of l c.args.blob c.args.version) (c.as_slice.ensures.value ∙ ap (λ (x : World). x.lineage) c.self.view_is) in
    let own : c.origin-own.result ≡ c.args.blob = omega (arith, c.if-own-blob.false) in
    record {
      b = b;
      own = record { there = c.in-Some.ensures; some = omega (arith, c.if-version-eq0.false); upto = upto here.Else-own-blob; own = sym numbered_in ∙ own };
      touches = record { replay = s.replay; few = s.few; fits = s.fits; is = c.in_ok-log.ensures.log };
      ranges = c.in_ok-keys.ensures ∙ ap (λ (l : List Touch). row_keys_of c.args.p l c.args.version) (c.as_slice-2.ensures.value ∙ c.in_ok-log.ensures.log);
    }
