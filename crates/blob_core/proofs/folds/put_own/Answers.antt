use Rattle.std.proofs.Common.{◌≡◌, ℕ, ◌-◌, List, get_or, arith, ap, subst, ◌∙◌}
use Rattle.std.specs.Prelude.{IfOk}
use Rattle.blob_model.specs.Content.{Update}
use Rattle.blob_model.specs.Store.{Blob, assigned}
use Rattle.tree_geom.specs.Geometry.{page_range}
use Rattle.range_log.specs.Updates.{update_at}
use Rattle.blob_core.proofs.Rowing.{has_version, update_here}
use Rattle.blob_core.proofs.folds.put_own.Goals as goal

pub index-update-requires : goal.index-update-requires
index-update-requires c =
    let v = has_version c.args.p c.args.blob.now.updates c.args.version (page_range c.args.p c.args.page) c.requires.has in
    omega (arith, v.0, v.1, ap (λ (x : Blob). assigned x) c.blob.view_is, c.blob.inside.updates.ok.0)

pub returns : goal.returns
returns c =
    let us : List Update = c.args.blob.now.updates in
    let v = has_version c.args.p us c.args.version (page_range c.args.p c.args.page) c.requires.has in
    let u : Update = record { caller = c.update.inside.caller; place = c.update.inside.place; bytes = c.update.inside.bytes } in
    let inside : c.blob.inside.updates.items ≡ us = ap (λ (b : Blob). b.updates) c.blob.view_is in
    let item : c.index-update.result.now ≡ get_or us (c.args.version - 1) c.index-update.result.now = rw inside at c.index-update.ensures in
    let here : u ≡ update_at us c.args.version = update_here us c.args.version u v.0 v.1 (rw c.update.view_is item) in
    let Q : List ℕ → Type 0 = λ l. IfOk c.put_over.result (λ b. b.items ≡ l) in
    let own = c.own_part-own.ensures in
    let bytes : c.as_slice.result.now ≡ (update_at us c.args.version).bytes = c.as_slice.ensures ∙ ap (λ (x : Update). x.bytes) here in
    subst Q (rw (c.part-bytes.ensures, own.start, own.len, own.from, bytes)) c.put_over.ensures
