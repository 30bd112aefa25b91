use Rattle.std.proofs.Common.{◌≡◌, ℕ, ◌-◌, suc, List, length, get_or, arith, ap, sym, subst, ◌∙◌}
use Rattle.blob_model.specs.Content.{Update, offset_of, size_of}
use Rattle.blob_model.specs.Store.{Blob}
use Rattle.range_log.specs.Extents.{Extent, extent_at}
use Rattle.range_log.specs.Updates.{extents}
use Rattle.blob_core.proofs.Rowing.{extent_here}
use Rattle.blob_core.proofs.leaves.extent.Goals as goal
use Rattle.blob_core.proofs.leaves.extent.Goals.{After-len}

extent_is : (c : After-len) → extent_at (extents c.args.blob.now.updates) c.args.version ≡ record { at = offset_of c.update.inside.place c.size_at-before.result; len = length c.update.inside.bytes }
extent_is c =
    let us : List Update = c.args.blob.now.updates in
    let u : Update = record { caller = c.update.inside.caller; place = c.update.inside.place; bytes = c.update.inside.bytes } in
    let inside : c.blob.inside.updates.items ≡ us = ap (λ (b : Blob). b.updates) c.blob.view_is in
    let I : List Update → Type 0 = λ l. c.index-update.result.now ≡ get_or l (c.args.version - 1) c.index-update.result.now in
    let item : I us = subst I inside c.index-update.ensures in
    let P : Update → Type 0 = λ x. x ≡ get_or us (c.args.version - 1) x in
    let size : c.size_at-before.result ≡ size_of us (c.args.version - 1) = c.size_at-before.ensures ∙ c.requires.sizes (c.args.version - 1) (omega arith) in
    let e : extent_at (extents us) (suc (c.args.version - 1)) ≡ record { at = offset_of u.place c.size_at-before.result; len = length u.bytes } =
    extent_here us (c.args.version - 1) u c.size_at-before.result (omega arith) (subst P (sym c.update.view_is) item) size in
    let next : suc (c.args.version - 1) ≡ c.args.version = omega arith in
    ap (λ (n : ℕ). extent_at (extents us) n) (sym next) ∙ e

pub returns-clause-at : goal.returns-clause-at
returns-clause-at c = c.offset_in.ensures ∙ ap (λ (x : Extent). x.at) (sym (extent_is (goal.at.returns-clause-at c).After-len))

pub returns-clause-len : goal.returns-clause-len
returns-clause-len c = c.len.ensures ∙ ap (λ (x : Extent). x.len) (sym (extent_is (goal.at.returns-clause-len c).After-len))
