use Rattle.std.proofs.Common.{◌≡◌, length, [], ◌∷◌, ap, ◌∙◌, subst, arith}
use Rattle.blob_model.specs.Content.{size_of}
use Rattle.blob_model.specs.Store.{assigned, published}
use Rattle.blob_model.specs.Answer.{in_blob, not_published, not_numbered, pending}
use Rattle.blob_model.specs.declared.call.Outcome.TheVariants as Outcomes
use Rattle.snapshot.specs.Versions.{Version, IsVersion, size_now, updates_of}
use Rattle.publisher.proofs.Leading.{published_counts}
use Rattle.version_manager.proofs.Blobs.{assigned_is, published_is, leads, size_told, size_published}
use Rattle.version_manager.proofs.BlobsTests.{refused_is, done_is}
use Rattle.version_manager.proofs.looks.look_in.Goals as goal

pub returns-in-Recent : goal.returns-in-Recent
returns-in-Recent c limits s caller blob b at k =
    let w = c.args.window.now.numbered in
    let is = subst IsVersion c.snapshot-snapshot.ensures c.version.ensures.stands in
    let version : c.version.result ≡ published b = c.version.ensures.count ∙ ap (λ (x : Version). length x.rows) c.snapshot-snapshot.ensures ∙ leads limits w b k (omega arith) ∙ published_is limits w b k in
    let size : c.size.result ≡ size_of b.updates (published b) =
    c.size.ensures.size ∙ ap size_now c.snapshot-snapshot.ensures ∙ size_published limits w b k (omega arith) is ∙ ap (size_of b.updates) (published_is limits w b k) in
    rw (c.in-Recent.is, at, in_blob) (cc)

pub size_at-requires : goal.size_at-requires
size_at-requires c = omega (arith, c.in-None.ensures.published, published_counts c.args.window.now.numbered.rows, ap (λ (x : Version). length x.rows) c.snapshot.ensures)

pub returns-in-Some : goal.returns-in-Some
returns-in-Some c limits s caller blob b at k =
    let v = c.in-Size.version in
    rw (c.in-Size.is, at, in_blob) (refused_is s (not_published b v ∷ []) (s, Outcomes.Size (size_of b.updates v)) c.in-Some.refusal (c.in-Some.ensures.refusal limits b k))

pub returns-in-None : goal.returns-in-None
returns-in-None c limits s caller blob b at k =
    let v = c.in-Size.version in
    let w = c.args.window.now.numbered in
    let is = c.stands.ensures.version in
    let size : c.size_at.result ≡ size_of b.updates v =
    c.size_at.ensures.size
    ∙ ap (λ (x : Version). size_of (updates_of x) v) c.snapshot.ensures
    ∙ size_told limits w b k (omega arith) is v (omega (arith, c.in-None.ensures.published, published_counts w.rows)) in
    rw (c.in-Size.is, at, in_blob) (ap Outcomes.Size size ∙ done_is s (not_published b v ∷ []) (s, Outcomes.Size (size_of b.updates v)) (c.in-None.ensures.refusal limits b k))

pub returns-in-Some-unsynced : goal.returns-in-Some-unsynced
returns-in-Some-unsynced c limits s caller blob b at k =
    let v = c.in-Sync.version in
    rw (c.in-Sync.is, at, in_blob) (refused_is s (not_numbered b v ∷ pending b v ∷ []) (s, Outcomes.Synced v) c.in-Some-unsynced.refusal (c.in-Some-unsynced.ensures limits b k))

pub returns-in-None-unsynced : goal.returns-in-None-unsynced
returns-in-None-unsynced c limits s caller blob b at k =
    let v = c.in-Sync.version in
    rw (c.in-Sync.is, at, in_blob) (done_is s (not_numbered b v ∷ pending b v ∷ []) (s, Outcomes.Synced v) (c.in-None-unsynced.ensures limits b k))

pub returns-in-Status : goal.returns-in-Status
returns-in-Status c limits s caller blob b at k =
    let w = c.args.window.now.numbered in
    let all : c.assigned.result ≡ assigned b = c.assigned.ensures.log ∙ assigned_is limits w b k in
    let done : c.published.result ≡ published b = c.published.ensures ∙ published_is limits w b k in
    let held_is = c.held_by.ensures limits b k in
    rw (c.in-Status.is, at, in_blob) (cc)
