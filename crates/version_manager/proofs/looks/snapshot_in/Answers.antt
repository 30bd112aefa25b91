use Rattle.std.proofs.Common.{length, [], ◌∷◌, ap, sym, ◌∙◌, subst, arith}
use Rattle.std.proofs.lemmas.List.{length-take-le}
use Rattle.blob_model.specs.Content.{size_of}
use Rattle.blob_model.specs.Answer.{not_published}
use Rattle.blob_model.specs.declared.call.Outcome.TheVariants as Outcomes
use Rattle.snapshot.specs.Versions.{Version, size_now, updates_of}
use Rattle.snapshot.specs.Laws.{TellUpdates}
use Rattle.publisher.specs.Windows.{leading}
use Rattle.publisher.proofs.Leading.{published_counts}
use Rattle.version_manager.proofs.Blobs.{older_size, size_told, tells}
use Rattle.version_manager.proofs.BlobsTests.{refused_is, done_is}
use Rattle.version_manager.proofs.looks.snapshot_in.Goals as goal

pub size_at-requires : goal.size_at-requires
size_at-requires c = omega (arith, c.in_default.ensures.published, published_counts c.args.window.now.numbered.rows, ap (λ (s : Version). length s.rows) c.snapshot.ensures)

pub returns-in-Some-clause-not_opened : goal.returns-in-Some-clause-not_opened
returns-in-Some-clause-not_opened c limits s b k =
    sym (refused_is s (not_published b c.args.version ∷ []) (s, Outcomes.Size (size_of b.updates c.args.version)) c.in-Some.refusal (c.in-Some.ensures.refusal limits b k))

pub returns-in-Ok-clause-size : goal.returns-in-Ok-clause-size
returns-in-Ok-clause-size c limits s b k =
    let v = c.args.version in
    let is = c.stands.ensures.version in
    sym (done_is s (not_published b v ∷ []) (s, Outcomes.Size (size_of b.updates v)) (c.in_default.ensures.refusal limits b k))
    ∙ ap Outcomes.Size (sym (older_size limits c.args.window.now.numbered b k (omega arith) is v c.in_default.ensures.published) ∙ sym (ap size_now c.in-Ok.ensures))

pub returns-in-Ok-clause-version : goal.returns-in-Ok-clause-version
returns-in-Ok-clause-version c =
    let w = c.args.window.now.numbered in
    ap (λ (s : Version). length s.rows) c.in-Ok.ensures ∙ length-take-le c.args.version (leading w.rows) (omega (arith, c.in_default.ensures.published, published_counts w.rows))

pub returns-in-Ok-clause-tells : goal.returns-in-Ok-clause-tells
returns-in-Ok-clause-tells c limits b k =
    let w = c.args.window.now.numbered in
    let is = c.stands.ensures.version in
    let P : Version → Type 0 = λ s. TellUpdates w.page_size b.updates s.rows in
    subst P (sym c.in-Ok.ensures) (tells limits w b k (omega arith) is c.args.version c.in_default.ensures.published)

pub returns-in-Err-clause-not_opened : goal.returns-in-Err-clause-not_opened
returns-in-Err-clause-not_opened c limits s b k =
    let v = c.args.version in
    let w = c.args.window.now.numbered in
    let is = c.stands.ensures.version in
    sym
    (ap Outcomes.Size
    (
    c.size_at.ensures.size
    ∙ ap (λ (x : Version). size_of (updates_of x) v) c.snapshot.ensures
    ∙ size_told limits w b k (omega arith) is v (omega (arith, c.in_default.ensures.published, published_counts w.rows))
    )
    ∙ done_is s (not_published b v ∷ []) (s, Outcomes.Size (size_of b.updates v)) (c.in_default.ensures.refusal limits b k))
