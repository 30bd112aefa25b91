use Rattle.std.proofs.Common.{length, ap, sym, ◌∙◌, arith}
use Rattle.std.specs.Arc.{arc_value}
use Rattle.blob_model.specs.Content.{offset_of}
use Rattle.blob_model.specs.Store.{Blob, size_now, size_with}
use Rattle.page_store.specs.Stored.{Cut, bytes_of_pages}
use Rattle.version_manager.specs.Blobs.{Falls}
use Rattle.version_manager.specs.DeskInvariant.{Keeps}
use Rattle.version_manager.proofs.Blobs.{assigned_is, published_is}
use Rattle.version_manager.proofs.BlobsNext.{takes_as, ticket_kept, ticket_stands}
use Rattle.version_manager.proofs.blob.ticket_over.Goals.{In-Ok}
use Rattle.version_manager.proofs.blob.ticket_over.Goals as goal

-- where the update falls
falls : (c : In-Ok) (b : Blob) → Keeps c.args.limits c.args.window.now.numbered b → Falls c.args.limits c.args.window.now.numbered b c.args.place (bytes_of_pages (arc_value c.args.pages.now).pages) c.in-Ok.placed.at c.in-Ok.placed.size
falls c b k = c.in-Ok.ensures.falls b (bytes_of_pages (arc_value c.args.pages.now).pages) k (sym (c.len.ensures ∙ ap (λ (x : Cut). length (bytes_of_pages x.pages)) c.deref.ensures))

pub next_ticket-requires-clause-falls : goal.next_ticket-requires-clause-falls
next_ticket-requires-clause-falls c =
    (c.args.limits, c.requires.kept.0, c.args.place, falls (goal.at.next_ticket-requires-clause-falls c).In-Ok c.requires.kept.0 c.requires.kept.1)

pub returns-in-Ok-next_ticket-clause-at : goal.returns-in-Ok-next_ticket-clause-at
returns-in-Ok-next_ticket-clause-at c b k = c.in-Ok-next_ticket.ensures.at ∙ (falls (goal.at.returns-in-Ok-next_ticket-clause-at c).In-Ok b k).at_is

pub returns-in-Ok-next_ticket-clause-size : goal.returns-in-Ok-next_ticket-clause-size
returns-in-Ok-next_ticket-clause-size c b k = c.in-Ok-next_ticket.ensures.size ∙ (falls (goal.at.returns-in-Ok-next_ticket-clause-size c).In-Ok b k).size_is

pub returns-in-Ok-next_ticket-clause-stands : goal.returns-in-Ok-next_ticket-clause-stands
returns-in-Ok-next_ticket-clause-stands c b u k place bytes =
    let f = falls (goal.at.returns-in-Ok-next_ticket-clause-stands c).In-Ok b k in
    let done = c.in-Ok-next_ticket.ensures in
    let all = bytes_of_pages (arc_value c.args.pages.now).pages in
    let may = takes_as c.args.limits c.args.window.now.numbered b u c.args.place all place bytes f.takes in
    let at = done.at ∙ f.at_is ∙ ap (λ x. offset_of x (size_now b)) (sym place) in
    let size = done.size ∙ f.size_is ∙ ap (λ x. size_with b x all) (sym place) ∙ ap (size_with b u.place) (sym bytes) in
    ticket_stands c.args.limits c.args.window.now.numbered b u may c.in-Ok-next_ticket.ticket done.snapshot at (done.len ∙ ap length (sym bytes)) size done.published done.waiting done.version

pub returns-in-Ok-next_ticket-clause-kept : goal.returns-in-Ok-next_ticket-clause-kept
returns-in-Ok-next_ticket-clause-kept c b u k place bytes =
    let f = falls (goal.at.returns-in-Ok-next_ticket-clause-kept c).In-Ok b k in
    let done = c.in-Ok-next_ticket.ensures in
    let all = bytes_of_pages (arc_value c.args.pages.now).pages in
    let may = takes_as c.args.limits c.args.window.now.numbered b u c.args.place all place bytes f.takes in
    let at = done.at ∙ f.at_is ∙ ap (λ x. offset_of x (size_now b)) (sym place) in
    let size = done.size ∙ f.size_is ∙ ap (λ x. size_with b x all) (sym place) ∙ ap (size_with b u.place) (sym bytes) in
    ticket_kept c.args.limits c.args.window.now.numbered b u may c.in-Ok-next_ticket.ticket done.snapshot at (done.len ∙ ap length (sym bytes)) size

pub returns-in-Ok-next_ticket-clause-few : goal.returns-in-Ok-next_ticket-clause-few
returns-in-Ok-next_ticket-clause-few c =
    let b = c.requires.kept.0 in
    let k = c.requires.kept.1 in
    let may = (falls (goal.at.returns-in-Ok-next_ticket-clause-few c).In-Ok b k).takes in
    omega (arith, may.waits, may.bounds.waiting, assigned_is c.args.limits c.args.window.now.numbered b k, published_is c.args.limits c.args.window.now.numbered b k)

pub returns-in-Ok-next_ticket-clause-room : goal.returns-in-Ok-next_ticket-clause-room
returns-in-Ok-next_ticket-clause-room c =
    let k = c.requires.kept.1 in
    let may = (falls (goal.at.returns-in-Ok-next_ticket-clause-room c).In-Ok c.requires.kept.0 k).takes in
    omega (arith, may.versions, may.bounds.versions, assigned_is c.args.limits c.args.window.now.numbered c.requires.kept.0 k)
