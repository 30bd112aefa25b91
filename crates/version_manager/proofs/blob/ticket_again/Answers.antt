use Rattle.std.proofs.Common.{◌≡◌, ℕ, suc, ◌-◌, ◌<◌, List, length, take, ap, sym, ◌∙◌, subst, arith}
use Rattle.blob_model.specs.Content.{size_of}
use Rattle.blob_model.specs.Limits.{Bounds}
use Rattle.blob_model.specs.Store.{Blob}
use Rattle.range_log.specs.declared.open.OpenTouch.{OpenTouch}
use Rattle.range_log.specs.Open.{open_at}
use Rattle.range_log.specs.Updates.{update_at, extent_of, extents}
use Rattle.page_store.specs.House.{House}
use Rattle.page_store.specs.Stored.{Cut, bytes_of_pages}
use Rattle.border_hints.specs.Numbered.{NumberedUpdate, IsTicketAmong}
use Rattle.publisher.specs.Windows.{published_of, waiting_of}
use Rattle.version_manager.specs.DeskInvariant.{Keeps, IsWaitingUpdate}
use Rattle.version_manager.proofs.Reissuing.{TellBelow, begins, size_next, waits_size, waits_before, tell_below, stands_again}
use Rattle.version_manager.proofs.blob.ticket_again.Goals.{After-waiting-waiting, After-at-size, In_ok-first_copied, After-len}
use Rattle.version_manager.proofs.blob.ticket_again.Goals as goal

-- the version's touch is among those that wait
within : (c : After-waiting-waiting) → c.place-below.result < length c.waiting-waiting.result.now
within c =
    let r = c.requires.update in
    let before = waits_before r.0 c.args.window.now.numbered r.1 r.3 (sym c.stands.ensures.log) (c.args.version - 1) (omega (arith, c.requires.waits)) (omega (arith, c.requires.waits)) in
    omega (arith, before, ap length c.waiting-waiting.ensures, c.place-below.ensures)

-- and tells the size after the update
sized : (c : After-at-size) (limits : Bounds) (b : Blob) → Keeps limits c.args.window.now.numbered b → c.at-size.result.touch.size ≡ size_of b.updates (suc (c.args.version - 1))
sized c limits b k =
    let w = c.args.window.now.numbered in
    let S : OpenTouch → ℕ = λ o. o.touch.size in
    let count : c.place-below.result ≡ c.args.version - 1 - published_of w = omega (arith, c.place-below.ensures) in
    ap S c.at-size.ensures ∙ ap (λ l. S (open_at l c.place-below.result)) c.waiting-waiting.ensures ∙ ap (λ (n : ℕ). S (open_at (waiting_of w) n)) count
    ∙ waits_size limits w b k (sym c.stands.ensures.log) (c.args.version - 1) (omega (arith, c.requires.waits)) (omega (arith, c.requires.waits))

-- the touches below it
opens : (c : In_ok-first_copied) → c.in_ok-first_copied.field-0 ≡ take (c.args.version - 1 - published_of c.args.window.now.numbered) (waiting_of c.args.window.now.numbered)
opens c =
    let w = c.args.window.now.numbered in
    let count : c.place-below.result ≡ c.args.version - 1 - published_of w = omega (arith, c.place-below.ensures) in
    c.in_ok-first_copied.ensures ∙ ap (take c.place-below.result) c.waiting-waiting.ensures ∙ ap (λ (n : ℕ). take n (waiting_of w)) count

-- what the hints tell
told : (c : In_ok-first_copied) → TellBelow c.requires.update.1.updates (c.args.version - 1) c.in_ok-published_in.field-0 c.in_ok-first_copied.field-0
told c =
    let r = c.requires.update in
    tell_below r.0 c.args.window.now.numbered r.1 r.3 (sym c.stands.ensures.log) (c.args.version - 1) (omega (arith, c.requires.waits)) (omega (arith, c.requires.waits)) c.stands.ensures.version _ _
    c.in_ok-published_in.ensures (opens c)

-- where the update falls, and how many bytes it has
falls : (c : After-len) (b : Blob) (houses : List House) → IsWaitingUpdate c.args.window.now.numbered.page_size houses b.updates c.args.version c.args.update.now → let n = suc (c.args.version - 1) in
    (c.args.update.now.at ≡ (extent_of b.updates n).at) × (c.len.result ≡ length (update_at b.updates n).bytes)
falls c b houses u =
    let v : c.args.version ≡ suc (c.args.version - 1) = omega (arith, c.requires.waits) in (
      u.at ∙ ap (λ (n : ℕ). (extent_of b.updates n).at) v,
      c.len.ensures ∙ ap (λ (x : Cut). length (bytes_of_pages x.pages)) (c.deref.ensures ∙ c.in_ok-pages.ensures) ∙ ap length u.bytes ∙ ap (λ (n : ℕ). length (update_at b.updates n).bytes) v,
    )

pub at-size-requires : goal.at-size-requires
at-size-requires c = within (goal.at.at-size-requires c).After-waiting-waiting

pub first_copied-requires : goal.first_copied-requires
first_copied-requires c = omega (arith, within (goal.at.first_copied-requires c).After-waiting-waiting)

pub of-requires-clause-waiting : goal.of-requires-clause-waiting
of-requires-clause-waiting c = (told (goal.at.of-requires-clause-waiting c).In_ok-first_copied).first

pub of-requires-clause-version : goal.of-requires-clause-version
of-requires-clause-version c = omega (arith, (told (goal.at.of-requires-clause-version c).In_ok-first_copied).count, c.requires.waits)

pub of-requires-clause-of_updates : goal.of-requires-clause-of_updates
of-requires-clause-of_updates c = (told (goal.at.of-requires-clause-of_updates c).In_ok-first_copied).log

pub of-requires-clause-at : goal.of-requires-clause-at
of-requires-clause-at c =
    let r = c.requires.update in
    let own = begins r.0 c.args.window.now.numbered r.1 r.3 (sym c.stands.ensures.log) (c.args.version - 1) (omega (arith, c.requires.waits)) (omega (arith, c.requires.waits)) in
    omega (arith, (told (goal.at.of-requires-clause-at c).In_ok-first_copied).size, own.0, (falls (goal.at.of-requires-clause-at c).After-len r.1 r.2 r.4).0)

pub of-requires-clause-size : goal.of-requires-clause-size
of-requires-clause-size c =
    let r = c.requires.update in
    let next = size_next r.0 c.args.window.now.numbered r.1 r.3 (sym c.stands.ensures.log) (c.args.version - 1) (omega (arith, c.requires.waits)) (omega (arith, c.requires.waits)) in
    let own = falls (goal.at.of-requires-clause-size c).After-len r.1 r.2 r.4 in
    omega (arith, sized (goal.at.of-requires-clause-size c).After-at-size r.0 r.1 r.3, next, (told (goal.at.of-requires-clause-size c).In_ok-first_copied).size, own.0, own.1)

pub of-requires-clause-fits : goal.of-requires-clause-fits
of-requires-clause-fits c =
    let r = c.requires.update in
    omega (arith, sized (goal.at.of-requires-clause-fits c).After-at-size r.0 r.1 r.3, r.3.stands.fits (suc (c.args.version - 1)) (omega (arith, c.requires.waits, r.3.stands.counted)))

pub returns-clause-stands : goal.returns-clause-stands
returns-clause-stands c limits b houses k u =
    let i : ℕ = c.args.version - 1 in
    let t = c.of.result in
    let here = goal.at.returns-clause-stands c in
    let own = falls here.After-len b houses u in
    let v : c.args.version ≡ suc i = omega (arith, c.requires.waits) in
    let T : ℕ → Type 0 = λ n. IsTicketAmong t (extents (take n b.updates)) in
    let is = c.of.ensures in
    subst T (sym v) (stands_again limits c.args.window.now.numbered b k (sym c.stands.ensures.log) i (omega (arith, c.requires.waits)) (omega (arith, c.requires.waits)) c.stands.ensures.version t
    (ap (λ (x : NumberedUpdate). x.snapshot) is ∙ c.in_ok-published_in.ensures) (ap (λ (x : NumberedUpdate). x.waiting) is ∙ opens here.In_ok-first_copied) (ap (λ (x : NumberedUpdate). x.version) is ∙ v)
    (ap (λ (x : NumberedUpdate). x.at) is ∙ own.0) (ap (λ (x : NumberedUpdate). x.len) is ∙ own.1) (ap (λ (x : NumberedUpdate). x.size) is ∙ sized here.After-at-size limits b k))
