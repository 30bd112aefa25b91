use Rattle.std.proofs.Common.{◌≡◌, ℕ, suc, ◌+◌, ◌-◌, List, [], ◌∷◌, map, drop, take, sym, ◌∙◌, ap, subst, arith}
use Rattle.std.specs.Prelude.{Option, Some, None, slice_get}
use Rattle.std.specs.Arc.{arc_value}
use Rattle.blob_model.specs.Content.{Update}
use Rattle.blob_model.specs.Store.{Blob, blob_at}
use Rattle.blob_model.specs.Answer.{first_refusal, not_numbered, already}
use Rattle.blob_model.specs.declared.call.Refusal.{Refusal}
use Rattle.blob_model.specs.declared.call.Refusal.TheVariants as Refusals
use Rattle.blob_model.specs.History.{store_of}
use Rattle.page_store.specs.Stored.{Cut, LieAmong}
use Rattle.snapshot.specs.Versions.{Version, IsVersion}
use Rattle.publisher.specs.Windows.{Numbered, published_of, version_of, waiting_of}
use Rattle.version_manager.specs.declared.waiting.WaitingUpdate.{WaitingUpdate}
use Rattle.version_manager.specs.Desks.{DeskState, window_in, updates_or_none, ticket_refusal, opens_below, IsTicketOf, IsUnfinished, HasHintsBelow}
use Rattle.version_manager.specs.DeskInvariant.{IsWaitingUpdate}
use Rattle.version_manager.specs.Entries.{event_of}
use Rattle.version_manager.proofs.Desks.{IsAt, at_index}
use Rattle.version_manager.proofs.Hints.{has_hints_below}
use Rattle.version_manager.proofs.Keeping.{lies_at, under_at}
use Rattle.version_manager.proofs.Origins.{version_under}
use Rattle.version_manager.proofs.Reissuing.{below_taken, is_ticket_again, is_waiting}
use Rattle.version_manager.proofs.desk.Desk.ticket_of.Goals.{After-index-window, After-update_at-update}
use Rattle.version_manager.proofs.desk.Desk.ticket_of.Goals as goal

-- the refusal of a blob that is there or isn't
abbrev refusal_of : Option Blob → ℕ → ℕ → Option Refusal
refusal_of o blob version = elim o [ None ↦ Some (Refusals.NoBlob blob) | Some b ↦ first_refusal (not_numbered b version ∷ already b version ∷ []) ]

-- the blob's window
at : (c : After-index-window)
    → IsAt c.self.invariant.kept c.args.blob c.in-Some.index c.index-window.result.now
at c =
    let d = c.self.inside in
    at_index c.self.invariant.kept c.args.blob c.in-Some.index _ c.index-window.result.now d.windows.ok.0 c.in-Some.ensures c.index-window.ensures

-- what the store says of the version there
told : (c : After-index-window) (o : Option Refusal) → o ≡ first_refusal (not_numbered (at c).found.b c.args.version ∷ already (at c).found.b c.args.version ∷ []) → ticket_refusal c.args.self.now c.args.blob c.args.version ≡ o
told c o is =
    let P : DeskState → Type 0 = λ s. ticket_refusal s c.args.blob c.args.version ≡ o in
    subst P c.self.view_is (ap (λ (x : Option Blob). refusal_of x c.args.blob c.args.version) (at c).found.at ∙ sym is)

-- the update that waits
own : (c : After-update_at-update) (b : Blob) → ((i : ℕ) (u : WaitingUpdate) → slice_get c.index-window.result.now.updates i ≡ Some u
    → IsWaitingUpdate c.self.inside.page_size (arc_value c.self.inside.houses) b.updates (suc (published_of c.index-window.result.now.numbered + i)) u)
    → IsWaitingUpdate c.self.inside.page_size (arc_value c.self.inside.houses) b.updates c.args.version c.update_at-update.result.now
own c b waits =
    let n = published_of c.index-window.result.now.numbered in
    let u = c.update_at-update.result.now in
    let is : suc (n + (c.args.version - n - 1)) ≡ c.args.version = omega (arith, c.in_default-unfinishable.ensures.waits) in
    subst (λ (v : ℕ). IsWaitingUpdate c.self.inside.page_size (arc_value c.self.inside.houses) b.updates v u) is (waits (c.args.version - n - 1) u c.update_at-update.ensures)

pub returns-in-Some-unfinishable-clause-refused : goal.returns-in-Some-unfinishable-clause-refused
returns-in-Some-unfinishable-clause-refused c =
    let here = (goal.at.returns-in-Some-unfinishable-clause-refused c).After-index-window in
    told here _ (c.in-Some-unfinishable.ensures.refusal c.self.inside.limits (at here).found.b (at here).keeps)

pub ticket_again-requires-clause-update : goal.ticket_again-requires-clause-update
ticket_again-requires-clause-update c =
    let x = at (goal.at.ticket_again-requires-clause-update c).After-index-window in
    let houses = arc_value c.self.inside.houses in
    let u = own (goal.at.ticket_again-requires-clause-update c).After-update_at-update x.found.b x.waits in
    (c.self.inside.limits, x.found.b, houses, x.keeps, subst (λ (p : ℕ). IsWaitingUpdate p houses x.found.b.updates c.args.version c.update_at-update.result.now) (sym x.page) u)

pub returns-in-Ok-clause-ticket : goal.returns-in-Ok-clause-ticket
returns-in-Ok-clause-ticket c =
    let d = c.self.inside in
    let x = at (goal.at.returns-in-Ok-clause-ticket c).After-index-window in
    let b = x.found.b in
    let houses = arc_value d.houses in
    let v = c.args.version in
    let update = c.update_at-update.result.now in
    let u = own (goal.at.returns-in-Ok-clause-ticket c).After-update_at-update b x.waits in
    let seen = subst (λ (p : ℕ). IsWaitingUpdate p houses b.updates v update) (sym x.page) u in
    let t = c.in-Ok.ticket in
    let done = c.in-Ok.ensures in
    let O : ℕ → List Update = λ i. updates_or_none (blob_at (store_of d.limits (map event_of d.history.entries)) i) in
    let P : DeskState → Type 0 = λ s. IsTicketOf s t in
    subst P c.self.view_is (is_ticket_again _ t b.updates v d.page_size houses update (ap O (done.blob ∙ x.id) ∙ ap updates_or_none x.found.at) done.version
    (ap (λ (s : Version). s.page_size) done.snapshot ∙ x.page) u done.caller done.pages (done.stands d.limits b houses x.keeps seen))

pub returns-in-Ok-clause-blob : goal.returns-in-Ok-clause-blob
returns-in-Ok-clause-blob c = c.in-Ok.ensures.blob ∙ (at (goal.at.returns-in-Ok-clause-blob c).After-index-window).id

pub returns-in-Ok-clause-snapshot : goal.returns-in-Ok-clause-snapshot
returns-in-Ok-clause-snapshot c =
    let P : DeskState → Type 0 = λ s. c.in-Ok.ticket.snapshot ≡ version_of (window_in s c.args.blob) in
    subst P c.self.view_is (c.in-Ok.ensures.snapshot ∙ ap version_of (at (goal.at.returns-in-Ok-clause-snapshot c).After-index-window).window)

pub returns-in-Ok-clause-waiting : goal.returns-in-Ok-clause-waiting
returns-in-Ok-clause-waiting c =
    let w = c.index-window.result.now.numbered in
    let n = published_of w in
    let few : c.args.version - n - 1 ≡ c.args.version - (n + 1) = omega arith in
    let P : DeskState → Type 0 = λ s. c.in-Ok.ticket.waiting ≡ opens_below c.args.version (waiting_of (window_in s c.args.blob)) in
    subst P c.self.view_is (
    c.in-Ok.ensures.waiting
    ∙ ap (λ (k : ℕ). take k (waiting_of w)) few
    ∙ sym (below_taken c.args.version (n + 1) (drop n w.log))
    ∙ ap (λ (v : Numbered). opens_below c.args.version (waiting_of v)) (at (goal.at.returns-in-Ok-clause-waiting c).After-index-window).window
    )

pub returns-in-Ok-clause-hints : goal.returns-in-Ok-clause-hints
returns-in-Ok-clause-hints c =
    let d = c.self.inside in
    let h = map event_of d.history.entries in
    let w = c.index-window.result.now in
    let x = at (goal.at.returns-in-Ok-clause-hints c).After-index-window in
    let t = c.in-Ok.ticket in
    let done = c.in-Ok.ensures in
    let lies = lies_at c.self.invariant c.args.blob c.in-Some.index w x in
    let under = under_at c.self.invariant c.args.blob c.in-Some.index w x in
    let waiting = done.waiting ∙ ap (λ (v : ℕ). take (v - published_of w.numbered - 1) (waiting_of w.numbered)) (sym done.version) in
    let P : DeskState → Type 0 = λ s. HasHintsBelow s c.args.blob t in
    subst P c.self.view_is (has_hints_below _ c.args.blob t x.found.b w.numbered d.limits x.found.at x.id x.page x.keeps (sym c.stands.ensures.log) (subst (λ (v : Version). IsVersion v) done.snapshot done.published)
    done.snapshot waiting lies (version_under h c.args.blob w.numbered under))

pub returns-in-Ok-clause-here : goal.returns-in-Ok-clause-here
returns-in-Ok-clause-here c =
    let x = at (goal.at.returns-in-Ok-clause-here c).After-index-window in
    let u = own (goal.at.returns-in-Ok-clause-here c).After-update_at-update x.found.b x.waits in
    let P : DeskState → Type 0 = λ s. LieAmong s.houses c.in-Ok.ticket.pages.pages in
    subst P c.self.view_is (subst (λ (q : Cut). LieAmong (arc_value c.self.inside.houses) q.pages) (sym c.in-Ok.ensures.pages) u.here)

pub returns-in-Ok-clause-unfinished : goal.returns-in-Ok-clause-unfinished
returns-in-Ok-clause-unfinished c =
    let x = at (goal.at.returns-in-Ok-clause-unfinished c).After-index-window in
    let waits = c.in_default-unfinishable.ensures.waits in
    let P : DeskState → Type 0 = λ s. IsUnfinished s c.args.blob c.args.version in
    subst P c.self.view_is (is_waiting _ c.args.blob c.args.version x.found.b x.found.at (omega (arith, waits)) (omega (arith, waits, x.keeps.stands.counted))
    (c.in_default-unfinishable.ensures.refusal c.self.inside.limits x.found.b x.keeps))

pub returns-in-Ok-clause-done : goal.returns-in-Ok-clause-done
returns-in-Ok-clause-done c =
    let here = (goal.at.returns-in-Ok-clause-done c).After-index-window in
    told here None (c.in_default-unfinishable.ensures.refusal c.self.inside.limits (at here).found.b (at here).keeps)

pub returns-in-Err-clause-memory : goal.returns-in-Err-clause-memory
returns-in-Err-clause-memory c =
    let here = (goal.at.returns-in-Err-clause-memory c).After-index-window in
    told here None (c.in_default-unfinishable.ensures.refusal c.self.inside.limits (at here).found.b (at here).keeps)
