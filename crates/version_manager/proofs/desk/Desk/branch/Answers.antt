use Rattle.std.proofs.Common.{◌≡◌, ℕ, ◌+◌, ◌-◌, ◌<◌, ◌≤◌, List, [], ◌∷◌, ◌++◌, length, map, get_or, suc, refl, sym, ◌∙◌, ap, subst, arith}
use Rattle.std.specs.Prelude.{Some}
use Rattle.std.specs.Arc.{arc_value}
use Rattle.std.proofs.lemmas.List.{map-append, length-map}
use Rattle.blob_model.specs.History.{is_refused}
use Rattle.blob_model.specs.declared.call.Refusal.{Refusal}
use Rattle.blob_model.specs.declared.call.Call.TheVariants as Calls
use Rattle.blob_model.specs.declared.call.Event.{Event}
use Rattle.blob_model.specs.declared.call.Event.TheVariants as Events
use Rattle.branching.specs.declared.Parent.{Parent}
use Rattle.blob_model.specs.declared.call.Outcome.TheVariants as Outcomes
use Rattle.blob_model.specs.declared.call.Refusal.TheVariants as Refusals
use Rattle.publisher.specs.Windows.{Numbered, leading, published_of, version_of, window_on}
use Rattle.snapshot.specs.Versions.{older_version, under_blob}
use Rattle.publisher.proofs.Leading.{published_counts}
use Rattle.version_manager.specs.declared.entry.Entry.{Entry}
use Rattle.version_manager.specs.declared.entry.Change.TheVariants as Changes
use Rattle.version_manager.specs.Desks.{DeskState, outcome_now, no_window, with_event, windows_and, window_in}
use Rattle.version_manager.specs.Entries.{event_of}
use Rattle.version_manager.specs.DeskInvariant.{seen_in, numbered_of}
use Rattle.version_manager.specs.Origins.{parents_of, AreUnder}
use Rattle.version_manager.proofs.Desks.{IsAt, at_index, pushed_event, short_yet}
use Rattle.version_manager.proofs.NewBlobs.{branch_ahead, branch_full, branch_outcome, branch_keeps}
use Rattle.version_manager.proofs.Houses.{AreRowsIn, branch_in_houses}
use Rattle.version_manager.proofs.Keeping.{lies_at, under_at, desk_and}
use Rattle.version_manager.proofs.Origins.{branch_under}
use Rattle.version_manager.proofs.desk.Desk.branch.Goals.{After-published-published, After-branch_in}
use Rattle.version_manager.proofs.desk.Desk.branch.Goals as goal

-- the parent's window
at : (c : After-published-published)
    → IsAt c.self.invariant.kept c.args.blob c.in-Some.index c.index-parent.result.now
at c =
    let d = c.self.inside in
    at_index c.self.invariant.kept c.args.blob c.in-Some.index _ c.index-parent.result.now d.windows.ok.0 c.in-Some.ensures c.index-parent.ensures

-- its published version
front : (c : After-published-published) → c.published-published.result ≡ published_of (get_or (numbered_of c.self.inside.windows.items) (c.args.blob - 1) no_window)
front c = c.published-published.ensures ∙ ap published_of (at c).window

-- there may be one blob more
abbrev fewer : (c : After-branch_in) → length c.self.inside.windows.items ≡ c.self.inside.limits.max_blobs → ⊥
fewer c e = c.in-Ok.ensures.fewer (omega (arith, e, c.self.inside.windows.ok.0))

-- and the store makes it
outcome : (c : After-branch_in)
    → IsAt c.self.invariant.kept c.args.blob c.in-Some.index c.index-parent.result.now
    → c.published-published.result ≡ published_of (get_or (numbered_of c.self.inside.windows.items) (c.args.blob - 1) no_window)
    → outcome_now c.args.self.now c.args.caller (Calls.Branch c.args.blob c.args.version) ≡ Outcomes.Blob c.in-Ok.id
outcome c x is =
    let d = c.self.inside in
    let same : length d.windows.items + 1 ≡ c.in-Ok.id = omega (arith, c.in-Ok.ensures.id, d.windows.ok.0) in
    let le : c.args.version ≤ published_of (get_or (numbered_of d.windows.items) (c.args.blob - 1) no_window) = omega (arith, is, c.if-version-published.false) in
    let P : DeskState → Type 0 = λ s. outcome_now s c.args.caller (Calls.Branch c.args.blob c.args.version) ≡ Outcomes.Blob c.in-Ok.id in
    subst P c.self.view_is (branch_outcome c.self.invariant.kept c.args.caller c.args.blob c.args.version x.found le (fewer c)
    ∙ ap (λ (n : ℕ). Outcomes.Blob n) same)

pub returns-then-version-published-clause-refused : goal.returns-then-version-published-clause-refused
returns-then-version-published-clause-refused c =
    let d = c.self.inside in
    let here = (goal.at.returns-then-version-published-clause-refused c).After-published-published in
    let lt : published_of (get_or (numbered_of d.windows.items) (c.args.blob - 1) no_window) < c.args.version = omega (arith, front here, c.if-version-published.true) in
    let P : DeskState → Type 0 = λ s. outcome_now s c.args.caller (Calls.Branch c.args.blob c.args.version) ≡ Outcomes.Refused (Refusals.NotPublished c.args.version c.published-published.result) in
    subst P c.self.view_is (branch_ahead c.self.invariant.kept c.args.caller c.args.blob c.args.version (at here).found lt
    ∙ ap (λ (n : ℕ). Outcomes.Refused (Refusals.NotPublished c.args.version n)) (sym (front here)))

pub returns-in-Err-clause-refused : goal.returns-in-Err-clause-refused
returns-in-Err-clause-refused c =
    let d = c.self.inside in
    let here = (goal.at.returns-in-Err-clause-refused c).After-published-published in
    let le : c.args.version ≤ published_of (get_or (numbered_of d.windows.items) (c.args.blob - 1) no_window) = omega (arith, front here, c.if-version-published.false) in
    let full : length d.windows.items ≡ d.limits.max_blobs = omega (arith, c.in-Err.ensures.full.1, d.windows.ok.0) in
    let P : DeskState → Type 0 = λ s. outcome_now s c.args.caller (Calls.Branch c.args.blob c.args.version) ≡ Outcomes.Refused c.in-Err.refusal in
    subst P c.self.view_is (branch_full c.self.invariant.kept c.args.caller c.args.blob c.args.version (at here).found le full
    ∙ ap (λ (r : Refusal). Outcomes.Refused r) (sym c.in-Err.ensures.full.0))

pub invariant_of-self-2 : goal.invariant_of-self-2
invariant_of-self-2 c =
    let d = c.self.inside in
    let h = map event_of d.history.entries in
    let ws = d.windows.items in
    let houses = arc_value d.houses in
    let nodes = arc_value d.nodes in
    let blob = c.args.blob in
    let version = c.args.version in
    let before = c.index-parent.result.now in
    let here = (goal.at.invariant_of-self-2 c).After-published-published in
    let x = at here in
    let w = c.in-Ok-branch_in.window in
    let new = c.in-Ok-branch_in.ensures.new in
    let le : version ≤ published_of (get_or (numbered_of ws) (blob - 1) no_window) = omega (arith, front here, c.if-version-published.false) in
    let same : c.in-Ok.id ≡ length ws + 1 = omega (arith, c.in-Ok.ensures.id, d.windows.ok.0) in
    let keeps = branch_keeps c.self.invariant.kept c.args.caller blob version x.found le (fewer (goal.at.invariant_of-self-2 c).After-branch_in) w
    (c.in-Ok-branch_in.ensures.kept d.limits x.found.b x.keeps) c.in-Ok-branch_in.ensures.none (ap (λ (v : Numbered). v.blob) new ∙ same) (ap (λ (v : Numbered). v.page_size) new ∙ x.page) in
    let entry : Entry = record { caller = c.args.caller; change = Changes.Branch blob version } in
    let lies = branch_in_houses nodes houses before.numbered version c.in-Ok.id (lies_at c.self.invariant blob c.in-Some.index before x) in
    let parent : Parent = record { blob = blob; version = version } in
    let far : version ≤ length (leading before.numbered.rows) = omega (arith, c.published-published.ensures, c.if-version-published.false, published_counts before.numbered.rows) in
    let under = branch_under (parents_of h) parent before.numbered (suc (length ws)) (omega (arith, c.self.invariant.origins.count, length-map ws seen_in)) far
    (under_at c.self.invariant blob c.in-Some.index before x) in
    desk_and c.self.invariant _ (Events.Branch c.args.caller blob version) (Some parent) w _
    (pushed_event d.history.entries c.add.new.history.entries entry c.in-Ok-add.ensures.history) c.in-Ok-add.ensures.windows refl keeps
    (subst (λ (v : Numbered). AreRowsIn nodes houses v) (sym new) lies)
    (subst (λ (v : Numbered). AreUnder (Some parent ∷ parents_of h) (suc (length ws)) v.rows) (sym new) under)
    (short_yet d.history.entries _ _ c.in-Ok-add.ensures.history c.in-Ok-add.ensures.short) tt

pub returns-clause-new : goal.returns-clause-new
returns-clause-new c =
    let d = c.self.inside in
    let desk : List Event → List Numbered → DeskState = λ l ws. record { limits = d.limits; page_size = d.page_size; houses = arc_value d.houses; nodes = arc_value d.nodes; history = l; windows = ws } in
    let h = map event_of d.history.entries in
    let ws = d.windows.items in
    let blob = c.args.blob in
    let version = c.args.version in
    let x = at (goal.at.returns-clause-new c).After-published-published in
    let e : Event = Events.Branch c.args.caller blob version in
    let made : Numbered → Numbered = λ w. window_on (under_blob (older_version (version_of w) version) c.in-Ok.id) in
    let history = pushed_event d.history.entries c.add.new.history.entries record { caller = c.args.caller; change = Changes.Branch blob version } c.in-Ok-add.ensures.history in
    let windows = ap numbered_of c.in-Ok-add.ensures.windows ∙ map-append seen_in ws (c.in-Ok-branch_in.window ∷ []) ∙ ap (λ (w : Numbered). numbered_of ws ++ w ∷ []) (c.in-Ok-branch_in.ensures.new ∙ ap made x.window) in
    let P : DeskState → Type 0 = λ s. desk (map event_of c.add.new.history.entries) (numbered_of c.add.new.windows.items) ≡ with_event s e (windows_and s (made (window_in s blob))) in
    subst P c.self.view_is (ap (λ (l : List Event). desk l (numbered_of c.add.new.windows.items)) history ∙ ap (desk (h ++ e ∷ [])) windows)

pub returns-clause-blob : goal.returns-clause-blob
returns-clause-blob c =
    let here = (goal.at.returns-clause-blob c).After-published-published in
    outcome (goal.at.returns-clause-blob c).After-branch_in (at here) (front here)

pub returns-in_default-branch_in-clause-memory : goal.returns-in_default-branch_in-clause-memory
returns-in_default-branch_in-clause-memory c =
    let here = (goal.at.returns-in_default-branch_in-clause-memory c).After-published-published in
    ap is_refused (outcome (goal.at.returns-in_default-branch_in-clause-memory c).After-branch_in (at here) (front here))

pub returns-in_default-add-clause-memory : goal.returns-in_default-add-clause-memory
returns-in_default-add-clause-memory c =
    let here = (goal.at.returns-in_default-add-clause-memory c).After-published-published in
    ap is_refused (outcome (goal.at.returns-in_default-add-clause-memory c).After-branch_in (at here) (front here))
